pub mod ShownPeer
