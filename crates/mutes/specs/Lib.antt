pub mod LookEnds
