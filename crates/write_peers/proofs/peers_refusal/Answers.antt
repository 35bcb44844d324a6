-- `write_peers::peers_refusal` meets its contract: the count, then what the reader says.
use Rattle.page_spec.specs.Peers.{peer}
use Rattle.write_laws.proofs.Items.{items_read}
use Rattle.write_peers.proofs.peers_refusal.Goals as goal

pub returns : goal.returns
returns c = let a = c.args in items_read peer a.count a.peers.now _ _ c.in_ok-fits.ensures c.peers_at.ensures
