use Rattle.page_spec.specs.Peers.{peer_sized}
use Rattle.octets_laws.proofs.Rules.{flow}
use Rattle.peers.proofs.peer_sized.Goals as goal

pub returns-then-kind-eq1 : goal.returns-then-kind-eq1
unfolding peer_sized
returns-then-kind-eq1 c = search flow depth 12

pub returns : goal.returns
unfolding peer_sized
returns c = search flow depth 12
