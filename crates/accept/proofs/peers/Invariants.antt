use Prim.Native.Nat.{◌-◌, ◌≤◌}
use Rattle.form_spec.specs.Pass.{times}
use Rattle.page_spec.specs.Peers.{peer}
use Rattle.accept_laws.specs.Runs.{Through}
use Rattle.accept.proofs.peers.Given as goal

abbrev pub invariant-loop : goal.invariant-loop
invariant-loop l = (l.counter ≤ l.peer_count) × (Through (times (l.peer_count - l.counter) peer) l.m l.at → Through (times l.peer_count peer) l.m l.from)
