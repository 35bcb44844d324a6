use mathlib.Core.Path.{◌≡◌}
use Prim.Native.Nat.{◌-◌, ◌≤◌}
use Rattle.form_spec.specs.Refusal.{refused}
use Rattle.octets_laws.proofs.Items.{goes}
use Rattle.page_spec.specs.Peers.{peer}
use Rattle.record_spec.specs.Fields as show
use Rattle.std.specs.Prelude.{Ok}
use Rattle.peers.proofs.Laws.{onward, goes_to, stops}
use Rattle.peers.proofs.peers_at.Given as goal

-- A loop over peers: what is left to go through is what was there at first.
abbrev pub invariant-loop : goal.invariant-loop
invariant-loop g l =
    (l.counter ≤ l.count)
    × (goes show.peer refused refused onward goes_to stops peer (Ok l.s) l.m (l.count - l.counter) l.at
    ≡ goes show.peer refused refused onward goes_to stops peer (Ok l.s) l.m l.count l.from)
