use mathlib.Core.Path.{◌≡◌}
use Prim.Native.Nat.{◌-◌, ◌≤◌}
use Rattle.form_spec.specs.Refusal.{refused}
use Rattle.octets_laws.proofs.Items.{goes}
use Rattle.page_spec.specs.Rib.{entry}
use Rattle.record_spec.specs.Fields as show
use Rattle.std.specs.Prelude.{Ok}
use Rattle.rib.proofs.Laws.{onward, goes_to, stops}
use Rattle.rib.proofs.entries_at.Given as goal

-- A loop over entries: what is left to go through is what was there at first.
abbrev pub invariant-loop : goal.invariant-loop
invariant-loop g l =
    (l.counter ≤ l.count)
    × (goes show.entry refused refused onward goes_to stops (entry l.peers) (Ok l.s) l.m (l.count - l.counter) l.at
    ≡ goes show.entry refused refused onward goes_to stops (entry l.peers) (Ok l.s) l.m l.count l.from)
