use Prim.Native.Nat.{◌-◌, ◌≤◌}
use lib.ListN.{length}
use Rattle.form_spec.specs.Pass.{times}
use Rattle.page_spec.specs.Rib.{entry}
use Rattle.accept_laws.specs.Runs.{Through}
use Rattle.accept.proofs.entries.Given as goal

abbrev pub invariant-loop : goal.invariant-loop
invariant-loop l = (l.at ≤ length l.m) × (l.counter ≤ l.entry_count) × (Through (times (l.entry_count - l.counter) (entry l.peers)) l.m l.at → Through (times l.entry_count (entry l.peers)) l.m l.from)
