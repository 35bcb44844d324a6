use mathlib.Core.Path.{◌≡◌}
use Prim.Native.Nat.{◌-◌, ◌≤◌}
use lib.ListN.{drop}
use Rattle.report_spec.specs.Sum.{sums, fit}
use Rattle.report_add.proofs.fit.Given as goal

abbrev pub invariant-loop-i : goal.invariant-loop-i
invariant-loop-i l = (l.i ≤ 39) × (fit (sums l.report l.more) ≡ fit (sums (drop l.i l.report) (drop l.i l.more)))

abbrev pub decreases-loop-i : goal.decreases-loop-i
decreases-loop-i l = 39 - l.i
