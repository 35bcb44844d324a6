use mathlib.Core.Path.{◌≡◌}
use Prim.Native.Nat.{◌-◌, ◌≤◌}
use Rattle.report_add.proofs.Sums.{laid}
use Rattle.report_add.proofs.put_sums.Given as goal

abbrev pub invariant-loop-k : goal.invariant-loop-k
invariant-loop-k l = (l.k ≤ 39) × (l.report ≡ laid l.initial.report l.more l.k)

abbrev pub decreases-loop-k : goal.decreases-loop-k
decreases-loop-k l = 39 - l.k
