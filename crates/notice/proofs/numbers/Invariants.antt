use Rattle.std.proofs.Common.{◌≡◌, ◌+◌, ◌-◌, ◌≤◌, ◌++◌, length, take, drop}
use Rattle.report_spec.specs.Own.{joined, numbers}
use Rattle.notice.proofs.numbers.Given as goal

abbrev pub invariant-loop-k : goal.invariant-loop-k
invariant-loop-k l = (l.k ≤ 36) × (length l.all ≡ 39) × (take (3 + l.k) l.all ++ drop l.k (joined l.cells) ≡ numbers l.records l.changes l.breaks l.cells)

abbrev pub decreases-loop-k : goal.decreases-loop-k
decreases-loop-k l = 36 - l.k
