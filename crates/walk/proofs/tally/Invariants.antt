use Prim.Native.Nat.{◌-◌}
use lib.ListN.{length}
use Rattle.walk.proofs.Tallying.{Tallying}
use Rattle.walk.proofs.tally.Given as goal

abbrev pub invariant-loop-end : goal.invariant-loop-end
invariant-loop-end l = Tallying l.heed l.longest l.d l.at l.table l.records l.changes l.breaks l.last l.cells

abbrev pub decreases-loop-end : goal.decreases-loop-end
decreases-loop-end l = length l.d - l.at
