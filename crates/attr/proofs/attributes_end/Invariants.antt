use Prim.Native.Nat.{◌+◌, ◌-◌}
use lib.ListN.{length}
use Rattle.attr.proofs.Laws.{Going}
use Rattle.attr.proofs.attributes_end.Given as goal

abbrev pub invariant-loop-at : goal.invariant-loop-at
invariant-loop-at l = Going l.m l.at

abbrev pub decreases-loop-at : goal.decreases-loop-at
decreases-loop-at l = length l.m + 65540 - l.at
