-- `decimal::valued_at` meets its contract: the digits so far spell the value.
use Prim.Native.Nat.{◌-◌}
use lib.ListN.{length}
use Rattle.decimal.proofs.Valued.{Spelling}
use Rattle.decimal.proofs.valued_at.Given as goal

abbrev pub invariant-loop-digit : goal.invariant-loop-digit
invariant-loop-digit l = Spelling l.most l.s l.at l.end l.value

abbrev pub decreases-loop-digit : goal.decreases-loop-digit
decreases-loop-digit l = length l.s - l.end
