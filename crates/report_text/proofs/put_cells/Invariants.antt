use mathlib.Core.Path.{◌≡◌}
use Prim.Native.Nat.{◌-◌}
use lib.ListN.{length}
use Rattle.report_text.proofs.Cells.{Celled}
use Rattle.report_text.proofs.put_cells.Given as goal

abbrev pub invariant-loop-k : goal.invariant-loop-k
invariant-loop-k l = (length l.out ≡ length l.initial.out) × Celled l.own l.initial.out l.at l.out l.put l.k

abbrev pub decreases-loop-k : goal.decreases-loop-k
decreases-loop-k l = 36 - l.k
