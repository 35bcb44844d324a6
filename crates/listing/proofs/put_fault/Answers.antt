-- `listing::put_fault` meets its contract: the place goes behind the fault, and two numbers of these widths leave room for both.
use Prim.Native.Nat.{◌≤◌}
use native.Mathlib.Omega.{arith}
use lib.ListN.{length, length-append, length-set}
use Rattle.decimal_spec.specs.Decimal.{decimal}
use Rattle.listing_spec.specs.Text.{fault_line}
use Rattle.listing_laws.proofs.Lays.{both, one, short, double}
use Rattle.listing.proofs.put_fault.Goals.{Start}
use Rattle.listing.proofs.put_fault.Goals as goal

-- how many digits the numbers have
bounds : (s : Start) → (length (decimal s.args.fault) ≤ 3) × (length (decimal s.args.place) ≤ 20)
bounds s =
    (short _ (omega arith), double _ (omega arith))

pub put_entry-a-requires : goal.put_entry-a-requires
put_entry-a-requires c = let b = bounds (goal.at.put_entry-a-requires c).Start in omega arith

pub put_entry-b-requires : goal.put_entry-b-requires
put_entry-b-requires c = let b = bounds (goal.at.put_entry-b-requires c).Start in omega arith

pub bounds-out-b : goal.bounds-out-b
bounds-out-b c = let b = bounds (goal.at.bounds-out-b c).Start in omega arith

pub overflow_add-result : goal.overflow_add-result
overflow_add-result c = let b = bounds (goal.at.overflow_add-result c).Start in omega arith

pub shape_of-out : goal.shape_of-out
shape_of-out c = simp length-set (omega arith)

pub returns : goal.returns
unfolding fault_line
returns c =
    let b = bounds (goal.at.returns c).Start in
    let x = both c.put_entry-a.ensures c.put_entry-b.ensures (omega arith) in
    (both x (one _ _ 10 (omega arith)) (simp length-append (omega arith)), omega arith)
