-- `listing::put_line` meets its contract: each entry goes behind the one before, and five numbers of these widths leave room for all of them.
use Prim.Native.Nat.{◌≤◌}
use native.Mathlib.Omega.{arith}
use lib.ListN.{length, length-append, length-set}
use Rattle.decimal_spec.specs.Decimal.{decimal}
use Rattle.listing_spec.specs.Text.{line}
use Rattle.listing_laws.proofs.Lays.{both, one, half, whole, double}
use Rattle.listing.proofs.put_line.Goals.{Start}
use Rattle.listing.proofs.put_line.Goals as goal

-- how many digits the numbers have
bounds : (s : Start) → let a = s.args in
    (length (decimal a.at) ≤ 20) × (length (decimal a.time) ≤ 20) × (length (decimal a.ty) ≤ 5) × (length (decimal a.subtype) ≤ 5) × (length (decimal a.octets) ≤ 10)
bounds s =
    (double _ (omega arith), double _ (omega arith), half _ (omega arith), half _ (omega arith), whole _ (omega arith))

pub put_entry-a-requires : goal.put_entry-a-requires
put_entry-a-requires c = let b = bounds (goal.at.put_entry-a-requires c).Start in omega arith

pub put_entry-b-requires : goal.put_entry-b-requires
put_entry-b-requires c = let b = bounds (goal.at.put_entry-b-requires c).Start in omega arith

pub put_entry-c-requires : goal.put_entry-c-requires
put_entry-c-requires c = let b = bounds (goal.at.put_entry-c-requires c).Start in omega arith

pub put_entry-d-requires : goal.put_entry-d-requires
put_entry-d-requires c = let b = bounds (goal.at.put_entry-d-requires c).Start in omega arith

pub put_entry-e-requires : goal.put_entry-e-requires
put_entry-e-requires c = let b = bounds (goal.at.put_entry-e-requires c).Start in omega arith

pub bounds-out-e : goal.bounds-out-e
bounds-out-e c = let b = bounds (goal.at.bounds-out-e c).Start in omega arith

pub overflow_add-result : goal.overflow_add-result
overflow_add-result c = let b = bounds (goal.at.overflow_add-result c).Start in omega arith

pub shape_of-out : goal.shape_of-out
shape_of-out c = simp length-set (omega arith)

pub returns : goal.returns
unfolding line
returns c =
    let b = bounds (goal.at.returns c).Start in
    let x2 = both c.put_entry-a.ensures c.put_entry-b.ensures (omega arith) in
    let x3 = both x2 c.put_entry-c.ensures (simp length-append (omega arith)) in
    let x4 = both x3 c.put_entry-d.ensures (simp length-append (omega arith)) in
    let x5 = both x4 c.put_entry-e.ensures (simp length-append (omega arith)) in
    (both x5 (one _ _ 10 (omega arith)) (simp length-append (omega arith)), omega arith)
