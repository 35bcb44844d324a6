-- `report_text::put_number` meets its contract: a number of 64 bits leaves room for the line's end.
use mathlib.Core.Path.{◌≡◌}
use Prim.Native.Nat.{◌+◌, ◌≤◌}
use native.Mathlib.Omega.{arith}
use lib.ListN.{length, length-append}
use Rattle.decimal_spec.specs.Decimal.{decimal}
use Rattle.listing_laws.proofs.Lays.{both, one, double}
use Rattle.report_text.proofs.put_number.Goals.{After-put_entry-end, Start}
use Rattle.report_text.proofs.put_number.Goals as goal

-- how many digits the number has
digits : (s : Start) → length (decimal s.args.n) ≤ 20
digits s =
    double _ (omega arith)

-- where they end
ends : (c : After-put_entry-end) → let a = c.args in c.put_entry-end.result ≡ a.at + (length a.key.now + length (decimal a.n))
ends c =
    simp length-append at c.put_entry-end.ensures.ends

pub put_entry-end-requires : goal.put_entry-end-requires
put_entry-end-requires c = let b = digits (goal.at.put_entry-end-requires c).Start in simp length-append (omega arith)

pub bounds-out-end : goal.bounds-out-end
bounds-out-end c = let b = digits (goal.at.bounds-out-end c).Start in omega (arith, ends (goal.at.bounds-out-end c).After-put_entry-end)

pub overflow_add-result : goal.overflow_add-result
overflow_add-result c = let b = digits (goal.at.overflow_add-result c).Start in omega (arith, ends (goal.at.overflow_add-result c).After-put_entry-end)

pub returns : goal.returns
returns c =
    let b = digits (goal.at.returns c).Start in
    let e = ends (goal.at.returns c).After-put_entry-end in
    (both c.put_entry-end.ensures (one _ _ 10 (omega arith)) (simp length-append (omega arith)), omega arith)
