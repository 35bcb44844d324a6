-- `report_text::put_cell` meets its contract: two states of one digit and a number of 64 bits leave room for all of the line.
use Prim.Native.Nat.{◌≤◌}
use native.Mathlib.Omega.{arith}
use lib.ListN.{length, length-append}
use Rattle.decimal_spec.specs.Decimal.{decimal}
use Rattle.decimal_laws.proofs.Decimal.{decimal-length}
use Rattle.listing_laws.proofs.Lays.{both, double}
use Rattle.report_text.proofs.Cells.{none, cell_none, cell_some}
use Rattle.report_text.proofs.put_cell.Goals.{Start}
use Rattle.report_text.proofs.put_cell.Goals as goal

-- how many digits the numbers have
bounds : (s : Start) → let a = s.args in (length (decimal a.old) ≤ 1) × (length (decimal a.new) ≤ 1) × (length (decimal a.count) ≤ 20)
bounds s =
    (decimal-length 1 _ (omega arith) (omega arith), decimal-length 1 _ (omega arith) (omega arith), double _ (omega arith))

pub returns-then-count-eq0 : goal.returns-then-count-eq0
returns-then-count-eq0 c = (rw (cell_none c.args.old c.args.new _ c.if-count-eq0.true) (none (omega arith)), omega arith)

pub put_entry-a-requires : goal.put_entry-a-requires
put_entry-a-requires c = let b = bounds (goal.at.put_entry-a-requires c).Start in omega arith

pub put_entry-b-requires : goal.put_entry-b-requires
put_entry-b-requires c = let b = bounds (goal.at.put_entry-b-requires c).Start in omega arith

pub put_number-requires : goal.put_number-requires
put_number-requires c = let b = bounds (goal.at.put_number-requires c).Start in omega arith

pub returns : goal.returns
returns c =
    let b = bounds (goal.at.returns c).Start in
    let e = c.put_number.ensures in
    let x = both c.put_entry-a.ensures c.put_entry-b.ensures (omega arith) in
    (rw (cell_some c.args.old c.args.new _ c.if-count-eq0.false) (both x e.0 (simp length-append (omega arith))), omega arith)
