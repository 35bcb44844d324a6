-- `report_text::put_cells` meets its contract.
use mathlib.Core.Path.{refl}
use native.Mathlib.Omega.{arith}
use Rattle.report_text.proofs.Cells.{starts, turn, done}
use borrow.Author.Rules.{rules}
use Rattle.report_text.proofs.put_cells.Goals as goal

pub loop-k-init : goal.loop-k-init
loop-k-init c = let s = c.requires in (refl, starts _ _ _ (omega arith))

pub put_cell-put-requires : goal.put_cell-put-requires
put_cell-put-requires c =
    let i = c.loop-k.invariant.1 in
    omega (arith, i.few)

pub loop-k-preserved : goal.loop-k-preserved
loop-k-preserved c =
    let i = c.loop-k.invariant.1 in
    let e = c.put_cell-put.ensures in
    (search rules, turn i (c.well_formed.1.1.0.1.0.1) (omega (arith, c.loop-k-test.true)) e.0 e.1 (omega (arith, i.few)))

pub returns : goal.returns
returns c =
    let i = c.loop-k.invariant.1 in
    (done i (c.well_formed.1.1.0.1.0.1) c.loop-k-test.false, omega (arith, i.few, i.most))
