-- `notice::numbers` meets its contract.
use Rattle.std.proofs.Common.{◌≡◌, length, refl, ◌∙◌, arith, length-set, w64, rules}
use Rattle.report_spec.specs.Own.{joined}
use Rattle.notice.proofs.Rows.{Rows, array_rows, joined_length, joined_at, laid_more, laid_all}
use Rattle.notice.proofs.numbers.Goals.{Start}
use Rattle.notice.proofs.numbers.Goals as goal

-- the table's rows
rows : (c : Start) → Rows c.args.cells × (length (joined c.args.cells) ≡ 36)
rows c =
    let g = c.well_formed.1.1.1.0 in
    let r = array_rows w64 c.args.cells g.0 g.1.1 in
    (r, omega (arith, joined_length c.args.cells r, g.1.0.1))

pub loop-k-init : goal.loop-k-init
loop-k-init c = (omega arith, refl, refl)

pub loop-k-preserved : goal.loop-k-preserved
loop-k-preserved c =
    let l = c.loop-k in
    let r = rows (goal.at.loop-k-preserved c).Start in
    let e = joined_at c.args.cells r.0 l.k (omega arith) in
    (search rules, simp length-set l.invariant.1, laid_more l.all (joined c.args.cells) l.k _ (omega (arith, l.invariant.1)) (omega (arith, r.1)) e ∙ l.invariant.2)

pub returns : goal.returns
returns c =
    let l = c.loop-k in
    laid_all l.all (joined c.args.cells) _ l.k (omega (arith, l.invariant.1)) (omega (arith, (rows (goal.at.returns c).Start).1)) l.invariant.2
