-- `report_add::put_sums` meets its contract.
use mathlib.Core.Path.{◌≡◌, refl, ap, ◌∙◌}
use mathlib.Core.List.{List}
use Prim.Native.Nat.{ℕ, ◌<◌}
use native.Mathlib.Omega.{arith}
use lib.ListN.{length, get_or}
use Rattle.report_add.proofs.Sums.{fit_at, laid, kept, laid-length, turn, laid_all}
use borrow.Author.Rules.{rules}
use Rattle.report_add.proofs.put_sums.Goals.{At-loop-k, Start}
use Rattle.report_add.proofs.put_sums.Goals as goal

-- as many numbers each
long : (c : Start) → length c.args.report.now ≡ length c.args.more
long c =
    let g = c.well_formed.1.0 in omega (arith, c.requires.0, g.1.0.1)

-- the number that a turn reads is as it was
same : (c : At-loop-k) → c.loop-k.k < 39 → get_or c.loop-k.report c.loop-k.k 0 ≡ get_or c.args.report.now c.loop-k.k 0
same c h =
    let long : (length c.args.report.now ≡ length c.args.more) = let g = c.well_formed.1.0 in omega (arith, c.requires.0, g.1.0.1) in
    ap (λ (r : List ℕ). get_or r c.loop-k.k 0) c.loop-k.invariant.1 ∙ kept c.args.report.now c.args.more c.loop-k.k (omega (arith, c.requires.0)) long

-- no number more, none less
as_long : (c : At-loop-k) → length c.loop-k.report ≡ 39
as_long c =
    let long : (length c.args.report.now ≡ length c.args.more) = let g = c.well_formed.1.0 in omega (arith, c.requires.0, g.1.0.1) in
    ap length c.loop-k.invariant.1 ∙ laid-length c.args.report.now c.args.more c.loop-k.k long ∙ c.requires.0

pub loop-k-init : goal.loop-k-init
loop-k-init c = (omega arith, refl)

pub offset_bounds-report-k : goal.offset_bounds-report-k
offset_bounds-report-k c = let h : c.loop-k.k < 39 = search rules in omega arith

pub bounds-report-k : goal.bounds-report-k
bounds-report-k c = omega (arith, as_long (goal.at.bounds-report-k c).At-loop-k)

pub overflow_add-report : goal.overflow_add-report
overflow_add-report c =
    let h : c.loop-k.k < 39 = search rules in
    omega (arith, same (goal.at.overflow_add-report c).At-loop-k h, fit_at c.args.report.now c.args.more c.loop-k.k (omega (arith, c.requires.0)) (long (goal.at.overflow_add-report c).Start) c.requires.1)

pub bounds-report-k-in-loop-k : goal.bounds-report-k-in-loop-k
bounds-report-k-in-loop-k c = omega (arith, as_long (goal.at.bounds-report-k-in-loop-k c).At-loop-k)

pub loop-k-preserved : goal.loop-k-preserved
loop-k-preserved c =
    let h : c.loop-k.k < 39 = search rules in
    (omega arith, turn c.args.report.now c.args.more c.loop-k.report c.loop-k.k c.loop-k.invariant.1 (omega (arith, c.requires.0)) (long (goal.at.loop-k-preserved c).Start))

pub shape_of-report : goal.shape_of-report
shape_of-report c = omega (arith, as_long (goal.at.shape_of-report c).At-loop-k, c.requires.0)

pub returns : goal.returns
returns c =
    let n : c.loop-k.k ≡ length c.args.report.now = omega (arith, c.loop-k.invariant.0, c.requires.0) in
    c.loop-k.invariant.1 ∙ ap (laid c.args.report.now c.args.more) n ∙ laid_all c.args.report.now c.args.more (long (goal.at.returns c).Start)
