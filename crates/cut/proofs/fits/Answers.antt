-- `cut::fits` meets its contract: what is left is never longer than the dump.
use Rattle.std.proofs.Common.{refl, sym, ap, ap₂, ◌∙◌, ◌≤◌, leb, length, arith}
use borrow.Author.Tests.{le-leb}
use Rattle.cut_spec.specs.Cut.{cutting}
use Rattle.cut_laws.proofs.Cut.{cut_less}
use Rattle.cut_laws.proofs.Laid.{laid_not}
use Rattle.cut_spec.specs.Answer.{left_of}
use Rattle.page_spec.specs.Layout.{layout}
use Rattle.cut.proofs.fits.Goals as goal

pub returns-then-out-dump : goal.returns-then-out-dump
returns-then-out-dump c =
    let l = c.leave.ensures in
    let e = l.1 ∙ laid_not _ _ _ in
    (ap₂ leb l.0 (ap length e), e)

pub returns : goal.returns
returns c =
    let a = c.args in
    let h : length (left_of a.longest a.window.start a.window.end a.mutes.now a.dump.now) ≤ length a.out.now = omega (arith, cut_less (layout a.longest) (cutting a.window.start a.window.end a.mutes.now) a.dump.now c.requires, c.if-out-dump.false) in
    (sym (le-leb _ _ h), refl)
