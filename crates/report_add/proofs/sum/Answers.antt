-- `report_add::sum` meets its contract.
use mathlib.Core.Path.{sym, ◌∙◌}
use Rattle.form_spec.specs.Words.{choose}
use Rattle.report_add.proofs.sum.Goals as goal

pub put_sums-requires : goal.put_sums-requires
put_sums-requires c = (c.requires, sym c.fit.ensures ∙ c.if-fit.true)

pub returns-then-fit : goal.returns-then-fit
unfolding choose
returns-then-fit c =
    let h = sym c.fit.ensures ∙ c.if-fit.true in
    (rw h, c.put_sums.ensures ∙ rw h)

pub returns : goal.returns
unfolding choose
returns c = let h = sym c.fit.ensures ∙ c.if-fit.false in (rw h, rw h)
