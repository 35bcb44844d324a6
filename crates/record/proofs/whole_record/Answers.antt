-- `record::whole_record` meets its contract.
use mathlib.Core.Path.{◌≡◌, sym, ap, subst, ◌∙◌}
use borrow.Author.Rules.{rules}
use Rattle.std.specs.Prelude.{Err}
use Rattle.page_spec.specs.Chosen.{Chosen}
use Rattle.page_spec.specs.Sane.{Sane}
use Rattle.page_laws.proofs.Widths.{sane}
use Rattle.record_spec.specs.One.{shown_as, whole_record}
use Rattle.record.proofs.whole_record.Goals as goal

pub returns-in_err-k : goal.returns-in_err-k
unfolding whole_record shown_as
returns-in_err-k c =
    let a = c.args in
    let passed : c.from_residual.result ≡ Err c.in_err-k.field-0.0 = search rules in
    passed ∙ ap (λ (k : Chosen). shown_as a.longest a.t a.m.now k) (rw (c.number.ensures.0, c.number-2.ensures.0) at c.in_err-k.ensures)

pub show-requires : goal.show-requires
show-requires c = record { in_bounds = search rules; sane = subst Sane (sym c.in_ok-k.ensures) (sane _ _) }

pub returns : goal.returns
unfolding whole_record
returns c = rw (c.in_ok-k.ensures, c.number.ensures.0, c.number-2.ensures.0) at c.show.ensures
