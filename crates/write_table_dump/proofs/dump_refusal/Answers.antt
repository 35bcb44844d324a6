-- `write_table_dump::dump_refusal` meets its contract: the header, then the fields of the layout that its Subtype chooses.
use mathlib.Core.Path.{◌≡◌, refl, sym, ap, ◌∙◌}
use Rattle.std.specs.Prelude.{Ok, Err}
use mathlib.Core.List.{[], ◌∷◌}
use native.Mathlib.Omega.{arith}
use Rattle.form_spec.specs.Put.{Given, body_refusal}
use Rattle.form_spec.specs.Shape.{no_table, plan}
use Rattle.form_spec.specs.Words.{choose}
use Rattle.page_spec.specs.Layout.{kind, layout_for}
use Rattle.page_laws.proofs.Widths.{sane12}
use Rattle.write_spec.specs.Judged.{unplaced}
use Rattle.write_spec.specs.Only.{table_dumps}
use Rattle.write_spec.specs.Givens.{table_dump_given}
use Rattle.write_laws.proofs.Turns.{not_own, no_one, head_stops, other_kind, own_kind}
use borrow.Author.Rules.{rules}
use borrow.Enum.Refused.{opened}
use Rattle.write_table_dump.proofs.dump_refusal.Goals.{Start}
use Rattle.write_table_dump.proofs.dump_refusal.Goals as goal

abbrev given : Start → Given
given s =
    let a = s.args in
    table_dump_given a.timestamp a.subtype a.view a.sequence a.prefix.now a.bits a.status a.originated a.address.now a.peer a.attributes.now

pub route_refusal-requires : goal.route_refusal-requires
route_refusal-requires c = rw (sym c.kind_12.ensures ∙ c.in-Ok-TableDump.is ∙ ap Ok c.in-Ok-TableDump.field-0-is) at (sane12 c.args.subtype)

pub returns-in_err-head_refusal : goal.returns-in_err-head_refusal
unfolding kind choose
returns-in_err-head_refusal c = λ longest.
    let passed : c.from_residual.result ≡ Err c.in_err-head_refusal.field-0.0 = search rules in
    head_stops longest table_dumps no_table (given (goal.at.returns-in_err-head_refusal c).Start) _ _ (omega arith) refl refl _ c.in_err-head_refusal.ensures (ap unplaced passed)

pub returns-in_default : goal.returns-in_default
unfolding kind choose
returns-in_default c = λ longest.
    other_kind longest table_dumps no_table (given (goal.at.returns-in_default c).Start) _ _ (omega arith) refl (sym c.in_default.ensures) _ c.in_ok-head_refusal.ensures
    (not_own (0 ∷ 2 ∷ 3 ∷ 4 ∷ 5 ∷ 6 ∷ []) table_dumps 1 _ refl tt (opened c.in_default.in_default-own.keys2)) refl

pub returns-in_default-2 : goal.returns-in_default-2
unfolding kind choose
returns-in_default-2 c = λ longest.
    other_kind longest table_dumps no_table (given (goal.at.returns-in_default-2 c).Start) _ _ (omega arith) refl (sym c.kind_12.ensures ∙ c.in_default.is) _ c.in_ok-head_refusal.ensures
    (no_one table_dumps c.in_default.field-0 (omega arith)) refl

pub returns : goal.returns
unfolding kind choose layout_for plan body_refusal
returns c = λ longest.
    own_kind longest table_dumps no_table (given (goal.at.returns c).Start) _ _ (omega arith) refl (sym c.kind_12.ensures ∙ c.in-Ok-TableDump.is ∙ ap Ok c.in-Ok-TableDump.field-0-is) _ c.in_ok-head_refusal.ensures
    refl c.route_refusal.ensures
