-- `write_rib::rib_refusal` meets its contract: the header, the table, the fields before the count, the entries.
use mathlib.Core.Path.{◌≡◌, refl, sym, ap, ◌∙◌}
use mathlib.Core.List.{[], ◌∷◌}
use Prim.Native.Nat.{ℕ}
use native.Mathlib.Omega.{arith}
use Rattle.form_spec.specs.Fmt.{end}
use Rattle.form_spec.specs.Put.{Given, body_refusal, fields_refusal}
use Rattle.form_spec.specs.Shape.{entries, plan}
use Rattle.form_spec.specs.Words.{choose}
use Rattle.form_spec.specs.declared.Fault.{Fault}
use Rattle.page_spec.specs.Layout.{kind13, kind, layout_for}
use Rattle.page_spec.specs.Rib.{rib_head, entry_rest}
use Rattle.page_spec.specs.Chosen.{Rib}
use Rattle.record_spec.specs.Table.{state_of}
use Rattle.page_laws.proofs.Widths.{sane13}
use Rattle.std.specs.Prelude.{Result, Ok, Err, ⊤}
use Rattle.write_spec.specs.Judged.{judged, unplaced}
use Rattle.write_spec.specs.Only.{only_sub, ribs}
use Rattle.write_spec.specs.Givens.{rib_given}
use Rattle.write_laws.proofs.Judged.{number_fits, number_large}
use Rattle.write_laws.proofs.Turns.{not_own, no_one, head_stops, other_kind, own_kind}
use Rattle.write_rib.proofs.Laws.{no_table, held_err, held_ok}
use borrow.Author.Rules.{rules}
use borrow.Enum.Refused.{opened}
use Rattle.write_rib.proofs.rib_refusal.Goals.{In-Ok-Rib, Start}
use Rattle.write_rib.proofs.rib_refusal.Goals as goal

abbrev given : Start → Given
given s =
    let a = s.args in
    rib_given a.timestamp a.subtype a.sequence a.bits a.prefix.now a.count a.entries.now

kind_is : (c : In-Ok-Rib) → kind13 c.args.subtype ≡ Rib c.in-Ok-Rib.most
kind_is c = sym c.kind_13.ensures ∙ c.in-Ok-Rib.is ∙ ap Ok c.in-Ok-Rib.field-0-is

-- the header's fields are sound, and the kind is the writer's own
passes : (longest : ℕ) (y : Result ⊤ Fault) (c : In-Ok-Rib) → let given : (Given) = let a = c.args in rib_given a.timestamp a.subtype a.sequence a.bits a.prefix.now a.count a.entries.now in
    y ≡ judged (body_refusal (plan (state_of c.args.told) (entries (rib_head c.in-Ok-Rib.most (end 0)) entry_rest)) given.values given.tail)
    → y ≡ judged (fields_refusal (only_sub ribs longest) (state_of c.args.told) given)
unfolding kind choose layout_for
passes longest y c h =
    let given : (Given) = let a = c.args in rib_given a.timestamp a.subtype a.sequence a.bits a.prefix.now a.count a.entries.now in
    let kind_is : (kind13 c.args.subtype ≡ Rib c.in-Ok-Rib.most) = sym c.kind_13.ensures ∙ c.in-Ok-Rib.is ∙ ap Ok c.in-Ok-Rib.field-0-is in
    own_kind longest ribs (state_of c.args.told) given _ y (omega arith) refl kind_is _ c.in_ok-head_refusal.ensures refl h

pub prefix_refusal-requires : goal.prefix_refusal-requires
prefix_refusal-requires c = rw (kind_is (goal.at.prefix_refusal-requires c).In-Ok-Rib) at (sane13 c.args.subtype)

pub returns-in_err-head_refusal : goal.returns-in_err-head_refusal
unfolding kind choose
returns-in_err-head_refusal c = λ longest.
    let passed : c.from_residual.result ≡ Err c.in_err-head_refusal.field-0.0 = search rules in
    head_stops longest ribs (state_of c.args.told) (given (goal.at.returns-in_err-head_refusal c).Start) _ _ (omega arith) refl refl _ c.in_err-head_refusal.ensures (ap unplaced passed)

pub returns-in_default : goal.returns-in_default
unfolding kind choose
returns-in_default c = λ longest.
    other_kind longest ribs (state_of c.args.told) (given (goal.at.returns-in_default c).Start) _ _ (omega arith) refl (sym c.in_default.ensures) _ c.in_ok-head_refusal.ensures
    (not_own (0 ∷ 1 ∷ 2 ∷ 4 ∷ 5 ∷ 6 ∷ []) ribs 3 _ refl tt (opened c.in_default.in_default-own.keys2)) refl

pub returns-in_default-2 : goal.returns-in_default-2
unfolding kind choose
returns-in_default-2 c = λ longest.
    other_kind longest ribs (state_of c.args.told) (given (goal.at.returns-in_default-2 c).Start) _ _ (omega arith) refl (sym c.kind_13.ensures ∙ c.in_default.is) _ c.in_ok-head_refusal.ensures
    (no_one ribs c.in_default.field-0 (omega arith)) refl

pub returns-in_default-told : goal.returns-in_default-told
returns-in_default-told c = λ longest. passes longest _ (goal.at.returns-in_default-told c).In-Ok-Rib (ap judged (no_table _ _ _ _ _ c.in_default-told.is))

pub returns-in_err-fits : goal.returns-in_err-fits
returns-in_err-fits c = λ longest.
    let passed : c.from_residual-in_err-fits.result ≡ Err c.in_err-fits.field-0.0 = search rules in
    passes longest _ (goal.at.returns-in_err-fits c).In-Ok-Rib
    (held_err _ _ _ _ _ _ c.in-Some.is _ (number_large _ _ _ 4 _ _ _ c.in_err-fits.ensures refl) (ap unplaced passed))

pub returns-in_err-prefix_refusal : goal.returns-in_err-prefix_refusal
returns-in_err-prefix_refusal c = λ longest.
    let passed : c.from_residual-in_err-prefix_refusal.result ≡ Err c.in_err-prefix_refusal.field-0.0 = search rules in
    passes longest _ (goal.at.returns-in_err-prefix_refusal c).In-Ok-Rib
    (held_err _ _ _ _ _ _ c.in-Some.is _ (number_fits _ _ _ 4 _ _ _ c.in_ok-fits.ensures c.in_err-prefix_refusal.ensures) (ap unplaced passed))

pub returns : goal.returns
returns c = λ longest.
    passes longest _ (goal.at.returns c).In-Ok-Rib
    (held_ok _ _ _ _ _ _ c.in-Some.is _ (number_fits _ _ _ 4 _ _ _ c.in_ok-fits.ensures c.in_ok-prefix_refusal.ensures) c.entries_refusal.ensures)
