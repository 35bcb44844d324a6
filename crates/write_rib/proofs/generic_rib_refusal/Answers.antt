-- `write_rib::generic_rib_refusal` meets its contract: the header, the table, the fields before the count, the entries.
use mathlib.Core.Path.{◌≡◌, refl, ap}
use Prim.Native.Nat.{ℕ}
use native.Mathlib.Omega.{arith}
use Rattle.form_spec.specs.Fmt.{end}
use Rattle.form_spec.specs.Put.{Given, body_refusal, fields_refusal}
use Rattle.form_spec.specs.Shape.{entries, plan}
use Rattle.form_spec.specs.Words.{choose, in_range}
use Rattle.form_spec.specs.declared.Fault.{Fault}
use Rattle.page_spec.specs.Layout.{kind13, kind, layout_for}
use Rattle.page_spec.specs.Rib.{generic_head, entry_rest}
use Rattle.page_spec.specs.Chosen.{RibGeneric}
use Rattle.record_spec.specs.Table.{state_of}
use Rattle.std.specs.Prelude.{Result, Err, ⊤}
use Rattle.write_spec.specs.Judged.{judged, unplaced}
use Rattle.write_spec.specs.Only.{only_sub, generic_ribs}
use Rattle.write_spec.specs.Givens.{rib_generic_given}
use Rattle.write_laws.proofs.Turns.{head_stops, own_kind}
use Rattle.write_rib.proofs.Laws.{no_table, held_err, held_ok}
use borrow.Author.Rules.{rules}
use Rattle.write_rib.proofs.generic_rib_refusal.Goals.{In_ok-head_refusal, Start}
use Rattle.write_rib.proofs.generic_rib_refusal.Goals as goal

abbrev given : Start → Given
given s =
    let a = s.args in
    rib_generic_given a.timestamp a.sequence a.family a.safi a.bits a.prefix.now a.count a.entries.now

-- the header's fields are sound
passes : (longest : ℕ) (y : Result ⊤ Fault) (c : In_ok-head_refusal) → let given : (Given) = let a = c.args in rib_generic_given a.timestamp a.sequence a.family a.safi a.bits a.prefix.now a.count a.entries.now in
    y ≡ judged (body_refusal (plan (state_of c.args.told) (entries (generic_head (end 0)) entry_rest)) given.values given.tail)
    → y ≡ judged (fields_refusal (only_sub generic_ribs longest) (state_of c.args.told) given)
unfolding kind kind13 choose in_range layout_for
passes longest y c e =
    let given : (Given) = let a = c.args in rib_generic_given a.timestamp a.sequence a.family a.safi a.bits a.prefix.now a.count a.entries.now in
    own_kind longest generic_ribs (state_of c.args.told) given RibGeneric y (omega arith) refl refl _ c.in_ok-head_refusal.ensures refl e

pub returns-in_err-head_refusal : goal.returns-in_err-head_refusal
unfolding kind kind13 choose in_range
returns-in_err-head_refusal c = λ longest.
    let passed : c.from_residual.result ≡ Err c.in_err-head_refusal.field-0.0 = search rules in
    head_stops longest generic_ribs (state_of c.args.told) (given (goal.at.returns-in_err-head_refusal c).Start) RibGeneric _ (omega arith) refl refl _ c.in_err-head_refusal.ensures (ap unplaced passed)

pub returns-in_default : goal.returns-in_default
returns-in_default c = λ longest. passes longest _ (goal.at.returns-in_default c).In_ok-head_refusal (ap judged (no_table _ _ _ _ _ c.in_default.is))

pub returns-in_err-generic_refusal : goal.returns-in_err-generic_refusal
returns-in_err-generic_refusal c = λ longest.
    let passed : c.from_residual-in_err-generic_refusal.result ≡ Err c.in_err-generic_refusal.field-0.0 = search rules in
    passes longest _ (goal.at.returns-in_err-generic_refusal c).In_ok-head_refusal (held_err _ _ _ _ _ _ c.in-Some.is _ c.in_err-generic_refusal.ensures (ap unplaced passed))

pub returns : goal.returns
returns c = λ longest.
    passes longest _ (goal.at.returns c).In_ok-head_refusal (held_ok _ _ _ _ _ _ c.in-Some.is _ c.in_ok-generic_refusal.ensures c.entries_refusal.ensures)
