-- `notice::notice_of` meets its contract.
use Rattle.std.proofs.Common.{◌≡◌, ℕ, eqb, sym, ap, ◌∙◌, ap₂, arith, eq-eqb, ne_eqb}
use Rattle.look_spec.specs.Sort.{is_route}
use Rattle.look_spec.specs.Field.{type_of, subtype_of, change_by, shown, Shows}
use Rattle.look_laws.proofs.There.{marked}
use Rattle.notice.proofs.Noticed.{notice-sequence, notice-change, notice_plain}
use Rattle.notice.proofs.notice_of.Goals.{After-is_change, After-type_of-ty}
use Rattle.notice.proofs.notice_of.Goals as goal

-- whether the record is of type 12
routed : (c : After-type_of-ty) → let a = c.args in Shows a.d.now a.at (λ x. is_route x ≡ eqb c.type_of-ty.result 12)
routed c t g =
    (marked t _ _ g).1 ∙ ap (λ (y : ℕ). eqb y 12) (sym (c.type_of-ty.ensures t g))

-- `is_change` answers for the record
changes : (c : After-is_change) → let a = c.args in Shows a.d.now a.at (λ x. c.is_change.result ≡ change_by (type_of x) (subtype_of x))
changes c t g =
    c.is_change.ensures ∙ ap₂ change_by (c.type_of-ty.ensures t g) (c.subtype_of.ensures t g)

pub sequence-requires : goal.sequence-requires
sequence-requires c = let k = c.requires in (k.0, k.1, sym (c.type_of-ty.ensures k.0 k.1) ∙ c.if-ty-eq12.true)

pub returns-then-ty-eq12 : goal.returns-then-ty-eq12
returns-then-ty-eq12 c =
    let a = c.args in
    (tt, λ t g. notice-sequence (shown t a.d.now a.at) _ (routed (goal.at.returns-then-ty-eq12 c).After-type_of-ty t g ∙ eq-eqb _ 12 c.if-ty-eq12.true) (c.sequence.ensures t g))

pub states-s-requires : goal.states-s-requires
states-s-requires c = let k = c.requires in (k.0, k.1, sym (changes (goal.at.states-s-requires c).After-is_change k.0 k.1) ∙ c.if-is_change.true)

pub returns-then-is_change : goal.returns-then-is_change
returns-then-is_change c =
    let a = c.args in
    let e = c.states-s.ensures in
    (omega (arith, e.0, e.1, e.2, e.3), λ t g. notice-change (shown t a.d.now a.at) _ ((marked t _ _ g).2 ∙ sym (changes (goal.at.returns-then-is_change c).After-is_change t g) ∙ c.if-is_change.true) (e.4 t g))

pub returns : goal.returns
returns c =
    let a = c.args in
    let r = ne_eqb _ 12 c.if-ty-eq12.false in
    (tt, λ t g. notice_plain (shown t a.d.now a.at) (routed (goal.at.returns c).After-type_of-ty t g ∙ r) ((marked t _ _ g).2 ∙ sym (changes (goal.at.returns c).After-is_change t g) ∙ c.if-is_change.false))
