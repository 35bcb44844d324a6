-- `write_unread::unread_refusal` meets its contract: the header's fields in turn.
use mathlib.Core.Path.{◌≡◌, sym, ap, ◌∙◌}
use mathlib.Core.List.{[], ◌∷◌}
use Prim.Native.Nat.{ℕ}
use Rattle.form_spec.specs.Put.{type_refusal, fields_refusal}
use Rattle.page_spec.specs.Layout.{layout_for}
use Rattle.page_spec.specs.Chosen.{Unread}
use Rattle.write_spec.specs.Times.{micro_size}
use Rattle.write_spec.specs.Only.{unreads, only_type}
use Rattle.write_spec.specs.Judged.{judged, unplaced}
use Rattle.write_laws.proofs.Judged.{then_ok, then_err, alike}
use Rattle.write_laws.proofs.Turns.{unread_tag, not_own, no_one}
use Rattle.write_unread.proofs.Laws.{other_micro, not_unread, is_unread, unread_typed, unread_body}
use native.Mathlib.Omega.{arith}
use borrow.Author.Rules.{rules}
use borrow.Enum.Refused.{opened}
use Rattle.std.specs.Prelude.{Ok, Err}
use Rattle.write_unread.proofs.unread_refusal.Goals.{Else-n-micro}
use Rattle.write_unread.proofs.unread_refusal.Goals as goal

-- the kind is the writer's own
own : (longest : ℕ) (c : Else-n-micro) → let a = c.args in
    only_type (unreads (micro_size a.time)) longest a.ty a.subtype ≡ layout_for longest (Unread (micro_size a.time))
own longest c =
    is_unread longest _ _ _ _ c.kind_of.ensures (c.in-Ok-Unread.is ∙ ap Ok c.in-Ok-Unread.field-0-is) (c.if-n-micro.false ∙ c.micro.ensures)

pub returns-in_err-fits : goal.returns-in_err-fits
unfolding fields_refusal
returns-in_err-fits c = λ longest contents.
    let passed : c.from_residual.result ≡ Err c.in_err-fits.field-0.0 = search rules in
    then_err _ _ _ _ (rw c.seconds.ensures at c.in_err-fits.ensures) (ap unplaced passed)

pub returns-in_err-fits-2 : goal.returns-in_err-fits-2
unfolding fields_refusal
returns-in_err-fits-2 c = λ longest contents.
    let passed : c.from_residual-in_err-fits-2.result ≡ Err c.in_err-fits-2.field-0.0 = search rules in
    then_ok _ _ _ _ (rw c.seconds.ensures at c.in_ok-fits.ensures) (then_err _ _ _ _ c.in_err-fits-2.ensures (ap unplaced passed))

pub returns-in_default : goal.returns-in_default
unfolding fields_refusal
returns-in_default c = λ longest contents.
    let m : ℕ = micro_size c.args.time in
    let other = not_own (1 ∷ 2 ∷ 3 ∷ 4 ∷ 5 ∷ 6 ∷ []) (unreads m) 0 _ (unread_tag m) tt (opened c.in_default.in_default-own.keys2) in
    then_ok _ _ _ _ (rw c.seconds.ensures at c.in_ok-fits.ensures) (then_ok _ _ _ _ c.in_ok-fits-2.ensures
    (rw (not_unread longest m _ _ c.in_default.ensures other)))

pub returns-in_default-2 : goal.returns-in_default-2
unfolding fields_refusal
returns-in_default-2 c = λ longest contents.
    let m : ℕ = micro_size c.args.time in
    let other = no_one (unreads m) c.in_default.field-0 (omega arith) in
    then_ok _ _ _ _ (rw c.seconds.ensures at c.in_ok-fits.ensures) (then_ok _ _ _ _ c.in_ok-fits-2.ensures
    (rw (not_unread longest m _ _ (sym c.in_default.is ∙ c.kind_of.ensures) other)))

pub returns-then-n-micro : goal.returns-then-n-micro
unfolding fields_refusal
returns-then-n-micro c = λ longest contents.
    let other = other_micro _ _ c.kind_of.result (c.in-Ok-Unread.is ∙ ap Ok c.in-Ok-Unread.field-0-is) (λ e. c.if-n-micro.true (e ∙ sym c.micro.ensures)) in
    then_ok _ _ _ _ (rw c.seconds.ensures at c.in_ok-fits.ensures) (then_ok _ _ _ _ c.in_ok-fits-2.ensures
    (rw (not_unread longest _ _ _ c.kind_of.ensures other)))

pub returns-in_err-fits-3 : goal.returns-in_err-fits-3
unfolding fields_refusal
returns-in_err-fits-3 c = λ longest contents.
    let passed : c.from_residual-in_err-fits-3.result ≡ Err c.in_err-fits-3.field-0.0 = search rules in
    then_ok _ _ _ _ (rw c.seconds.ensures at c.in_ok-fits.ensures) (then_ok _ _ _ _ c.in_ok-fits-2.ensures
    (rw (ap type_refusal (own longest (goal.at.returns-in_err-fits-3 c).Else-n-micro) ∙ unread_typed longest _) (then_err _ _ _ _ c.in_err-fits-3.ensures (ap unplaced passed))))

pub returns : goal.returns
unfolding fields_refusal
returns c = λ longest contents.
    let o = own longest (goal.at.returns c).Else-n-micro in
    then_ok _ _ _ _ (rw c.seconds.ensures at c.in_ok-fits.ensures) (then_ok _ _ _ _ c.in_ok-fits-2.ensures
    (rw (ap type_refusal o ∙ unread_typed longest _) (then_ok _ _ _ _ c.in_ok-fits-3.ensures (rw o (alike _ _ (c.stamp_refusal.ensures ∙ ap judged (unread_body longest c.args.time contents)))))))
