use mathlib.Core.Logic.{⊎_elim, inl, inr}
use borrow.Author.Tests.{ne_eqb}
use Rattle.form_spec.specs.Words.{choose}
use Rattle.page_spec.specs.Layout.{kind}
use Rattle.kind.proofs.kind_of.Goals as goal

pub returns-in-11 : goal.returns-in-11
unfolding kind choose
returns-in-11 c = ⊎_elim (λ e. rw e) (⊎_elim (λ e. rw e) (λ e. rw e)) c.in-11.is

pub returns-in-33 : goal.returns-in-33
unfolding kind choose
returns-in-33 c = ⊎_elim (λ e. rw e) (λ e. rw e) c.in-33.is

pub returns-in-12 : goal.returns-in-12
unfolding kind choose
returns-in-12 c = rw c.in-12.is (cc)

pub returns-in-13 : goal.returns-in-13
unfolding kind choose
returns-in-13 c = rw c.in-13.is (cc)

pub returns-in-16 : goal.returns-in-16
unfolding kind choose
returns-in-16 c = rw c.in-16.is (cc)

pub returns-in-17 : goal.returns-in-17
unfolding kind choose
returns-in-17 c = rw c.in-17.is (cc)

pub returns-in_default : goal.returns-in_default
unfolding kind choose
returns-in_default c =
    simp (
      ne_eqb _ 11 (λ e. c.in_default.in_default-own.rest.0.0.0.0.0.1 (inl e)),
      ne_eqb _ 32 (λ e. c.in_default.in_default-own.rest.0.0.0.0.0.1 (inr (inl e))),
      ne_eqb _ 48 (λ e. c.in_default.in_default-own.rest.0.0.0.0.0.1 (inr (inr e))),
      ne_eqb _ 33 (λ e. c.in_default.in_default-own.rest.0.0.0.0.1 (inl e)),
      ne_eqb _ 49 (λ e. c.in_default.in_default-own.rest.0.0.0.0.1 (inr e)),
      ne_eqb _ 12 c.in_default.in_default-own.rest.0.0.0.1,
      ne_eqb _ 13 c.in_default.in_default-own.rest.0.0.1,
      ne_eqb _ 16 c.in_default.in_default-own.rest.0.1,
      ne_eqb _ 17 c.in_default.in_default-own.rest.1,
    )
