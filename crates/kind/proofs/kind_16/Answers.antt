use mathlib.Core.Logic.{⊎_elim, inl, inr}
use borrow.Author.Tests.{ne_eqb}
use Rattle.form_spec.specs.Words.{choose}
use Rattle.page_spec.specs.Layout.{kind16}
use Rattle.kind.proofs.kind_16.Goals as goal

pub returns-in-0 : goal.returns-in-0
unfolding kind16 choose
returns-in-0 c = rw c.in-0.is

pub returns-in-5 : goal.returns-in-5
unfolding kind16 choose
returns-in-5 c = rw c.in-5.is

pub returns-in-1 : goal.returns-in-1
unfolding kind16 choose
returns-in-1 c = ⊎_elim (λ e. rw e) (λ e. rw e) c.in-1.is

pub returns-in-4 : goal.returns-in-4
unfolding kind16 choose
returns-in-4 c = ⊎_elim (λ e. rw e) (λ e. rw e) c.in-4.is

pub returns-in_default : goal.returns-in_default
unfolding kind16 choose
returns-in_default c =
    simp (
      ne_eqb _ 0 c.in_default.in_default-own.rest.0.0.0.1,
      ne_eqb _ 5 c.in_default.in_default-own.rest.0.0.1,
      ne_eqb _ 1 (λ e. c.in_default.in_default-own.rest.0.1 (inl e)),
      ne_eqb _ 6 (λ e. c.in_default.in_default-own.rest.0.1 (inr e)),
      ne_eqb _ 4 (λ e. c.in_default.in_default-own.rest.1 (inl e)),
      ne_eqb _ 7 (λ e. c.in_default.in_default-own.rest.1 (inr e)),
    )
