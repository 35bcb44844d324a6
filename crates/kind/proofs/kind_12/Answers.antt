use borrow.Author.Tests.{ne_eqb}
use Rattle.form_spec.specs.Words.{choose}
use Rattle.page_spec.specs.Layout.{kind12}
use Rattle.kind.proofs.kind_12.Goals as goal

pub returns-in-1 : goal.returns-in-1
unfolding kind12 choose
returns-in-1 c = rw c.in-1.is

pub returns-in-2 : goal.returns-in-2
unfolding kind12 choose
returns-in-2 c = rw c.in-2.is

pub returns-in_default : goal.returns-in_default
unfolding kind12 choose
returns-in_default c = simp (ne_eqb _ 1 c.in_default.in_default-own.rest.0.1, ne_eqb _ 2 c.in_default.in_default-own.rest.1)
