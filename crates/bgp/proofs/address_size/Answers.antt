-- `bgp::address_size` meets its contract.
use borrow.Author.Tests.{ne_eqb}
use Rattle.form_spec.specs.Words.{choose}
use Rattle.bgp.specs.Size.{address_size}
use Rattle.bgp.proofs.address_size.Goals as goal

pub returns-in-1 : goal.returns-in-1
unfolding address_size choose
returns-in-1 c = rw c.in-1.is

pub returns-in-2 : goal.returns-in-2
unfolding address_size choose
returns-in-2 c = rw c.in-2.is

pub returns-in_default : goal.returns-in_default
unfolding address_size choose
returns-in_default c = simp (ne_eqb _ 1 c.in_default.in_default-own.rest.0.1, ne_eqb _ 2 c.in_default.in_default-own.rest.1)
