-- `look::address_size` meets its contract.
use borrow.Author.Tests.{eq-eqb, ne_eqb}
use borrow.Author.Rules.{rules}
use Rattle.look.proofs.address_size.Goals as goal

pub returns-then-kind-eq1 : goal.returns-then-kind-eq1
returns-then-kind-eq1 c = (rw (eq-eqb _ _ c.if-kind-eq1.true), search rules)

pub returns : goal.returns
returns c = (rw (ne_eqb _ _ c.if-kind-eq1.false), search rules)
