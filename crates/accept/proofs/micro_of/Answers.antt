-- `accept::micro_of` meets its contract.
use borrow.Author.Tests.{eq-eqb, ne_eqb}
use native.Mathlib.Omega.{arith}
use mathlib.Core.Path.{refl}
use Rattle.accept.proofs.micro_of.Goals as goal

pub returns-then-ty-eq17 : goal.returns-then-ty-eq17
returns-then-ty-eq17 c = rw (eq-eqb _ 17 c.if-ty-eq17.true) (refl, omega arith)

pub returns : goal.returns
returns c = rw (ne_eqb _ 17 c.if-ty-eq17.false) (refl, omega arith)
