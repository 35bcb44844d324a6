-- `look::behind_width` meets its contract.
use native.Mathlib.Omega.{arith}
use borrow.Author.Tests.{eq-eqb, ne_eqb}
use Rattle.look.proofs.behind_width.Goals as goal

pub returns-then-width-eq4 : goal.returns-then-width-eq4
returns-then-width-eq4 c = (rw (eq-eqb _ 4 c.if-width-eq4.true), omega arith)

pub returns : goal.returns
returns c = (rw (ne_eqb _ 4 c.if-width-eq4.false), omega arith)
