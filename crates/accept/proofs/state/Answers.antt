-- `accept::state` meets its contract.
use borrow.Author.Tests.{leb-true}
use native.Mathlib.Omega.{arith}
use Rattle.octets_laws.proofs.Rules.{inside}
use Rattle.accept.proofs.state.Goals as goal

pub returns-then-n-ge1 : goal.returns-then-n-ge1
returns-then-n-ge1 c = λ e. inside 1 _ 6 (omega arith) (leb-true _ 6 e)
