-- `text::seven_bits` meets its contract.
use native.Mathlib.Omega.{arith}
use borrow.Author.Tests.{leb-true}
use Rattle.text.proofs.Laws.{plain}
use Rattle.text.proofs.seven_bits.Goals as goal

pub returns : goal.returns
returns c = λ e. let h = leb-true _ _ e in plain _ (λ k l. omega (arith, c.loop-x.invariant k (omega arith)))
