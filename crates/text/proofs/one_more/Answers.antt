-- `text::one_more` meets its contract.
use native.Mathlib.Omega.{arith}
use Rattle.text.proofs.Laws.{not_there, too_low, up_to}
use Rattle.text.proofs.one_more.Goals as goal

pub returns-then-m-at : goal.returns-then-m-at
returns-then-m-at c = not_there _ _ _ _ (omega arith)

pub returns-then-low-m : goal.returns-then-low-m
returns-then-low-m c = up_to _ _ _ _ (omega arith) c.if-low-m.true

pub returns-else-low-m : goal.returns-else-low-m
returns-else-low-m c = too_low _ _ _ _ (omega arith) (omega (arith, c.if-low-m.false))
