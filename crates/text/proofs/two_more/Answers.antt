-- `text::two_more` meets its contract.
use native.Mathlib.Omega.{arith}
use Rattle.text.proofs.Laws.{one_and, not_one}
use Rattle.text.proofs.two_more.Goals as goal

pub overflow_add-at : goal.overflow_add-at
overflow_add-at c = omega (arith, (c.one_more.ensures.yes c.if-one_more.true).0)

pub returns-then-one_more : goal.returns-then-one_more
returns-then-one_more c = one_and _ _ _ _ 1 _ _ c.one_more.ensures c.if-one_more.true c.one_more-then-one_more.ensures

pub returns-else-one_more : goal.returns-else-one_more
returns-else-one_more c = not_one _ _ _ _ 1 _ c.one_more.ensures c.if-one_more.false
