-- `look::end_at` meets its contract.
use native.Mathlib.Omega.{arith}
use Rattle.look_laws.proofs.There.{header-inside, end_shown}
use borrow.Author.Rules.{rules}
use Rattle.look.proofs.end_at.Goals as goal

pub number-requires : goal.number-requires
number-requires c = let k = c.requires in record { width_bound = search rules; width_in_bounds = omega (arith, header-inside k.0 _ _ k.1) }

pub returns : goal.returns
returns c = λ t g. rw c.number.ensures.0 (end_shown t _ _ g)
