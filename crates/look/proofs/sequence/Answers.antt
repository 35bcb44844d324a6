-- `look::sequence` meets its contract.
use mathlib.Core.Path.{◌∙◌}
use native.Mathlib.Omega.{arith}
use Rattle.look_laws.proofs.There.{same_type, sequence-shown}
use borrow.Author.Rules.{rules}
use Rattle.look.proofs.sequence.Goals as goal

pub number-requires : goal.number-requires
number-requires c = let k = c.requires in record { width_bound = search rules; width_in_bounds = omega (arith, (sequence-shown k.0 _ _ k.1 k.2).inside) }

pub returns : goal.returns
returns c = let k = c.requires in λ t g. c.number.ensures.0 ∙ (sequence-shown t _ _ g (same_type _ _ t k.0 g k.1 ∙ k.2)).is
