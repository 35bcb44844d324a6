-- `look::subtype_of` meets its contract.
use mathlib.Core.Path.{◌∙◌}
use native.Mathlib.Omega.{arith}
use Rattle.look_laws.proofs.There.{header-inside, subtype_shown}
use borrow.Author.Rules.{rules}
use Rattle.look.proofs.subtype_of.Goals as goal

pub number-requires : goal.number-requires
number-requires c = let k = c.requires in record { width_bound = search rules; width_in_bounds = omega (arith, header-inside k.0 _ _ k.1) }

pub returns : goal.returns
returns c = λ t g. c.number.ensures.0 ∙ subtype_shown t _ _ g
