-- `look::seconds` meets its contract.
use mathlib.Core.Path.{◌∙◌, ap}
use native.Mathlib.Omega.{arith}
use Rattle.page_spec.specs.Layout.{finer}
use Rattle.look_laws.proofs.There.{header-inside, type-shown, time-shown}
use Rattle.look.proofs.seconds.Goals as goal

pub stamp-requires : goal.stamp-requires
stamp-requires c = let k = c.requires in omega (arith, header-inside k.0 _ _ k.1)

pub returns : goal.returns
returns c = let k = c.requires in λ t g. c.stamp.ensures.0 ∙ time-shown t _ _ g (ap finer (type-shown k.0 _ _ k.1) ∙ k.2)
