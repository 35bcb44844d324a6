-- `look::micros` meets its contract.
use mathlib.Core.Path.{◌≡◌, ◌∙◌, ap}
use mathlib.Core.Bool.{true}
use Prim.Native.Nat.{◌+◌}
use native.Mathlib.Omega.{arith}
use Rattle.octets_spec.specs.Be.{num_at}
use Rattle.page_spec.specs.Layout.{finer}
use Rattle.look_laws.proofs.There.{header-inside, type-shown, late_inside, late_shown}
use borrow.Author.Rules.{rules}
use Rattle.look.proofs.micros.Goals.{After-shared_slice_known-1}
use Rattle.look.proofs.micros.Goals as goal

-- the type octets say that there are microseconds
late : (c : After-shared_slice_known-1) → let a = c.args in finer (num_at a.d.now (a.at + 4) 2) ≡ true
late c =
    let k = c.requires in ap finer (type-shown k.0 _ _ k.1) ∙ k.2

pub stamp-requires : goal.stamp-requires
stamp-requires c = let k = c.requires in omega (arith, header-inside k.0 _ _ k.1)

pub number-requires : goal.number-requires
number-requires c = let k = c.requires in record { width_bound = search rules; width_in_bounds = omega (arith, late_inside k.0 _ _ k.1 (late (goal.at.number-requires c).After-shared_slice_known-1)) }

pub returns : goal.returns
returns c = λ t g. rw (c.stamp.ensures.0, c.number.ensures.0) (late_shown t _ _ g (late (goal.at.returns c).After-shared_slice_known-1))
