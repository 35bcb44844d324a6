-- `dagsumilat::items_answer` meets its contract.
use native.Mathlib.Omega.{arith}
use Rattle.look_spec.specs.Field.{shown, Counted}
use Rattle.look_laws.proofs.There.{items-counted}
use Rattle.dagsumilat.proofs.items_answer.Goals.{After-counted_at-counted}
use Rattle.dagsumilat.proofs.items_answer.Goals as goal

-- where its count stands
there : (c : After-counted_at-counted) → Counted c.args.d.now c.args.at c.counted_at-counted.result (shown c.requires.0 c.args.d.now c.args.at)
there c =
    let k = c.requires in c.counted_at-counted.ensures k.0 k.1

pub overflow_add-counted : goal.overflow_add-counted
overflow_add-counted c = omega (arith, (there (goal.at.overflow_add-counted c).After-counted_at-counted).inside)

pub overflow_sub-counted : goal.overflow_sub-counted
overflow_sub-counted c = omega (arith, (there (goal.at.overflow_sub-counted c).After-counted_at-counted).items)

pub count-requires : goal.count-requires
count-requires c = (there (goal.at.count-requires c).After-counted_at-counted).inside

pub returns : goal.returns
returns c =
    let counted = c.counted_at-counted in
    let many = c.count in
    λ t g.
    let e = items-counted _ _ counted.result many.result _ (counted.ensures t g) many.ensures.0 in
    rw (e.0, e.1) at c.good.ensures
