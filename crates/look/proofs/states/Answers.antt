-- `look::states` meets its contract.
use mathlib.Core.Path.{ap₂, ◌∙◌}
use Prim.Native.Nat.{ℕ}
use native.Mathlib.Omega.{arith}
use Rattle.look_spec.specs.Field.{Told, Good, Ends, shown}
use Rattle.look_laws.proofs.Good.{IsState}
use Rattle.look_laws.proofs.There.{change-known, Turns, states-shown}
use borrow.Author.Rules.{rules}
use Rattle.look.proofs.states.Goals.{After-end_at-end}
use Rattle.look.proofs.states.Goals as goal

-- where the record ends
ends : (c : After-end_at-end) → let a = c.args in Ends a.d.now a.at c.end_at-end.result (shown c.requires.0 a.d.now a.at)
ends c =
    let k = c.requires in c.end_at-end.ensures k.0 k.1

-- where its states lie, whatever table the record is good with
there : (c : After-end_at-end) → let a = c.args in (t : Told) (g : Good t a.d.now a.at) → Turns t a.d.now a.at g c.end_at-end.result
there c t g =
    states-shown t _ _ g (change-known _ _ c.requires t g) _ (c.end_at-end.ensures t g)

pub overflow_sub-end : goal.overflow_sub-end
overflow_sub-end c = omega (arith, (ends (goal.at.overflow_sub-end c).After-end_at-end).on)

pub number-requires : goal.number-requires
number-requires c = record { width_bound = search rules; width_in_bounds = omega (arith, (ends (goal.at.number-requires c).After-end_at-end).on, (ends (goal.at.number-requires c).After-end_at-end).inside) }

pub overflow_sub-end-2 : goal.overflow_sub-end-2
overflow_sub-end-2 c = omega (arith, (ends (goal.at.overflow_sub-end-2 c).After-end_at-end).on)

pub number-requires-2 : goal.number-requires-2
number-requires-2 c = record { width_bound = search rules; width_in_bounds = omega (arith, (ends (goal.at.number-requires-2 c).After-end_at-end).on, (ends (goal.at.number-requires-2 c).After-end_at-end).inside) }

pub returns : goal.returns
returns c =
    let old = c.number.ensures.0 in
    let new = c.number-2.ensures.0 in
    let k = c.requires in
    let s = there (goal.at.returns c).After-end_at-end k.0 k.1 in
    let o : IsState c.number.result = rw (old ∙ s.old) s.from in
    let n : IsState c.number-2.result = rw (new ∙ s.new) s.to in
    (o.0, o.1, n.0, n.1, λ t g. let w = there (goal.at.returns c).After-end_at-end t g in ap₂ (λ (a b : ℕ). record { old = a; new = b }) (old ∙ w.old) (new ∙ w.new))
