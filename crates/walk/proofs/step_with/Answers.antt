-- `walk::step_with` meets its contract.
use mathlib.Core.Path.{◌≡◌, refl, sym, ap, ◌∙◌}
use mathlib.Core.List.{List}
use Prim.Native.Nat.{ℕ}
use native.Mathlib.Omega.{arith}
use Rattle.form_spec.specs.Octets.{Octets}
use Rattle.form_laws.proofs.Octets.{octets_of_lem}
use Rattle.record_spec.specs.Shown.{Shown}
use Rattle.walk_spec.specs.Steps.{stepped, step_of, step_at}
use Rattle.walk_laws.proofs.Goes.{fault_in}
use Rattle.walk_laws.proofs.Steps.{past_end, step_over}
use Rattle.walk.proofs.step_with.Goals.{After-read_with}
use Rattle.walk.proofs.step_with.Goals as goal
use Rattle.form_spec.specs.Refusal.{refused}
use Rattle.std.specs.Prelude.{Ok}

-- the step over what was shown
over : (c : After-read_with) → let a = c.args in (y : Shown) → c.read_with.result ≡ y → step_of a.t a.at y ≡ step_at a.longest a.t a.d.now a.at
over c y e =
    let a = c.args in step_over a.longest a.t a.d.now a.at _ y _ c.read_with.ensures e refl

pub returns-then-d-at : goal.returns-then-d-at
returns-then-d-at c = past_end _ _ c.args.d.now _ c.if-d-at.true

-- a fault's place is in the dump
pub overflow_add-place : goal.overflow_add-place
overflow_add-place c =
    let a = c.args in
    let d : List ℕ = a.d.now in
    let oc : Octets d = octets_of_lem d (λ k. omega (arith, c.shared_slice_known-1.given k)) in
    let f : step_at a.longest a.t d a.at ≡ refused _ _ = sym (over (goal.at.overflow_add-place c).After-read_with _ c.in-Err.is) in
    let i = fault_in a.longest d oc a.at (omega arith) a.t _ _ f in
    omega (arith, i.1)

pub returns-in-Ok-None : goal.returns-in-Ok-None
returns-in-Ok-None c = over (goal.at.returns-in-Ok-None c).After-read_with _ (c.in-Ok-None.is ∙ ap Ok c.in-Ok-None.field-0-is)

pub returns-in-Err : goal.returns-in-Err
returns-in-Err c = over (goal.at.returns-in-Err c).After-read_with _ c.in-Err.is

pub returns-in-Ok-Some : goal.returns-in-Ok-Some
returns-in-Ok-Some c = c.stepped.ensures ∙ ap (stepped _ _) c.table_behind.ensures ∙ over (goal.at.returns-in-Ok-Some c).After-read_with _ (c.in-Ok-Some.is ∙ ap Ok c.in-Ok-Some.field-0-is)
