-- `accept::session` meets its contract.
use mathlib.Core.Path.{◌≡◌}
use mathlib.Core.Logic.{◌⊎◌, inl, inr}
use Prim.Native.Nat.{◌≤◌}
use Rattle.accept_laws.proofs.Runs.{never}
use Rattle.accept_laws.proofs.Leaves.{change-sure, message-sure, six_on}
use Rattle.accept.proofs.session.Goals.{in-1-1, in_default+else-subtype-lt4+then-subtype-lt8}
use Rattle.accept.proofs.session.Goals as goal

pub returns-in-0 : goal.returns-in-0
returns-in-0 c = λ t micro e y. change-sure _ _ t micro _ _ _ c.in-0.is c.as_width.ensures.0 e (c.change.ensures y)

pub returns-in_default : goal.returns-in_default
returns-in_default c = λ t micro e y. never y

pub returns-in_default-2 : goal.returns-in_default-2
returns-in_default-2 c = λ t micro e y. never y

pub returns-in-1 : goal.returns-in-1
returns-in-1 c =
    let u = c.args.subtype in
    let k : ((u ≡ 1) ⊎ (u ≡ 4)) ⊎ ((6 ≤ u) × (u ≤ 7)) =
    elim c.in-1-1.branch [
      | in-1-1 w ↦ inl w.in-1-1.keys2
      | in_default+else-subtype-lt4+then-subtype-lt8 w ↦ inr (six_on u w.if-subtype-lt4-1.false w.if-subtype-lt8-1.true w.in_default-1.rest.0.1 w.in_default-1.rest.1)
    ] in
    λ t micro e y. message-sure _ _ t micro _ _ _ k c.as_width-in-1.ensures.0 e (c.message.ensures y)
