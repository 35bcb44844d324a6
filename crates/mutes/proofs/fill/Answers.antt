-- `mutes::fill` meets its contract.
use Rattle.std.proofs.Common.{◌≡◌, subst, arith}
use Rattle.mutes_spec.specs.Slots.{SlotsHold, slots_take}
use Rattle.mutes.proofs.Held.{holds_none}
use Rattle.mutes.proofs.fill.Goals as goal

pub loop-i-init : goal.loop-i-init
loop-i-init c = holds_none _ _ (λ i. omega (arith, c.type_inv.list i)) c.requires

pub returns : goal.returns
returns c =
    let l = c.loop-i in
    let e : l.i ≡ slots_take c.args.list.now = omega (arith, l.auto.i-end, c.held_of-held.ensures, c.loop-i-test.false) in
    subst (SlotsHold _ l.slots) e l.invariant
