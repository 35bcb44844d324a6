-- `mutes::look_for` meets its contract: 17 turns are left at most, and one less after each.
use Rattle.std.proofs.Common.{arith}
use Rattle.mutes_spec.specs.Slots.{GoesOn}
use Rattle.mutes.proofs.Look.{look_on}
use Rattle.mutes.proofs.Turns.{turn_less, look_ends}
use Rattle.mutes.proofs.look_for.Goals as goal

goes_on : (c : goal.Else-number-from) → GoesOn c.args.list.now c.args.slots.now c.args.number c.loop-slot.slot
goes_on c = (c.loop-slot-test.true, λ e. c.if-number-from.false cc)

pub returns-then-number-from : goal.returns-then-number-from
returns-then-number-from c = look_ends c.requires.1 c.loop-slot.invariant (λ t. cc)

pub loop-slot-smaller : goal.loop-slot-smaller
loop-slot-smaller c = rw c.from-place.ensures (turn_less c.requires.1 c.loop-slot.invariant (goes_on c))

pub loop-slot-preserved : goal.loop-slot-preserved
loop-slot-preserved c = rw c.from-place.ensures (look_on c.requires.1 c.loop-slot.invariant (goes_on c))

pub returns : goal.returns
returns c = look_ends c.requires.1 c.loop-slot.invariant (λ t. absurd (omega (arith, t, c.loop-slot-test.false)))
