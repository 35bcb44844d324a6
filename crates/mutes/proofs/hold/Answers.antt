-- `mutes::hold` meets its contract.
use Rattle.std.proofs.Common.{arith}
use Rattle.mutes.proofs.Held.{holds_repeat, holds-next}
use Rattle.mutes.proofs.hold.Goals as goal

pub returns-then-slots-end-gt0 : goal.returns-then-slots-end-gt0
returns-then-slots-end-gt0 c = holds_repeat c.requires.slots_hold c.requires.i_in_bounds.0 c.requires.i_in_bounds.1 (rw c.from.ensures at c.look_for-end.ensures) c.if-slots-end-gt0.true

pub returns : goal.returns
returns c = holds-next c.requires.slots_hold c.requires.i_in_bounds.0 c.requires.i_in_bounds.1 (rw c.from.ensures at c.look_for-end.ensures) (omega (arith, c.if-slots-end-gt0.false))
