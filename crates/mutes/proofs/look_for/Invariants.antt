use Rattle.mutes.proofs.Look.{Coming}
use Rattle.mutes.proofs.Turns.{turns_left}
use Rattle.mutes.proofs.look_for.Given as goal

-- `mutes::look_for` meets its contract: 17 turns are left at most, and one less after each.
abbrev pub invariant-loop-slot : goal.invariant-loop-slot
invariant-loop-slot l = Coming l.list l.slots l.number l.slot l.bits

abbrev pub decreases-loop-slot : goal.decreases-loop-slot
decreases-loop-slot l = turns_left 17 l.list l.slots l.number l.slot l.bits
