use Rattle.mutes_spec.specs.Slots.{SlotsHold}
use Rattle.mutes.proofs.fill.Given as goal

abbrev pub invariant-loop-i : goal.invariant-loop-i
invariant-loop-i l = SlotsHold l.list l.slots l.i
