-- What is left to lay makes the buffer what it shall be.
use Rattle.std.proofs.Common.{◌≡◌}
use Rattle.form_spec.specs.Octets.{to_be}
use Rattle.octets_spec.specs.Over.{over}
use Rattle.octets.proofs.put_number.Given as goal

abbrev pub invariant-loop-i : goal.invariant-loop-i
invariant-loop-i l = over l.out l.at (to_be l.i l.rest) ≡ over l.initial.out l.at (to_be l.width l.v)
