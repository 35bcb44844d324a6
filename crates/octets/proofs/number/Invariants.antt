-- v is the number in the octets so far.
use Rattle.std.proofs.Common.{◌≡◌, ◌<◌, ◌^◌}
use Rattle.octets_spec.specs.Be.{num_at}
use Rattle.octets.proofs.number.Given as goal

abbrev pub invariant-loop-x : goal.invariant-loop-x
invariant-loop-x l = (l.v ≡ num_at l.s l.at l.x-index) × (l.v < 256 ^ l.x-index)
