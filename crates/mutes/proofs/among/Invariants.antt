use Rattle.std.proofs.Common.{◌≡◌, take}
use Rattle.cut_spec.specs.Cut.{mem}
use Rattle.mutes.proofs.among.Given as goal

abbrev pub invariant-loop-other : goal.invariant-loop-other
invariant-loop-other l = l.hit ≡ mem l.number (take l.other-index l.others)
