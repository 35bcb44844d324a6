use Rattle.std.proofs.Common.{◌-◌, length}
use Rattle.cut.proofs.Turn.{Turn}
use Rattle.cut.proofs.leave.Given as goal

abbrev pub invariant-loop-at : goal.invariant-loop-at
invariant-loop-at l = Turn l.longest l.window.start l.window.end l.mutes l.d l.lays l.new_indexes l.initial.out l.out l.at l.far l.in_force

abbrev pub decreases-loop-at : goal.decreases-loop-at
decreases-loop-at l = length l.d - l.at
