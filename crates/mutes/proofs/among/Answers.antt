-- `mutes::among` meets its contract: among the first i + 1 are those among the first i, and the next.
use Rattle.std.proofs.Common.{sym}
use Rattle.mutes.proofs.Members.{mem-suc}
use Rattle.mutes.proofs.among.Goals as goal

pub loop-other-preserved : goal.loop-other-preserved
loop-other-preserved c = rw (c.loop-other.invariant, c.from.ensures) (sym (mem-suc _ _ _ c.loop-other-test.true))
