-- `attr::attributes_end` meets its contract.
use native.Mathlib.Omega.{arith}
use Rattle.attr.proofs.Laws.{goes_on}
use Rattle.attr.proofs.attributes_end.Goals as goal

pub loop-at-preserved : goal.loop-at-preserved
loop-at-preserved c = goes_on c.args.m.now c.loop-at.at _ (omega arith) c.loop-at.invariant c.octets_behind.ensures
