-- `walk::walk_with` meets its contract: the first number of a report counts the records, heeded or not.
use mathlib.Core.Bool.{false}
use Rattle.walk.proofs.Tallying.{walked-tallied}
use Rattle.walk.proofs.walk_with.Goals as goal

pub returns : goal.returns
returns c = rw c.tally-k.ensures (walked-tallied false c.args.longest c.args.d.now)
