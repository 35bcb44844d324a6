-- `walk::walk` meets its contract.
use Rattle.walk.proofs.walk.Goals as goal

pub returns : goal.returns
returns c = c.walk_with.ensures
