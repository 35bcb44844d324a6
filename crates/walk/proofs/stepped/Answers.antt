-- `walk::stepped` meets its contract.
use Rattle.walk.proofs.stepped.Goals as goal

pub returns : goal.returns
returns c = rw c.time.ensures
