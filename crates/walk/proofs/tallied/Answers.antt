-- `walk::tallied` meets its contract.
use mathlib.Core.Path.{refl}
use Rattle.walk.proofs.tallied.Goals as goal

pub returns : goal.returns
returns c = (refl, refl, refl, c.numbers.ensures)
