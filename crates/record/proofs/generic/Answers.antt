-- `record::generic` meets its contract.
use Rattle.record_spec.specs.One.{tabled}
use Rattle.record.proofs.generic.Goals as goal

pub returns-in_default : goal.returns-in_default
unfolding tabled
returns-in_default c = rw c.in_default.is

pub returns : goal.returns
unfolding tabled
returns c = rw c.in-Some.is (rw c.header_of.ensures at c.rib_generic.ensures)
