-- `record::header_of` meets its contract.
use Rattle.record.proofs.header_of.Goals as goal

pub returns : goal.returns
returns c = cc (c.number.ensures.0, c.number-2.ensures.0, c.number-3.ensures.0, c.number-4.ensures.0)
