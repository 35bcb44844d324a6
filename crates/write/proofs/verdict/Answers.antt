-- `write::verdict` meets its contract.
use Rattle.octets_laws.proofs.Rules.{flow}
use Rattle.write_laws.proofs.Answers.{fault_first, fault_not}
use Rattle.write.proofs.verdict.Goals as goal

pub returns-in-Err : goal.returns-in-Err
returns-in-Err c = λ n h. fault_first n _ _ _ (rw c.in-Err.is at h)

pub returns-then-size-gt4294967295 : goal.returns-then-size-gt4294967295
returns-then-size-gt4294967295 c = λ n h. fault_not n _ _ _ _ (rw c.in_default.is at h) (search flow)

pub returns-then-room-size : goal.returns-then-room-size
returns-then-room-size c = λ n h. fault_not n _ _ _ _ (rw c.in_default.is at h) (search flow)

pub returns : goal.returns
returns c = λ n h. fault_not n _ _ _ _ (rw c.in_default.is at h) (search flow)
