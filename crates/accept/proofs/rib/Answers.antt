-- `accept::rib` meets its contract.
use Rattle.accept_laws.proofs.Runs.{never}
use Rattle.accept.proofs.rib.Goals as goal

pub returns-in_default : goal.returns-in_default
returns-in_default c = never

pub returns : goal.returns
returns c = λ e. rw c.in-Some.is (c.prefix.ensures e)
