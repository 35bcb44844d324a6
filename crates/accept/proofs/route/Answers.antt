-- `accept::route` meets its contract.
use Rattle.accept_laws.proofs.Runs.{never}
use Rattle.accept_laws.proofs.Leaves.{route_sure, long_route_sure}
use Rattle.accept.proofs.route.Goals as goal

pub returns-in-1 : goal.returns-in-1
returns-in-1 c = λ n t y. rw c.in-1.is (route_sure n _ t (c.table_dump.ensures y))

pub returns-in-2 : goal.returns-in-2
returns-in-2 c = λ n t y. rw c.in-2.is (long_route_sure n _ t (c.table_dump-in-2.ensures y))

pub returns-in_default : goal.returns-in_default
returns-in_default c = λ n t y. never y
