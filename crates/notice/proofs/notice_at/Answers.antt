-- `notice::notice_at` meets its contract.
use Rattle.notice.proofs.notice_at.Goals as goal

pub returns-then-heed : goal.returns-then-heed
returns-then-heed c = let e = c.notice_of.ensures in (e.0, λ t g. rw c.if-heed.true (e.1 t g))

pub returns : goal.returns
returns c = (tt, λ t g. rw c.if-heed.false)
