-- `text::sequence_end` meets its contract.
use native.Mathlib.Omega.{arith}
use Rattle.text.proofs.Laws.{at_most_three, no_start, alone, more_belong, more_lack}
use Rattle.text.proofs.sequence_end.Goals as goal

pub returns-in_err-start : goal.returns-in_err-start
returns-in_err-start c = no_start _ _ c.requires _ c.in_err-start.ensures c.from_residual.ensures

pub returns-then-start-eq0 : goal.returns-then-start-eq0
returns-then-start-eq0 c = alone _ _ c.requires _ c.in_ok-start.ensures c.if-start-eq0.true

pub go_on-requires : goal.go_on-requires
go_on-requires c = (omega (arith, c.if-start-eq0.false), at_most_three _ _ c.in_ok-start.ensures)

pub returns-then-go_on : goal.returns-then-go_on
returns-then-go_on c = rw c.from.ensures (more_belong _ _ c.requires _ c.in_ok-start.ensures _ c.go_on.ensures c.if-go_on.true)

pub returns : goal.returns
returns c = more_lack _ _ c.requires _ c.in_ok-start.ensures _ c.go_on.ensures c.if-go_on.false
