-- `report_add::add_with` meets its contract.
use mathlib.Core.Path.{◌∙◌}
use Rattle.report_add.proofs.Answer.{refused, accepted}
use Rattle.report_add.proofs.add_with.Goals as goal

pub returns-then-k-ne0 : goal.returns-then-k-ne0
returns-then-k-ne0 c =
    let a = c.args in
    rw c.tally-k.ensures (refused a.longest a.report.now a.d.now (rw c.tally-k.ensures at c.if-k-ne0.true))

pub returns : goal.returns
returns c =
    let a = c.args in
    let r = accepted a.longest a.report.now a.d.now (rw c.tally-k.ensures at c.if-k-ne0.false) in
    let q = rw c.tally-k.ensures at c.sum.ensures in
    (q.0 ∙ r.0, q.1 ∙ r.1)
