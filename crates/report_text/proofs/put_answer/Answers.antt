-- `report_text::put_answer` meets its contract.
use native.Mathlib.Omega.{arith}
use Rattle.report_text.proofs.Text.{answer-fault, answer_own}
use Rattle.report_text.proofs.put_answer.Goals as goal

pub returns-then-t-ne0 : goal.returns-then-t-ne0
returns-then-t-ne0 c =
    let a = c.args.t in
    (rw (answer-fault a.fault a.place a.own c.if-t-ne0.true) c.put_fault.ensures.0, omega arith)

pub returns : goal.returns
returns c =
    let a = c.args.t in
    (rw (answer_own a.fault a.place a.own c.if-t-ne0.false) c.put_report.ensures.0, omega arith)
