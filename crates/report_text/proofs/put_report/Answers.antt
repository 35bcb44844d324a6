-- `report_text::put_report` meets its contract: the lines go one behind another, and three numbers leave room for the cells.
use native.Mathlib.Omega.{arith}
use Rattle.listing_laws.proofs.Lays.{both}
use Rattle.report_text_spec.specs.Text.{report_lines}
use Rattle.report_text.proofs.put_report.Goals as goal

pub returns : goal.returns
unfolding report_lines
returns c =
    let e1 = c.put_number-a.ensures in
    let e2 = c.put_number-b.ensures in
    let e3 = c.put_number-c.ensures in
    let e4 = c.put_cells.ensures in
    let x2 = both e1.0 e2.0 (omega arith) in
    let x3 = both x2 e3.0 (omega arith) in
    (both x3 e4.0 (omega arith), omega arith)
