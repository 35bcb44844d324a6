-- `report_text::render` meets its contract.
use mathlib.Core.Path.{refl}
use native.Mathlib.Omega.{arith}
use Rattle.page_spec.specs.Bgp4mp.{longest_message}
use Rattle.listing_laws.proofs.Lays.{front}
use Rattle.report_text.proofs.Text.{all_large, all_tallied}
use Rattle.report_text.proofs.render.Goals as goal

pub returns-then-d-gt65536 : goal.returns-then-d-gt65536
returns-then-d-gt65536 c =
    let f = front (all_large longest_message _ c.if-d-gt65536.true) (record { ends = refl; holds = c.put_bytes.ensures }) in
    (f.0, f.1, omega arith)

pub returns : goal.returns
returns c =
    let f = front (all_tallied longest_message _ c.if-d-gt65536.false _ c.tally.ensures) c.put_answer.ensures.0 in
    (f.0, f.1, omega arith)
