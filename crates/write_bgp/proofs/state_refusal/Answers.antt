-- `write_bgp::state_refusal` meets its contract: each value in its turn.
use mathlib.Core.Path.{◌≡◌, ap}
use borrow.Author.Rules.{rules}
use Rattle.std.specs.Prelude.{Err}
use Rattle.write_spec.specs.Judged.{unplaced}
use Rattle.page_spec.specs.Bgp4mp.{state}
use Rattle.write_laws.proofs.Judged.{judge_flow}
use Rattle.write_bgp.proofs.state_refusal.Goals.{then-number-lt1-via-then-number-lt1, then-number-lt1-via-else-number-lt1+then-number-gt6}
use Rattle.write_bgp.proofs.state_refusal.Goals as goal

pub returns-in_err-fits : goal.returns-in_err-fits
unfolding state
returns-in_err-fits c =
    let why = c.in_err-fits.ensures in
    let passed : c.from_residual.result ≡ Err c.in_err-fits.field-0.0 = search rules in
    let y = ap unplaced passed in
    search judge_flow depth 12

pub returns-then-number-lt1 : goal.returns-then-number-lt1
unfolding state
returns-then-number-lt1 c =
    let a = c.in_ok-fits.ensures in
    elim c.then-number-lt1.branch [ then-number-lt1-via-then-number-lt1 w ↦ search judge_flow depth 12 | then-number-lt1-via-else-number-lt1+then-number-gt6 w ↦ search judge_flow depth 12 ]

pub returns : goal.returns
unfolding state
returns c =
    let a = c.in_ok-fits.ensures in
    search judge_flow depth 12
