-- `write_rib::prefix_refusal` meets its contract: each value in its turn.
use mathlib.Core.Path.{◌≡◌, ap}
use borrow.Author.Rules.{rules}
use Rattle.std.specs.Prelude.{Err}
use Rattle.write_spec.specs.Judged.{unplaced}
use Rattle.page_spec.specs.Rib.{prefix}
use Rattle.write_laws.proofs.Judged.{judge_flow}
use Rattle.write_rib.proofs.prefix_refusal.Goals as goal

pub returns-in_err-fits : goal.returns-in_err-fits
unfolding prefix
returns-in_err-fits c =
    let why = c.in_err-fits.ensures in
    let passed : c.from_residual.result ≡ Err c.in_err-fits.field-0.0 = search rules in
    let y = ap unplaced passed in
    search judge_flow depth 12

pub returns-then-most-bits : goal.returns-then-most-bits
unfolding prefix
returns-then-most-bits c =
    let a = c.in_ok-fits.ensures in
    search judge_flow depth 12

pub returns : goal.returns
unfolding prefix
returns c =
    let a = c.in_ok-fits.ensures in
    search judge_flow depth 12
