-- `write_peers::front_refusal` meets its contract: each value in its turn.
use mathlib.Core.Path.{◌≡◌, ap}
use borrow.Author.Rules.{rules}
use Rattle.std.specs.Prelude.{Err}
use Rattle.write_spec.specs.Judged.{unplaced}
use Rattle.write_laws.proofs.Judged.{judge_flow}
use Rattle.write_peers.proofs.front_refusal.Goals as goal

pub returns-in_err-fits : goal.returns-in_err-fits
returns-in_err-fits c =
    let why = c.in_err-fits.ensures in
    let passed : c.from_residual.result ≡ Err c.in_err-fits.field-0.0 = search rules in
    let y = ap unplaced passed in
    search judge_flow depth 12

pub returns-in_err-fits-2 : goal.returns-in_err-fits-2
returns-in_err-fits-2 c =
    let a = c.in_ok-fits.ensures in
    let why = c.in_err-fits-2.ensures in
    let passed : c.from_residual-in_err-fits-2.result ≡ Err c.in_err-fits-2.field-0.0 = search rules in
    let y = ap unplaced passed in
    search judge_flow depth 12

pub returns-then-not-is_text : goal.returns-then-not-is_text
returns-then-not-is_text c =
    let a = c.in_ok-fits.ensures in
    let b = c.in_ok-fits-2.ensures in
    search judge_flow depth 12

pub returns : goal.returns
returns c =
    let a = c.in_ok-fits.ensures in
    let b = c.in_ok-fits-2.ensures in
    search judge_flow depth 12
