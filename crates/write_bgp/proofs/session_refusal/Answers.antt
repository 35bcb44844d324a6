-- `write_bgp::session_refusal` meets its contract: each value in its turn.
use mathlib.Core.Path.{◌≡◌, ap}
use borrow.Author.Rules.{rules}
use Rattle.std.specs.Prelude.{Err}
use Rattle.write_spec.specs.Judged.{unplaced}
use Rattle.page_spec.specs.Bgp4mp.{session}
use Rattle.write_laws.proofs.Judged.{judge_flow}
use Rattle.write_bgp.proofs.session_refusal.Goals as goal

pub returns-in_err-fits : goal.returns-in_err-fits
unfolding session
returns-in_err-fits c =
    let why = c.in_err-fits.ensures in
    let passed : c.from_residual.result ≡ Err c.in_err-fits.field-0.0 = search rules in
    let y = ap unplaced passed in
    search judge_flow depth 12

pub returns-in_err-fits-2 : goal.returns-in_err-fits-2
unfolding session
returns-in_err-fits-2 c =
    let a = c.in_ok-fits.ensures in
    let why = c.in_err-fits-2.ensures in
    let passed : c.from_residual-in_err-fits-2.result ≡ Err c.in_err-fits-2.field-0.0 = search rules in
    let y = ap unplaced passed in
    search judge_flow depth 12

pub returns-in_err-fits-3 : goal.returns-in_err-fits-3
unfolding session
returns-in_err-fits-3 c =
    let a = c.in_ok-fits.ensures in
    let b = c.in_ok-fits-2.ensures in
    let why = c.in_err-fits-3.ensures in
    let passed : c.from_residual-in_err-fits-3.result ≡ Err c.in_err-fits-3.field-0.0 = search rules in
    let y = ap unplaced passed in
    search judge_flow depth 12

pub returns-in_err-fits-4 : goal.returns-in_err-fits-4
unfolding session
returns-in_err-fits-4 c =
    let a = c.in_ok-fits.ensures in
    let b = c.in_ok-fits-2.ensures in
    let d = c.in_ok-fits-3.ensures in
    let why = c.in_err-fits-4.ensures in
    let passed : c.from_residual-in_err-fits-4.result ≡ Err c.in_err-fits-4.field-0.0 = search rules in
    let y = ap unplaced passed in
    search judge_flow depth 12

pub returns-then-family-eq1 : goal.returns-then-family-eq1
unfolding session
returns-then-family-eq1 c =
    let a = c.in_ok-fits.ensures in
    let b = c.in_ok-fits-2.ensures in
    let d = c.in_ok-fits-3.ensures in
    let e = c.in_ok-fits-4.ensures in
    search judge_flow depth 12

pub returns-then-family-eq2 : goal.returns-then-family-eq2
unfolding session
returns-then-family-eq2 c =
    let a = c.in_ok-fits.ensures in
    let b = c.in_ok-fits-2.ensures in
    let d = c.in_ok-fits-3.ensures in
    let e = c.in_ok-fits-4.ensures in
    search judge_flow depth 12

pub returns : goal.returns
unfolding session
returns c =
    let a = c.in_ok-fits.ensures in
    let b = c.in_ok-fits-2.ensures in
    let d = c.in_ok-fits-3.ensures in
    let e = c.in_ok-fits-4.ensures in
    search judge_flow depth 12
