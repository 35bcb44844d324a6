-- `write_rib::generic_refusal` meets its contract: each value in its turn.
use mathlib.Core.Path.{◌≡◌, ap}
use borrow.Author.Rules.{rules}
use Rattle.std.specs.Prelude.{Err}
use Rattle.write_spec.specs.Judged.{unplaced}
use Rattle.write_laws.proofs.Judged.{judge_flow}
use Rattle.write_rib.proofs.generic_refusal.Goals.{then-family-lt1-via-then-family-lt1, then-family-lt1-via-else-family-lt1+then-family-gt2, then-safi-lt1-via-then-safi-lt1, then-safi-lt1-via-else-safi-lt1+then-safi-gt2}
use Rattle.write_rib.proofs.generic_refusal.Goals as goal

pub returns-in_err-fits : goal.returns-in_err-fits
returns-in_err-fits c =
    let why = c.in_err-fits.ensures in
    let passed : c.from_residual.result ≡ Err c.in_err-fits.field-0.0 = search rules in
    let y = ap unplaced passed in
    search judge_flow depth 12

pub returns-in_err-fits-2 : goal.returns-in_err-fits-2
returns-in_err-fits-2 c =
    let a = c.in_ok-fits.ensures in
    let why = c.in_err-fits-2.ensures in
    let passed : c.from_residual-in_err-fits-2.result ≡ Err c.in_err-fits-2.field-0.0 = search rules in
    let y = ap unplaced passed in
    search judge_flow depth 12

pub returns-then-family-lt1 : goal.returns-then-family-lt1
returns-then-family-lt1 c =
    let a = c.in_ok-fits.ensures in
    let b = c.in_ok-fits-2.ensures in
    elim c.then-family-lt1.branch [ then-family-lt1-via-then-family-lt1 w ↦ search judge_flow depth 12 | then-family-lt1-via-else-family-lt1+then-family-gt2 w ↦ search judge_flow depth 12 ]

pub returns-in_err-fits-3 : goal.returns-in_err-fits-3
returns-in_err-fits-3 c =
    let a = c.in_ok-fits.ensures in
    let b = c.in_ok-fits-2.ensures in
    let why = c.in_err-fits-3.ensures in
    let passed : c.from_residual-in_err-fits-3.result ≡ Err c.in_err-fits-3.field-0.0 = search rules in
    let y = ap unplaced passed in
    search judge_flow depth 12

pub returns-then-safi-lt1 : goal.returns-then-safi-lt1
returns-then-safi-lt1 c =
    let a = c.in_ok-fits.ensures in
    let b = c.in_ok-fits-2.ensures in
    let d = c.in_ok-fits-3.ensures in
    elim c.then-safi-lt1.branch [ then-safi-lt1-via-then-safi-lt1 w ↦ search judge_flow depth 12 | then-safi-lt1-via-else-safi-lt1+then-safi-gt2 w ↦ search judge_flow depth 12 ]

pub returns-then-family-le1 : goal.returns-then-family-le1
returns-then-family-le1 c =
    let a = c.in_ok-fits.ensures in
    let b = c.in_ok-fits-2.ensures in
    let d = c.in_ok-fits-3.ensures in
    search judge_flow depth 12

pub returns : goal.returns
returns c =
    let a = c.in_ok-fits.ensures in
    let b = c.in_ok-fits-2.ensures in
    let d = c.in_ok-fits-3.ensures in
    search judge_flow depth 12
