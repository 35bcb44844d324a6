-- `write_table_dump::route_refusal` meets its contract: each value in its turn.
use mathlib.Core.Path.{◌≡◌, ap}
use borrow.Author.Rules.{rules}
use Rattle.std.specs.Prelude.{Err}
use Rattle.write_spec.specs.Judged.{unplaced}
use Rattle.page_spec.specs.TableDump.{table_dump}
use Rattle.write_laws.proofs.Judged.{judge_flow}
use Rattle.write_table_dump.proofs.route_refusal.Goals as goal

pub returns-in_err-fits : goal.returns-in_err-fits
unfolding table_dump
returns-in_err-fits c =
    let why = c.in_err-fits.ensures in
    let passed : c.from_residual.result ≡ Err c.in_err-fits.field-0.0 = search rules in
    let y = ap unplaced passed in
    search judge_flow depth 12

pub returns-in_err-fits-2 : goal.returns-in_err-fits-2
unfolding table_dump
returns-in_err-fits-2 c =
    let a = c.in_ok-fits.ensures in
    let why = c.in_err-fits-2.ensures in
    let passed : c.from_residual-in_err-fits-2.result ≡ Err c.in_err-fits-2.field-0.0 = search rules in
    let y = ap unplaced passed in
    search judge_flow depth 12

pub returns-in_err-sized : goal.returns-in_err-sized
unfolding table_dump
returns-in_err-sized c =
    let a = c.in_ok-fits.ensures in
    let b = c.in_ok-fits-2.ensures in
    let why = c.in_err-sized.ensures in
    let passed : c.from_residual-in_err-sized.result ≡ Err c.in_err-sized.field-0.0 = search rules in
    let y = ap unplaced passed in
    search judge_flow depth 12

pub returns-in_err-fits-3 : goal.returns-in_err-fits-3
unfolding table_dump
returns-in_err-fits-3 c =
    let a = c.in_ok-fits.ensures in
    let b = c.in_ok-fits-2.ensures in
    let d = c.in_ok-sized.ensures in
    let why = c.in_err-fits-3.ensures in
    let passed : c.from_residual-in_err-fits-3.result ≡ Err c.in_err-fits-3.field-0.0 = search rules in
    let y = ap unplaced passed in
    search judge_flow depth 12

pub returns-then-size-bits : goal.returns-then-size-bits
unfolding table_dump
returns-then-size-bits c =
    let a = c.in_ok-fits.ensures in
    let b = c.in_ok-fits-2.ensures in
    let d = c.in_ok-sized.ensures in
    let e = c.in_ok-fits-3.ensures in
    search judge_flow depth 12

pub returns : goal.returns
unfolding table_dump
returns c =
    let a = c.in_ok-fits.ensures in
    let b = c.in_ok-fits-2.ensures in
    let d = c.in_ok-sized.ensures in
    let e = c.in_ok-fits-3.ensures in
    search judge_flow depth 12
