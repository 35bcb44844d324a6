-- `table_dump::table_dump` meets its contract: `read` is what the fields before have shown.
use Rattle.page_spec.specs.TableDump.{table_dump}
use Rattle.octets_laws.proofs.Rules.{flow}
use mathlib.Core.Path.{◌≡◌}
use borrow.Author.Rules.{rules}
use Rattle.std.specs.Prelude.{Err}
use Rattle.table_dump.proofs.table_dump.Goals as goal

pub returns-in_err-view : goal.returns-in_err-view
unfolding table_dump
returns-in_err-view c =
    let why = c.in_err-view.ensures in
    let passed : c.from_residual.result ≡ Err c.in_err-view.field-0.0 = search rules in
    search flow depth 14

pub returns-in_err-sequence : goal.returns-in_err-sequence
unfolding table_dump
returns-in_err-sequence c =
    let a = c.in_ok-view.ensures in
    let why = c.in_err-sequence.ensures in
    let passed : c.from_residual-in_err-sequence.result ≡ Err c.in_err-sequence.field-0.0 = search rules in
    search flow depth 14

pub returns-in_err-d : goal.returns-in_err-d
unfolding table_dump
returns-in_err-d c =
    let a = c.in_ok-view.ensures in
    let b = c.in_ok-sequence.ensures in
    let why = c.in_err-d.ensures in
    let passed : c.from_residual-in_err-d.result ≡ Err c.in_err-d.field-0.0 = search rules in
    search flow depth 14

pub returns-in_err-bits : goal.returns-in_err-bits
unfolding table_dump
returns-in_err-bits c =
    let a = c.in_ok-view.ensures in
    let b = c.in_ok-sequence.ensures in
    let d = c.in_ok-d.ensures in
    let why = c.in_err-bits.ensures in
    let passed : c.from_residual-in_err-bits.result ≡ Err c.in_err-bits.field-0.0 = search rules in
    search flow depth 14

pub returns-then-size-bits : goal.returns-then-size-bits
unfolding table_dump
returns-then-size-bits c =
    let a = c.in_ok-view.ensures in
    let b = c.in_ok-sequence.ensures in
    let d = c.in_ok-d.ensures in
    let e = c.in_ok-bits.ensures in
    search flow depth 14

pub returns : goal.returns
unfolding table_dump
returns c =
    let a = c.in_ok-view.ensures in
    let b = c.in_ok-sequence.ensures in
    let d = c.in_ok-d.ensures in
    let e = c.in_ok-bits.ensures in
    search flow depth 14
