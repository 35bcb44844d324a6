-- `table_dump::rest_at` meets its contract: `read` is what the fields before have shown.
use Rattle.page_spec.specs.Rib.{tiling, attributes}
use Rattle.page_spec.specs.TableDump.{table_dump_rest}
use Rattle.octets_laws.proofs.Rules.{flow}
use mathlib.Core.Path.{◌≡◌}
use borrow.Author.Rules.{rules}
use Rattle.std.specs.Prelude.{Err}
use Rattle.table_dump.proofs.rest_at.Goals as goal

pub returns-in_err-status : goal.returns-in_err-status
unfolding table_dump_rest attributes tiling
returns-in_err-status c =
    let why = c.in_err-status.ensures in
    let passed : c.from_residual.result ≡ Err c.in_err-status.field-0.0 = search rules in
    search flow depth 20

pub returns-in_err-originated : goal.returns-in_err-originated
unfolding table_dump_rest attributes tiling
returns-in_err-originated c =
    let a = c.in_ok-status.ensures in
    let why = c.in_err-originated.ensures in
    let passed : c.from_residual-in_err-originated.result ≡ Err c.in_err-originated.field-0.0 = search rules in
    search flow depth 20

pub returns-in_err-d : goal.returns-in_err-d
unfolding table_dump_rest attributes tiling
returns-in_err-d c =
    let a = c.in_ok-status.ensures in
    let b = c.in_ok-originated.ensures in
    let why = c.in_err-d.ensures in
    let passed : c.from_residual-in_err-d.result ≡ Err c.in_err-d.field-0.0 = search rules in
    search flow depth 20

pub returns-in_err-peer : goal.returns-in_err-peer
unfolding table_dump_rest attributes tiling
returns-in_err-peer c =
    let a = c.in_ok-status.ensures in
    let b = c.in_ok-originated.ensures in
    let d = c.in_ok-d.ensures in
    let why = c.in_err-peer.ensures in
    let passed : c.from_residual-in_err-peer.result ≡ Err c.in_err-peer.field-0.0 = search rules in
    search flow depth 20

pub returns-in_err-n : goal.returns-in_err-n
unfolding table_dump_rest attributes tiling
returns-in_err-n c =
    let a = c.in_ok-status.ensures in
    let b = c.in_ok-originated.ensures in
    let d = c.in_ok-d.ensures in
    let e = c.in_ok-peer.ensures in
    let why = c.in_err-n.ensures in
    let passed : c.from_residual-in_err-n.result ≡ Err c.in_err-n.field-0.0 = search rules in
    search flow depth 20

pub returns-in_err-end : goal.returns-in_err-end
unfolding table_dump_rest attributes tiling
returns-in_err-end c =
    let a = c.in_ok-status.ensures in
    let b = c.in_ok-originated.ensures in
    let d = c.in_ok-d.ensures in
    let e = c.in_ok-peer.ensures in
    let f = c.in_ok-n.ensures in
    let why = c.in_err-end.ensures in
    let passed : c.from_residual-in_err-end.result ≡ Err c.in_err-end.field-0.0 = search rules in
    search flow depth 20

pub returns-then-not-tile : goal.returns-then-not-tile
unfolding table_dump_rest attributes tiling
returns-then-not-tile c =
    let a = c.in_ok-status.ensures in
    let b = c.in_ok-originated.ensures in
    let d = c.in_ok-d.ensures in
    let e = c.in_ok-peer.ensures in
    let f = c.in_ok-n.ensures in
    let g = c.in_ok-end.ensures in
    search flow depth 20

pub returns-then-end-m : goal.returns-then-end-m
unfolding table_dump_rest attributes tiling
returns-then-end-m c =
    let a = c.in_ok-status.ensures in
    let b = c.in_ok-originated.ensures in
    let d = c.in_ok-d.ensures in
    let e = c.in_ok-peer.ensures in
    let f = c.in_ok-n.ensures in
    let g = c.in_ok-end.ensures in
    search flow depth 20

pub returns : goal.returns
unfolding table_dump_rest attributes tiling
returns c =
    let a = c.in_ok-status.ensures in
    let b = c.in_ok-originated.ensures in
    let d = c.in_ok-d.ensures in
    let e = c.in_ok-peer.ensures in
    let f = c.in_ok-n.ensures in
    let g = c.in_ok-end.ensures in
    search flow depth 20
