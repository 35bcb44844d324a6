-- `peers::peer_table` meets its contract: `read` is what the fields before have shown.
use Rattle.page_spec.specs.Peers.{peer_table}
use Rattle.octets_laws.proofs.Rules.{flow}
use mathlib.Core.Path.{◌≡◌}
use borrow.Author.Rules.{rules}
use Rattle.std.specs.Prelude.{Err}
use Rattle.peers.proofs.peer_table.Goals as goal

pub returns-in_err-collector : goal.returns-in_err-collector
unfolding peer_table
returns-in_err-collector c =
    let why = c.in_err-collector.ensures in
    let passed : c.from_residual.result ≡ Err c.in_err-collector.field-0.0 = search rules in
    search flow depth 12

pub returns-in_err-n : goal.returns-in_err-n
unfolding peer_table
returns-in_err-n c =
    let a = c.in_ok-collector.ensures in
    let why = c.in_err-n.ensures in
    let passed : c.from_residual-in_err-n.result ≡ Err c.in_err-n.field-0.0 = search rules in
    search flow depth 12

pub returns-in_err-d : goal.returns-in_err-d
unfolding peer_table
returns-in_err-d c =
    let a = c.in_ok-collector.ensures in
    let b = c.in_ok-n.ensures in
    let why = c.in_err-d.ensures in
    let passed : c.from_residual-in_err-d.result ≡ Err c.in_err-d.field-0.0 = search rules in
    search flow depth 12

pub returns-then-not-is_text : goal.returns-then-not-is_text
unfolding peer_table
returns-then-not-is_text c =
    let a = c.in_ok-collector.ensures in
    let b = c.in_ok-n.ensures in
    let d = c.in_ok-d.ensures in
    search flow depth 12

pub returns : goal.returns
unfolding peer_table
returns c =
    let a = c.in_ok-collector.ensures in
    let b = c.in_ok-n.ensures in
    let d = c.in_ok-d.ensures in
    search flow depth 12
