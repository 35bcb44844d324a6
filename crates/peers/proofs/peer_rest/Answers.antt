-- `peers::peer_rest` meets its contract: `read` is what the fields before have shown.
use Rattle.page_spec.specs.Peers.{peer_rest}
use Rattle.octets_laws.proofs.Rules.{flow}
use mathlib.Core.Path.{◌≡◌}
use borrow.Author.Rules.{rules}
use Rattle.std.specs.Prelude.{Err}
use Rattle.peers.proofs.peer_rest.Goals as goal

pub returns-in_err-a : goal.returns-in_err-a
unfolding peer_rest
returns-in_err-a c =
    let why = c.in_err-a.ensures in
    let passed : c.from_residual.result ≡ Err c.in_err-a.field-0.0 = search rules in
    search flow depth 12

pub returns-in_err-as_number : goal.returns-in_err-as_number
unfolding peer_rest
returns-in_err-as_number c =
    let a = c.in_ok-a.ensures in
    let why = c.in_err-as_number.ensures in
    let passed : c.from_residual-in_err-as_number.result ≡ Err c.in_err-as_number.field-0.0 = search rules in
    search flow depth 12

pub returns : goal.returns
unfolding peer_rest
returns c =
    let a = c.in_ok-a.ensures in
    let b = c.in_ok-as_number.ensures in
    search flow depth 12
