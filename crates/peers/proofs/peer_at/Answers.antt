-- `peers::peer_at` meets its contract: `read` is what the fields before have shown.
use Rattle.page_spec.specs.Peers.{peer}
use Rattle.record_laws.proofs.Finds.{peer-finds}
use Rattle.octets_laws.proofs.Rules.{flow}
use mathlib.Core.Path.{◌≡◌}
use borrow.Author.Rules.{rules}
use Rattle.std.specs.Prelude.{Err}
use Rattle.peers.proofs.peer_at.Goals as goal

pub returns-in_err-kind : goal.returns-in_err-kind
unfolding peer
returns-in_err-kind c =
    let why = c.in_err-kind.ensures in
    let passed : c.from_residual.result ≡ Err c.in_err-kind.field-0.0 = search rules in
    peer-finds _ _ _ (search flow depth 12)

pub returns-in_err-id : goal.returns-in_err-id
unfolding peer
returns-in_err-id c =
    let a = c.in_ok-kind.ensures in
    let why = c.in_err-id.ensures in
    let passed : c.from_residual-in_err-id.result ≡ Err c.in_err-id.field-0.0 = search rules in
    peer-finds _ _ _ (search flow depth 12)

pub returns-then-kind-eq1 : goal.returns-then-kind-eq1
unfolding peer
returns-then-kind-eq1 c =
    let a = c.in_ok-kind.ensures in
    let b = c.in_ok-id.ensures in
    peer-finds _ _ _ (search flow depth 12)

pub returns : goal.returns
unfolding peer
returns c =
    let a = c.in_ok-kind.ensures in
    let b = c.in_ok-id.ensures in
    peer-finds _ _ _ (search flow depth 12)
