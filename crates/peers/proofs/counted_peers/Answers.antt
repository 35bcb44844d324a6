-- `peers::counted_peers` meets its contract: `read` is what the fields before have shown.
use Rattle.form_spec.specs.Pass.{pass}
use Rattle.page_spec.specs.Peers.{peer_list}
use Rattle.octets_laws.proofs.Rules.{flow}
use mathlib.Core.Path.{◌≡◌}
use borrow.Author.Rules.{rules}
use Rattle.std.specs.Prelude.{Err}
use Rattle.peers.proofs.counted_peers.Goals as goal

pub returns-in_err-count : goal.returns-in_err-count
unfolding peer_list pass
returns-in_err-count c =
    let why = c.in_err-count.ensures in
    let passed : c.from_residual.result ≡ Err c.in_err-count.field-0.0 = search rules in
    search flow depth 12

pub returns : goal.returns
unfolding peer_list pass
returns c =
    let a = c.in_ok-count.ensures in
    let h = rw c.left.ensures at c.peers_at.ensures in
    search flow depth 12
