-- `bgp::session_at` meets its contract: `read` is what the fields before have shown.
use Rattle.page_spec.specs.Bgp4mp.{session, addresses}
use Rattle.octets_laws.proofs.Rules.{flow}
use Rattle.bgp.proofs.Laws.{sizes}
use mathlib.Core.Path.{◌≡◌}
use borrow.Author.Rules.{rules}
use Rattle.std.specs.Prelude.{Err}
use Rattle.bgp.proofs.session_at.Goals as goal

pub returns-in_err-peer : goal.returns-in_err-peer
unfolding session addresses
returns-in_err-peer c =
    let why = c.in_err-peer.ensures in
    let passed : c.from_residual.result ≡ Err c.in_err-peer.field-0.0 = search rules in
    search (flow, sizes) depth 16

pub returns-in_err-local : goal.returns-in_err-local
unfolding session addresses
returns-in_err-local c =
    let a = c.in_ok-peer.ensures in
    let why = c.in_err-local.ensures in
    let passed : c.from_residual-in_err-local.result ≡ Err c.in_err-local.field-0.0 = search rules in
    search (flow, sizes) depth 16

pub returns-in_err-interface : goal.returns-in_err-interface
unfolding session addresses
returns-in_err-interface c =
    let a = c.in_ok-peer.ensures in
    let b = c.in_ok-local.ensures in
    let why = c.in_err-interface.ensures in
    let passed : c.from_residual-in_err-interface.result ≡ Err c.in_err-interface.field-0.0 = search rules in
    search (flow, sizes) depth 16

pub returns-in_err-family : goal.returns-in_err-family
unfolding session addresses
returns-in_err-family c =
    let a = c.in_ok-peer.ensures in
    let b = c.in_ok-local.ensures in
    let d = c.in_ok-interface.ensures in
    let why = c.in_err-family.ensures in
    let passed : c.from_residual-in_err-family.result ≡ Err c.in_err-family.field-0.0 = search rules in
    search (flow, sizes) depth 16

pub returns-in_default : goal.returns-in_default
unfolding session addresses
returns-in_default c =
    let a = c.in_ok-peer.ensures in
    let b = c.in_ok-local.ensures in
    let d = c.in_ok-interface.ensures in
    let e = c.in_ok-family.ensures in
    search (flow, sizes) depth 16

pub returns-in_err-g : goal.returns-in_err-g
unfolding session addresses
returns-in_err-g c =
    let a = c.in_ok-peer.ensures in
    let b = c.in_ok-local.ensures in
    let d = c.in_ok-interface.ensures in
    let e = c.in_ok-family.ensures in
    let why = c.in_err-g.ensures in
    let passed : c.from_residual-in_err-g.result ≡ Err c.in_err-g.field-0.0 = search rules in
    search (flow, sizes) depth 16

pub returns-in_err-next : goal.returns-in_err-next
unfolding session addresses
returns-in_err-next c =
    let a = c.in_ok-peer.ensures in
    let b = c.in_ok-local.ensures in
    let d = c.in_ok-interface.ensures in
    let e = c.in_ok-family.ensures in
    let f = c.in_ok-g.ensures in
    let why = c.in_err-next.ensures in
    let passed : c.from_residual-in_err-next.result ≡ Err c.in_err-next.field-0.0 = search rules in
    search (flow, sizes) depth 16

pub returns : goal.returns
unfolding session addresses
returns c =
    let a = c.in_ok-peer.ensures in
    let b = c.in_ok-local.ensures in
    let d = c.in_ok-interface.ensures in
    let e = c.in_ok-family.ensures in
    let f = c.in_ok-g.ensures in
    let g = c.in_ok-next.ensures in
    search (flow, sizes) depth 16
