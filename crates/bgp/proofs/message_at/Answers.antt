-- `bgp::message_at` meets its contract: `read` is what the fields before have shown.
use native.Mathlib.Omega.{arith}
use Rattle.page_spec.specs.Bgp4mp.{message}
use Rattle.octets_laws.proofs.Rules.{flow, is_read}
use mathlib.Core.Path.{◌≡◌}
use borrow.Author.Rules.{rules}
use Rattle.std.specs.Prelude.{Err}
use Rattle.bgp.proofs.message_at.Goals as goal

pub returns-in_err-a : goal.returns-in_err-a
unfolding message
returns-in_err-a c =
    let why = c.in_err-a.ensures in
    let passed : c.from_residual.result ≡ Err c.in_err-a.field-0.0 = search rules in
    search flow depth 12

pub returns-in_err-n : goal.returns-in_err-n
unfolding message
returns-in_err-n c =
    let a = c.in_ok-a.ensures in
    let why = c.in_err-n.ensures in
    let passed : c.from_residual-in_err-n.result ≡ Err c.in_err-n.field-0.0 = search rules in
    search flow depth 12

pub returns-in_err-kind : goal.returns-in_err-kind
unfolding message
returns-in_err-kind c =
    let a = c.in_ok-a.ensures in
    let b = c.in_ok-n.ensures in
    let why = c.in_err-kind.ensures in
    let passed : c.from_residual-in_err-kind.result ≡ Err c.in_err-kind.field-0.0 = search rules in
    search flow depth 12

pub message_rest-requires : goal.message_rest-requires
unfolding message
message_rest-requires c = let n = is_read _ _ _ _ _ c.in_ok-n.ensures in
    let kind = is_read _ _ _ _ _ c.in_ok-kind.ensures in
    omega arith

pub returns : goal.returns
unfolding message
returns c =
    let a = c.in_ok-a.ensures in
    let b = c.in_ok-n.ensures in
    let d = c.in_ok-kind.ensures in
    search flow depth 12
