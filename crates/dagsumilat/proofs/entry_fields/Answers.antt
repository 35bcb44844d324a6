-- `dagsumilat::entry_fields` meets its contract: `read` is what the fields before have shown.
use Rattle.dagsumilat_spec.specs.Unjudged.{entry_fields}
use Rattle.octets_laws.proofs.Rules.{flow}
use mathlib.Core.Path.{◌≡◌}
use borrow.Author.Rules.{rules}
use Rattle.std.specs.Prelude.{Err}
use Rattle.dagsumilat.proofs.entry_fields.Goals as goal

pub returns-in_err-index : goal.returns-in_err-index
unfolding entry_fields
returns-in_err-index c =
    let why = c.in_err-index.ensures in
    let passed : c.from_residual.result ≡ Err c.in_err-index.field-0.0 = search rules in
    search flow depth 14

pub returns-in_err-originated : goal.returns-in_err-originated
unfolding entry_fields
returns-in_err-originated c =
    let a = c.in_ok-index.ensures in
    let why = c.in_err-originated.ensures in
    let passed : c.from_residual-in_err-originated.result ≡ Err c.in_err-originated.field-0.0 = search rules in
    search flow depth 14

pub returns-in_err-n : goal.returns-in_err-n
unfolding entry_fields
returns-in_err-n c =
    let a = c.in_ok-index.ensures in
    let b = c.in_ok-originated.ensures in
    let why = c.in_err-n.ensures in
    let passed : c.from_residual-in_err-n.result ≡ Err c.in_err-n.field-0.0 = search rules in
    search flow depth 14

pub returns-in_err-next : goal.returns-in_err-next
unfolding entry_fields
returns-in_err-next c =
    let a = c.in_ok-index.ensures in
    let b = c.in_ok-originated.ensures in
    let d = c.in_ok-n.ensures in
    let why = c.in_err-next.ensures in
    let passed : c.from_residual-in_err-next.result ≡ Err c.in_err-next.field-0.0 = search rules in
    search flow depth 14

pub returns : goal.returns
unfolding entry_fields
returns c =
    let a = c.in_ok-index.ensures in
    let b = c.in_ok-originated.ensures in
    let d = c.in_ok-n.ensures in
    let e = c.in_ok-next.ensures in
    search flow depth 14
