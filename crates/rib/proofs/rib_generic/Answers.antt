-- `rib::rib_generic` meets its contract: `read` is what the fields before have shown.
use Rattle.page_spec.specs.Rib.{rib_generic}
use Rattle.octets_laws.proofs.Rules.{flow}
use mathlib.Core.Path.{◌≡◌}
use borrow.Author.Rules.{rules}
use Rattle.std.specs.Prelude.{Err}
use Rattle.rib.proofs.rib_generic.Goals.{then-family-lt1-via-then-family-lt1, then-family-lt1-via-else-family-lt1+then-family-gt2, then-safi-lt1-via-then-safi-lt1, then-safi-lt1-via-else-safi-lt1+then-safi-gt2}
use Rattle.rib.proofs.rib_generic.Goals as goal

pub returns-in_err-sequence : goal.returns-in_err-sequence
unfolding rib_generic
returns-in_err-sequence c =
    let why = c.in_err-sequence.ensures in
    let passed : c.from_residual.result ≡ Err c.in_err-sequence.field-0.0 = search rules in
    search flow depth 12

pub returns-in_err-family : goal.returns-in_err-family
unfolding rib_generic
returns-in_err-family c =
    let a = c.in_ok-sequence.ensures in
    let why = c.in_err-family.ensures in
    let passed : c.from_residual-in_err-family.result ≡ Err c.in_err-family.field-0.0 = search rules in
    search flow depth 12

pub returns-then-family-lt1 : goal.returns-then-family-lt1
unfolding rib_generic
returns-then-family-lt1 c =
    let a = c.in_ok-sequence.ensures in
    let b = c.in_ok-family.ensures in
    elim c.then-family-lt1.branch [ then-family-lt1-via-then-family-lt1 w ↦ search flow depth 12 | then-family-lt1-via-else-family-lt1+then-family-gt2 w ↦ search flow depth 12 ]

pub returns-in_err-safi : goal.returns-in_err-safi
unfolding rib_generic
returns-in_err-safi c =
    let a = c.in_ok-sequence.ensures in
    let b = c.in_ok-family.ensures in
    let why = c.in_err-safi.ensures in
    let passed : c.from_residual-in_err-safi.result ≡ Err c.in_err-safi.field-0.0 = search rules in
    search flow depth 12

pub returns-then-safi-lt1 : goal.returns-then-safi-lt1
unfolding rib_generic
returns-then-safi-lt1 c =
    let a = c.in_ok-sequence.ensures in
    let b = c.in_ok-family.ensures in
    let d = c.in_ok-safi.ensures in
    elim c.then-safi-lt1.branch [ then-safi-lt1-via-then-safi-lt1 w ↦ search flow depth 12 | then-safi-lt1-via-else-safi-lt1+then-safi-gt2 w ↦ search flow depth 12 ]

pub returns-then-family-le1 : goal.returns-then-family-le1
unfolding rib_generic
returns-then-family-le1 c =
    let a = c.in_ok-sequence.ensures in
    let b = c.in_ok-family.ensures in
    let d = c.in_ok-safi.ensures in
    search flow depth 12

pub returns : goal.returns
unfolding rib_generic
returns c =
    let a = c.in_ok-sequence.ensures in
    let b = c.in_ok-family.ensures in
    let d = c.in_ok-safi.ensures in
    search flow depth 12
