-- `rib::prefix_at` meets its contract: `read` is what the fields before have shown.
use Rattle.page_spec.specs.Rib.{prefix, entry_list}
use Rattle.octets_laws.proofs.Rules.{flow}
use mathlib.Core.Path.{◌≡◌}
use borrow.Author.Rules.{rules}
use Rattle.std.specs.Prelude.{Err}
use Rattle.rib.proofs.prefix_at.Goals as goal

pub returns-in_err-bits : goal.returns-in_err-bits
unfolding prefix entry_list
returns-in_err-bits c =
    let why = c.in_err-bits.ensures in
    let passed : c.from_residual.result ≡ Err c.in_err-bits.field-0.0 = search rules in
    search flow depth 12

pub returns-then-most-bits : goal.returns-then-most-bits
unfolding prefix entry_list
returns-then-most-bits c =
    let a = c.in_ok-bits.ensures in
    search flow depth 12

pub returns-in_err-d : goal.returns-in_err-d
unfolding prefix entry_list
returns-in_err-d c =
    let a = c.in_ok-bits.ensures in
    let why = c.in_err-d.ensures in
    let passed : c.from_residual-in_err-d.result ≡ Err c.in_err-d.field-0.0 = search rules in
    search flow depth 12

pub returns-in_err-count : goal.returns-in_err-count
unfolding prefix entry_list
returns-in_err-count c =
    let a = c.in_ok-bits.ensures in
    let b = c.in_ok-d.ensures in
    let why = c.in_err-count.ensures in
    let passed : c.from_residual-in_err-count.result ≡ Err c.in_err-count.field-0.0 = search rules in
    search flow depth 12

pub returns : goal.returns
unfolding prefix entry_list
returns c =
    let a = c.in_ok-bits.ensures in
    let b = c.in_ok-d.ensures in
    let d = c.in_ok-count.ensures in
    let h = rw (c.body.ensures, c.left.ensures) at c.entries_at.ensures in
    search flow depth 12
