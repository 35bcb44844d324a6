-- `rib::rib_at` meets its contract: `read` is what the fields before have shown.
use Rattle.page_spec.specs.Rib.{rib}
use Rattle.octets_laws.proofs.Rules.{flow}
use mathlib.Core.Path.{◌≡◌}
use borrow.Author.Rules.{rules}
use Rattle.std.specs.Prelude.{Err}
use Rattle.rib.proofs.rib_at.Goals as goal

pub returns-in_err-sequence : goal.returns-in_err-sequence
unfolding rib
returns-in_err-sequence c =
    let why = c.in_err-sequence.ensures in
    let passed : c.from_residual.result ≡ Err c.in_err-sequence.field-0.0 = search rules in
    search flow depth 12

pub returns : goal.returns
unfolding rib
returns c =
    let a = c.in_ok-sequence.ensures in
    search flow depth 12
