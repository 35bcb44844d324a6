-- `write_bgp::addresses_refusal` meets its contract: each value in its turn.
use mathlib.Core.Path.{◌≡◌, ap}
use borrow.Author.Rules.{rules}
use Rattle.std.specs.Prelude.{Err}
use Rattle.write_spec.specs.Judged.{unplaced}
use Rattle.page_spec.specs.Bgp4mp.{addresses}
use Rattle.write_laws.proofs.Judged.{judge_flow}
use Rattle.write_bgp.proofs.addresses_refusal.Goals as goal

pub returns-in_err-sized : goal.returns-in_err-sized
unfolding addresses
returns-in_err-sized c =
    let why = c.in_err-sized.ensures in
    let passed : c.from_residual.result ≡ Err c.in_err-sized.field-0.0 = search rules in
    let y = ap unplaced passed in
    search judge_flow depth 12

pub returns : goal.returns
unfolding addresses
returns c =
    let a = c.in_ok-sized.ensures in
    search judge_flow depth 12
