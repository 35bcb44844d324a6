-- `record::change` meets its contract: what stands behind the header and its microseconds.
use mathlib.Core.Path.{◌≡◌, ◌∙◌}
use Rattle.form_spec.specs.Pass.{whole}
use Rattle.page_spec.specs.Bgp4mp.{session, state_change}
use Rattle.record_spec.specs.Fields as show
use Rattle.record.proofs.Laws.{stamped}
use borrow.Author.Rules.{rules}
use Rattle.std.specs.Prelude.{Err}
use Rattle.record.proofs.change.Goals as goal
use Rattle.form_spec.specs.Refusal.{refused}

pub returns-in_err-h : goal.returns-in_err-h
returns-in_err-h c =
    let passed : c.from_residual.result ≡ Err c.in_err-h.field-0.0 = search rules in
    passed ∙ stamped c.args.m.now (λ h at. whole (show.change h) refused (session c.args.width state_change) c.args.m.now at) _ c.in_err-h.ensures

pub returns : goal.returns
returns c = c.state_change.ensures ∙ stamped c.args.m.now (λ h at. whole (show.change h) refused (session c.args.width state_change) c.args.m.now at) _ c.in_ok-h.ensures
