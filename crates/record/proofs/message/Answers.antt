-- `record::message` meets its contract: what stands behind the header and its microseconds.
use mathlib.Core.Path.{◌≡◌, ◌∙◌}
use Rattle.form_spec.specs.Pass.{whole}
use Rattle.page_spec.specs.Bgp4mp.{session, message}
use Rattle.record_spec.specs.Fields as show
use Rattle.record.proofs.Laws.{stamped}
use borrow.Author.Rules.{rules}
use Rattle.std.specs.Prelude.{Err}
use Rattle.record.proofs.message.Goals as goal
use Rattle.form_spec.specs.Refusal.{refused}

pub returns-in_err-h : goal.returns-in_err-h
returns-in_err-h c =
    let passed : c.from_residual.result ≡ Err c.in_err-h.field-0.0 = search rules in
    passed ∙ stamped c.args.m.now (λ h at. whole (show.message h) refused (session c.args.width (message c.args.longest)) c.args.m.now at) _ c.in_err-h.ensures

pub returns : goal.returns
returns c = c.bgp_message.ensures ∙ stamped c.args.m.now (λ h at. whole (show.message h) refused (session c.args.width (message c.args.longest)) c.args.m.now at) _ c.in_ok-h.ensures
