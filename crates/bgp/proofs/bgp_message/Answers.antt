-- `bgp::bgp_message` meets its contract: the BGP message from where the session ends; the names of its fields are none of the session's (`refl`).
use mathlib.Core.Path.{◌≡◌, refl, ◌∙◌}
use borrow.Author.Rules.{rules}
use Rattle.std.specs.Prelude.{Err}
use Rattle.form_spec.specs.Refusal.{refused}
use Rattle.record_spec.specs.Fields.{message_of}
use Rattle.bgp.proofs.Laws.{met_then}
use Rattle.bgp.proofs.bgp_message.Goals as goal

pub returns-in_err-s : goal.returns-in_err-s
returns-in_err-s c =
    let passed : c.from_residual.result ≡ Err c.in_err-s.field-0.0 = search rules in
    passed ∙ met_then (message_of _) refused _ _ _ _ (λ s n fs. refl) c.in_err-s.ensures

pub returns : goal.returns
returns c = c.message_at.ensures ∙ met_then (message_of _) refused _ _ _ _ (λ s n fs. refl) c.in_ok-s.ensures
