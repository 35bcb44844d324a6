-- `bgp::state_change` meets its contract: the states from where the session ends; the names of their fields are none of the session's (`refl`).
use mathlib.Core.Path.{◌≡◌, refl, ◌∙◌}
use borrow.Author.Rules.{rules}
use Rattle.std.specs.Prelude.{Err}
use Rattle.form_spec.specs.Refusal.{refused}
use Rattle.record_spec.specs.Fields.{change_of}
use Rattle.bgp.proofs.Laws.{met_then}
use Rattle.bgp.proofs.state_change.Goals as goal

pub returns-in_err-s : goal.returns-in_err-s
returns-in_err-s c =
    let passed : c.from_residual.result ≡ Err c.in_err-s.field-0.0 = search rules in
    passed ∙ met_then (change_of _) refused _ _ _ _ (λ s n fs. refl) c.in_err-s.ensures

pub returns : goal.returns
returns c = c.states.ensures ∙ met_then (change_of _) refused _ _ _ _ (λ s n fs. refl) c.in_ok-s.ensures
