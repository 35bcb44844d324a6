-- `record::unread` meets its contract: what stands behind the header and its microseconds.
use mathlib.Core.Path.{◌≡◌, ◌∙◌}
use Rattle.record_spec.specs.Fields as show
use Rattle.record_spec.specs.Shown.{Good}
use Rattle.record_spec.specs.declared.Body.TheVariants.{Unread}
use Rattle.record.proofs.Laws.{stamped}
use borrow.Author.Rules.{rules}
use Rattle.std.specs.Prelude.{Err}
use Rattle.record.proofs.unread.Goals as goal

pub returns-in_err-h : goal.returns-in_err-h
returns-in_err-h c =
    let passed : c.from_residual.result ≡ Err c.in_err-h.field-0.0 = search rules in
    passed ∙ stamped c.args.m.now (λ h at. Good h (Unread (show.rest_from c.args.m.now at))) _ c.in_err-h.ensures

pub returns : goal.returns
returns c = rw c.left.ensures (stamped c.args.m.now (λ h at. Good h (Unread (show.rest_from c.args.m.now at))) _ c.in_ok-h.ensures)
