-- `decimal::decimal_at` meets its contract: by the first digit, and behind a zero the second.
use mathlib.Core.Path.{◌∙◌}
use native.Mathlib.Omega.{arith}
use Rattle.decimal.proofs.Valued.{number_none, number_leads, number_alone, number_zeros}
use Rattle.decimal.proofs.decimal_at.Goals.{else-branch-eq0-via-then-branch-eq0+else-is_some, else-branch-eq0-via-else-branch-eq0}
use Rattle.decimal.proofs.decimal_at.Goals as goal

pub returns-in_err-digit_at : goal.returns-in_err-digit_at
returns-in_err-digit_at c = c.from_residual.ensures ∙ number_none _ _ _ c.in_err-digit_at.ensures

pub returns-then-is_some : goal.returns-then-is_some
returns-then-is_some c =
    number_zeros _ _ _ _ c.in_ok-digit_at.ensures.2 _ c.digit_at-then-branch-eq0.ensures c.if-is_some.ensures c.if-branch-eq0.true

pub returns : goal.returns
returns c =
    let first = c.in_ok-digit_at.ensures.2 in
    c.valued_at.ensures
    ∙ elim c.else-branch-eq0.branch [
      | else-branch-eq0-via-then-branch-eq0+else-is_some w ↦ number_alone _ _ _ _ first _ w.digit_at-then-branch-eq0.ensures w.if-is_some.ensures
      | else-branch-eq0-via-else-branch-eq0 w ↦ number_leads _ _ _ _ _ first (omega (arith, w.if-branch-eq0.false))
    ]
