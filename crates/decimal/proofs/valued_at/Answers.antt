-- `decimal::valued_at` meets its contract.
use mathlib.Core.Path.{◌∙◌}
use native.Mathlib.Omega.{arith}
use Rattle.decimal.proofs.Valued.{done, turn, too_large}
use Rattle.decimal.proofs.valued_at.Goals as goal

pub returns-in_err-checked_mul : goal.returns-in_err-checked_mul
returns-in_err-checked_mul c = c.from_residual.ensures ∙ too_large _ _ _ _ _ c.loop-digit.invariant _ c.in-Some.ensures.2 (omega (arith, c.in_err-checked_mul.ensures))

pub returns-in_err-value : goal.returns-in_err-value
returns-in_err-value c = c.from_residual-in_err-value.ensures ∙ too_large _ _ _ _ _ c.loop-digit.invariant _ c.in-Some.ensures.2 (omega (arith, c.in_ok-checked_mul.ensures, c.in_err-value.ensures))

pub returns-then-most-value : goal.returns-then-most-value
returns-then-most-value c = too_large _ _ _ _ _ c.loop-digit.invariant _ c.in-Some.ensures.2 (omega (arith, c.in_ok-checked_mul.ensures, c.in_ok-value.ensures))

pub loop-digit-preserved : goal.loop-digit-preserved
loop-digit-preserved c = turn _ _ _ _ _ c.loop-digit.invariant _ c.in-Some.ensures.2 _ (omega (arith, c.in_ok-checked_mul.ensures, c.in_ok-value.ensures)) (omega arith)

pub returns : goal.returns
returns c = done _ _ _ _ _ c.loop-digit.invariant c.in_default.ensures
