-- `decimal::digit_at` meets its contract.
use native.Mathlib.Omega.{arith}
use Rattle.decimal_laws.proofs.Reading.{no_digit_below, no_digit_above}
use Rattle.decimal.proofs.Valued.{past_end, no_digit, a_digit}
use Rattle.decimal.proofs.digit_at.Goals as goal

pub returns-in_err-x : goal.returns-in_err-x
returns-in_err-x c = past_end _ _ _ c.in_err-x.ensures.lookup.3 c.from_residual.ensures

pub returns-in-48-to-57 : goal.returns-in-48-to-57
returns-in-48-to-57 c =
    let there = c.in_ok-x.ensures.lookup.3 in
    a_digit _ _ _ there.0 (omega (arith, there.1 0)) (omega arith)

pub returns-in_default : goal.returns-in_default
returns-in_default c =
    let there = c.in_ok-x.ensures.lookup.3 in
    no_digit _ _ there.0 (no_digit_below _ (omega (arith, there.1 0)))

pub returns-in_default-2 : goal.returns-in_default-2
returns-in_default-2 c =
    let there = c.in_ok-x.ensures.lookup.3 in
    no_digit _ _ there.0 (no_digit_above _ (omega (arith, there.1 0)))
