-- Digits laid over a buffer, one behind another.
use mathlib.Core.Path.{◌≡◌, ap, ◌∙◌}
use mathlib.Core.List.{List, [], ◌∷◌}
use Prim.Native.Nat.{ℕ, ◌+◌, ◌/◌, ◌%◌, ◌≤◌, ◌<◌}
use native.Mathlib.Omega.{arith}
use lib.ListN.{length, set, length-append}
use Rattle.octets_spec.specs.Over.{over}
use Rattle.octets_laws.proofs.Over.{over_over, over_one, length_over}
use Rattle.decimal_spec.specs.Decimal.{digit, decimal}
use Rattle.decimal_laws.proofs.Decimal.{decimal_small, decimal_step}

pub length_small : (n : ℕ) → n < 10 → length (decimal n) ≡ 1
length_small n h = ap length (decimal_small n h)

pub length-step : (n : ℕ) → 10 ≤ n → length (decimal n) ≡ length (decimal (n / 10)) + 1
length-step n h = ap length (decimal_step n h) ∙ length-append (decimal (n / 10)) (digit (n % 10) ∷ [])

-- a number of one digit
pub lays_small : (out : List ℕ) (at n : ℕ) → n < 10 → at < length out → set out at (digit n) ≡ over out at (decimal n)
lays_small out at n h b = rw (decimal_small n h) (over_one out at (digit n) b)

-- the last digit behind the others
pub lays_step : (out : List ℕ) (at n : ℕ) → 10 ≤ n → at + length (decimal n) ≤ length out
    → set (over out at (decimal (n / 10))) (at + length (decimal (n / 10))) (digit (n % 10)) ≡ over out at (decimal n)
lays_step out at n h b =
    let ds : List ℕ = decimal (n / 10) in
    let l : length (decimal n) ≡ length ds + 1 = length-step n h in
    let k : length (over out at ds) ≡ length out = length_over out at ds (omega arith) in
    over_one (over out at ds) (at + length ds) (digit (n % 10)) (omega arith) ∙ over_over out at ds (digit (n % 10) ∷ []) (omega arith) ∙ rw (decimal_step n h)
