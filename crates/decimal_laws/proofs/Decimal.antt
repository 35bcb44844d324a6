-- Laws of decimal text: a digit at a time, and how many digits there are.
use mathlib.Core.Path.{◌≡◌, refl, ap}
use mathlib.Core.Bool.{Bool, true, false}
use mathlib.Core.List.{List, [], ◌∷◌, ◌++◌}
use Prim.Native.Nat.{ℕ, zero, suc, ◌/◌, ◌%◌, ◌^◌, ◌≤◌, ◌<◌}
use native.Mathlib.Omega.{arith}
use lib.Dec.{ltb}
use lib.ListN.{length, length-append}
use borrow.Author.Tests.{ltb-true, ltb-false}
use Rattle.decimal_spec.specs.Decimal.{digit, leading, decimal}

-- ---- a digit at a time

-- more steps than needed change nothing
enough : (j k n : ℕ) → n ≤ j → n ≤ k → leading j n ≡ leading k n
unfolding leading
enough zero zero n p q = refl
enough zero (suc k) zero p q = refl
enough zero (suc k) (suc n) p q = absurd (omega arith)
enough (suc j) zero zero p q = refl
enough (suc j) zero (suc n) p q = absurd (omega arith)
enough (suc j) (suc k) zero p q = refl
enough (suc j) (suc k) (suc n) p q = rw (enough j k (suc n / 10) (omega arith) (omega arith))

pub decimal_small : (n : ℕ) → n < 10 → decimal n ≡ digit n ∷ []
unfolding decimal leading
decimal_small n h =
    let q : n / 10 ≡ 0 = omega arith in
    let r : n % 10 ≡ n = omega arith in
    rw (q, r)

-- the digits in front of a number's last are those of its tenth
front : (m : ℕ) → 0 < m → leading m m ≡ decimal m
unfolding decimal leading
front zero h = absurd (omega arith)
front (suc m) h = rw (enough m (suc m / 10) (suc m / 10) (omega arith) (omega arith))

pub decimal_step : (n : ℕ) → 10 ≤ n → decimal n ≡ decimal (n / 10) ++ (digit (n % 10) ∷ [])
unfolding decimal
decimal_step n h = ap (λ (ds : List ℕ). ds ++ (digit (n % 10) ∷ [])) (front (n / 10) (omega arith))

-- what holds of one digit, and of a number where it holds of its tenth, holds of every number
pub by_digits : (P : ℕ → Type 0) → ((n : ℕ) → n < 10 → P n) → ((n : ℕ) → 10 ≤ n → P (n / 10) → P n) → (n : ℕ) → P n
by_digits P small step n = go (suc n) n (omega arith)
  where
    pick : (n : ℕ) (b : Bool) → ltb n 10 ≡ b → (10 ≤ n → P (n / 10)) → P n
    pick n true e h = small n (ltb-true n 10 e)
    pick n false e h = let q : 10 ≤ n = ltb-false n 10 e in step n q (h q)

    go : (k n : ℕ) → n < k → P n
    go zero n h = absurd (omega arith)
    go (suc k) n h = pick n (ltb n 10) refl (λ q. go k (n / 10) (omega arith))

-- ---- how many there are

-- a number below a power of ten has at most as many digits
pub decimal-length : (k n : ℕ) → n < 10 ^ k → 0 < k → length (decimal n) ≤ k
decimal-length k n = by_digits (λ (m : ℕ). (k : ℕ) → m < 10 ^ k → 0 < k → length (decimal m) ≤ k) small step n k
  where
    small : (n : ℕ) → n < 10 → (k : ℕ) → n < 10 ^ k → 0 < k → length (decimal n) ≤ k
    small n q k h p = rw (decimal_small n q) (omega arith)

    step : (n : ℕ) → 10 ≤ n → ((k : ℕ) → n / 10 < 10 ^ k → 0 < k → length (decimal (n / 10)) ≤ k) → (k : ℕ) → n < 10 ^ k → 0 < k → length (decimal n) ≤ k
    step n q f zero h p = absurd (omega arith)
    step n q f (suc zero) h p = absurd (omega arith)
    step n q f (suc (suc k)) h p =
        let l : length (decimal (n / 10)) ≤ suc k = f (suc k) (omega arith) (omega arith) in
        rw (decimal_step n q, length-append) (omega arith)

pub decimal_some : (n : ℕ) → 0 < length (decimal n)
decimal_some = by_digits (λ (n : ℕ). 0 < length (decimal n)) (λ n h. rw (decimal_small n h) (omega arith)) (λ n h l. rw (decimal_step n h, length-append) (omega arith))
