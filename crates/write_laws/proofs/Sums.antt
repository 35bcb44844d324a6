-- Sums that stop at the largest number.
use mathlib.Core.Path.{◌≡◌, refl, sym, ◌∙◌}
use mathlib.Core.Bool.{Bool, true, false}
use Prim.Native.Nat.{ℕ, ◌+◌, ◌≤◌, ◌<◌, min}
use native.Mathlib.Omega.{arith}
use lib.Dec.{leb}
use borrow.Author.Tests.{leb-true, leb-false}
use Rattle.std.proofs.Math.Nat.{min-eq_left, min-eq_right}
use Rattle.write_spec.specs.Verdict.{capped}

-- a number is its cap, or both are past 32 bits
pub record Cap (n k : ℕ) : Type 0 where
  pub same : k < 18446744073709551615 → n ≡ k
  pub most : k ≤ n

pub cap : (n : ℕ) → Cap n (capped n)
cap n = go (leb n 18446744073709551615) refl
  where
    go : (t : Bool) → leb n 18446744073709551615 ≡ t → Cap n (min n 18446744073709551615)
    go true e = let m : min n 18446744073709551615 ≡ n = min-eq_left (leb-true n 18446744073709551615 e) in record { same = λ h. sym m; most = omega arith }
    go false e =
        let q = leb-false n 18446744073709551615 e in
        let m : min n 18446744073709551615 ≡ 18446744073709551615 = min-eq_right (omega arith) in
        record { same = λ h. omega arith; most = omega arith }

capped_more : (a b : ℕ) → capped (capped a + b) ≡ capped (a + b)
capped_more a b = go (leb a 18446744073709551615) refl
  where
    go : (t : Bool) → leb a 18446744073709551615 ≡ t → min (min a 18446744073709551615 + b) 18446744073709551615 ≡ min (a + b) 18446744073709551615
    go true e = let m : min a 18446744073709551615 ≡ a = min-eq_left (leb-true a 18446744073709551615 e) in rw m
    go false e =
        let q = leb-false a 18446744073709551615 e in
        let m : min a 18446744073709551615 ≡ 18446744073709551615 = min-eq_right (omega arith) in
        let l : min (18446744073709551615 + b) 18446744073709551615 ≡ 18446744073709551615 = min-eq_right (omega arith) in
        let r : min (a + b) 18446744073709551615 ≡ 18446744073709551615 = min-eq_right (omega arith) in
        rw m (l ∙ sym r)

-- sums one after another
pub summed : (a b r s : ℕ) → r ≡ capped a → s ≡ capped (r + b) → s ≡ capped (a + b)
summed a b r s e d = d ∙ rw e (capped_more a b)
