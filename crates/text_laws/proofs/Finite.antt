-- A test that holds at each number below n, by computing it there.
use mathlib.Core.Path.{◌≡◌, sym, subst}
use mathlib.Core.Bool.{Bool, true, false}
use mathlib.Core.Logic.{⊎_elim}
use Prim.Native.Nat.{ℕ, zero, suc, ◌<◌}
use native.Mathlib.Nat.{not-suc-le-zero, le_of_suc-le-suc, eq-or-lt_of_le}

abbrev pub both : Bool → Bool → Bool
both true b = b
both false b = false

pub left : (a b : Bool) → both a b ≡ true → a ≡ true
left true b e = cc
left false b e = e

pub right : (a b : Bool) → both a b ≡ true → b ≡ true
right true b e = e
right false b e = cc

abbrev pub below : (ℕ → Bool) → ℕ → Bool
below f zero = true
below f (suc n) = both (f n) (below f n)

pub at : (f : ℕ → Bool) (n : ℕ) → below f n ≡ true → (k : ℕ) → k < n → f k ≡ true
at f zero e k h = absurd (not-suc-le-zero h)
at f (suc n) e k h =
    ⊎_elim (λ q. subst (λ (i : ℕ). f i ≡ true) (sym q) (left (f n) (below f n) e)) (λ l. at f n (right (f n) (below f n) e) k l) (eq-or-lt_of_le (le_of_suc-le-suc h))
