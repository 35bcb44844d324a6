-- Where a number lies: in a range, by the test of it; up to a bound, or above it.
use mathlib.Core.Path.{◌≡◌, refl}
use mathlib.Core.Bool.{Bool, true, false, cond}
use Prim.Native.Nat.{ℕ, ◌≤◌, ◌<◌}
use native.Mathlib.Omega.{arith}
use lib.Dec.{leb}
use borrow.Author.Tests.{le-leb, lt-leb, leb-true, leb-false}
use Rattle.form_spec.specs.Words.{in_range}

pub inside : (low x high : ℕ) → low ≤ x → x ≤ high → in_range low x high ≡ true
unfolding in_range
inside low x high p q = rw (le-leb low x p, le-leb x high q)

pub below : (low x high : ℕ) → x < low → in_range low x high ≡ false
unfolding in_range
below low x high p = rw (lt-leb low x p)

pub above : (low x high : ℕ) → high < x → in_range low x high ≡ false
unfolding in_range
above low x high p = rw (lt-leb x high p) (go (leb low x))
  where
    go : (b : Bool) → cond b false false ≡ false
    go true = refl
    go false = refl

-- and back
pub bounds : (low x high : ℕ) → in_range low x high ≡ true → (low ≤ x) × (x ≤ high)
unfolding in_range
bounds low x high e = go (leb low x) refl e
  where
    go : (t : Bool) → leb low x ≡ t → cond t (leb x high) false ≡ true → (low ≤ x) × (x ≤ high)
    go true p h = (leb-true low x p, leb-true x high h)
    go false p h = let z : ◌≡◌ {A = ℕ} 0 1 = cc in absurd (omega arith)

pub up_to : {P : Type 0} → (u b : ℕ) → (u ≤ b → P) → (b < u → P) → P
up_to {P} u b f g = go (leb u b) refl
  where
    go : (t : Bool) → leb u b ≡ t → P
    go true e = f (leb-true u b e)
    go false e = g (leb-false u b e)
