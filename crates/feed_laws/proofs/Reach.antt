-- How far the record at hand has come, and what is taken of the chunk then.
use mathlib.Core.Path.{◌≡◌, refl}
use mathlib.Core.Bool.{Bool, true, false, ◌||◌}
use mathlib.Core.List.{List}
use Prim.Native.Nat.{ℕ, ◌+◌, ◌^◌, ◌≤◌, ◌<◌}
use native.Mathlib.Omega.{arith}
use lib.Dec.{ltb, leb}
use lib.ListN.{length}
use borrow.Author.Tests.{ltb-true, ltb-false, leb-false, le-ltb, lt-leb}
use Rattle.form_spec.specs.Words.{choose}
use Rattle.feed_spec.specs.declared.Reach.{Reach}
use Rattle.feed_spec.specs.declared.Reach.TheVariants.{Short, Large, Whole}
use Rattle.feed_spec.specs.Feed.{size_of, too_large, reach}

-- what each answer says, in a room that has place for a header
pub record IsShort (room s : List ℕ) : Type 0 where
  pub missing : length s < size_of s
  pub fits : length s ≤ length room

pub record IsLarge (at : ℕ) (room s : List ℕ) : Type 0 where
  pub header : 12 ≤ length s
  pub large : too_large at room (size_of s) ≡ true

pub record IsWhole (at : ℕ) (room s : List ℕ) (size : ℕ) : Type 0 where
  pub own : size ≡ size_of s
  pub there : size_of s ≤ length s
  pub fits : size_of s ≤ length room
  pub total : at + size_of s < 2 ^ 64

abbrev pub Reached : (at : ℕ) (room s : List ℕ) → Reach → Type 0
Reached at room s Short = IsShort room s
Reached at room s Large = IsLarge at room s
Reached at room s (Whole size) = IsWhole at room s size

module _ (at : ℕ) (room : List ℕ) (size : ℕ) where
  pub goes_in : too_large at room size ≡ false → (size ≤ length room) × (at + size < 2 ^ 64)
  unfolding too_large
  goes_in e = go (ltb (length room) size) refl e
    where
      go : (b : Bool) → ltb (length room) size ≡ b → (b || leb (2 ^ 64) (at + size)) ≡ false → (size ≤ length room) × (at + size < 2 ^ 64)
      go true r f = let z : ◌≡◌ {A = ℕ} 0 1 = cc in absurd (omega arith)
      go false r f = (ltb-false (length room) size r, leb-false (2 ^ 64) (at + size) f)

  pub not_large : size ≤ length room → at + size < 2 ^ 64 → too_large at room size ≡ false
  unfolding too_large
  not_large h l = rw (le-ltb (length room) size h, lt-leb (2 ^ 64) (at + size) l)

pub reach_large : (at : ℕ) (room s : List ℕ) → 12 ≤ length s → too_large at room (size_of s) ≡ true → reach at room s ≡ Large
unfolding reach choose
reach_large at room s h l = rw (le-ltb (length s) 12 h, l) refl

module _ (at : ℕ) (room s : List ℕ) (header : 12 ≤ length room) where
  pub reached : Reached at room s (reach at room s)
  unfolding reach choose
  reached = first (ltb (length s) 12) refl
    where
      all : (b : Bool) → ltb (length s) (size_of s) ≡ b → 12 ≤ length s → (size_of s ≤ length room) × (at + size_of s < 2 ^ 64) → Reached at room s (choose b Short (Whole (size_of s)))
      all true e h l = let m = ltb-true (length s) (size_of s) e in record { missing = m; fits = omega (arith, l.0) }
      all false e h l = record { own = refl; there = ltb-false (length s) (size_of s) e; fits = l.0; total = l.1 }

      large : (b : Bool) → too_large at room (size_of s) ≡ b → 12 ≤ length s → Reached at room s (choose b Large (choose (ltb (length s) (size_of s)) Short (Whole (size_of s))))
      large true e h = record { header = h; large = e }
      large false e h = all (ltb (length s) (size_of s)) refl h (goes_in at room (size_of s) e)

      first : (b : Bool) → ltb (length s) 12 ≡ b → Reached at room s (choose b Short (choose (too_large at room (size_of s)) Large (choose (ltb (length s) (size_of s)) Short (Whole (size_of s)))))
      first true e = let m = ltb-true (length s) 12 e in record { missing = omega arith; fits = omega arith }
      first false e = large (too_large at room (size_of s)) refl (ltb-false (length s) 12 e)
