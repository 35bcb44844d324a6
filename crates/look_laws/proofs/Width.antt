-- How wide an AS number is in types 16 and 17, and the number in the first of 4 octets.
use mathlib.Core.Path.{◌≡◌}
use mathlib.Core.Bool.{Bool, true, false, cond, ◌||◌}
use mathlib.Core.Logic.{⊎_elim}
use mathlib.Core.List.{List}
use Prim.Native.Nat.{ℕ, ◌+◌, ◌/◌, ◌≤◌, ◌<◌}
use native.Mathlib.Omega.{arith}
use native.Mathlib.Nat.{eq-or-lt_of_le}
use lib.Dec.{eqb}
use lib.ListN.{length, get_or}
use borrow.Author.Tests.{ne_eqb}
use Rattle.form_spec.specs.Words.{choose}
use Rattle.octets_spec.specs.Be.{num_at}
use Rattle.octets_laws.proofs.Be.{num_at_more}
use Rattle.look_spec.specs.Field.{width_of}

pub width_seven : (u : ℕ) → u ≡ 7 → 4 ≡ width_of u
unfolding width_of choose
width_seven u e = rw e

pub width_four : (u : ℕ) → 4 ≤ u → u ≤ 5 → 4 ≡ width_of u
unfolding width_of choose
width_four u h g = ⊎_elim (λ (w : 4 ≡ u). rw (← w)) (λ (w : 4 < u). let z : u ≡ 5 = omega arith in rw z) (eq-or-lt_of_le h)

pub width_other : (u : ℕ) → (u ≡ 4 → ⊥) → (u ≡ 5 → ⊥) → (u ≡ 7 → ⊥) → 2 ≡ width_of u
unfolding width_of choose
width_other u a b c = rw (ne_eqb u 4 a, ne_eqb u 5 b, ne_eqb u 7 c)

half : (m : List ℕ) (at : ℕ) → ((k : ℕ) → get_or m k 0 < 256) → at + 4 ≤ length m → num_at m at 4 / 65536 ≡ num_at m at 2
half m at o h =
    let a = num_at_more m at 2 (omega arith) in
    let b = num_at_more m at 3 (omega arith) in
    let c = o (at + 2) in
    let d = o (at + 3) in
    omega arith

-- the octets behind it are divided away
pub first_number : (m : List ℕ) (at u : ℕ) → ((k : ℕ) → get_or m k 0 < 256) → at + 4 ≤ length m → num_at m at 4 / cond (eqb (width_of u) 4) 1 65536 ≡ num_at m at (width_of u)
unfolding width_of choose
first_number m at u o h = go (eqb u 4 || eqb u 5 || eqb u 7)
  where
    go : (b : Bool) → num_at m at 4 / cond (eqb (choose b 4 2) 4) 1 65536 ≡ num_at m at (choose b 4 2)
    go true = omega arith
    go false = half m at o h
