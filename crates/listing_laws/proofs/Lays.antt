-- Texts laid one behind another, and how long they are at most.
use mathlib.Core.Path.{◌≡◌, refl, ◌∙◌}
use mathlib.Core.List.{List, [], ◌∷◌, ◌++◌}
use Prim.Native.Nat.{ℕ, ◌+◌, ◌^◌, ◌≤◌, ◌<◌}
use native.Mathlib.Omega.{arith}
use lib.ListN.{length, drop, set, length-append}
use Rattle.octets_spec.specs.Over.{over}
use Rattle.octets_laws.proofs.Over.{more, over_one}
use Rattle.decimal_spec.specs.Decimal.{decimal}
use Rattle.decimal_laws.proofs.Decimal.{decimal-length}
use Rattle.listing_spec.specs.Lays.{Lays}

module _ {out : List ℕ} {at : ℕ} {s t : List ℕ} {m n : ℕ} {l k : List ℕ} where
  -- t behind s
  pub both : Lays out at s m l → Lays l m t n k → at + (length s + length t) ≤ length out → Lays out at (s ++ t) n k
  both x y h = record { ends = rw length-append (omega arith); holds = more out s t l k at m x.holds y.holds x.ends h }

-- one octet stored
pub one : (out : List ℕ) (at x : ℕ) → at < length out → Lays out at (x ∷ []) (at + 1) (set out at x)
one out at x h = record { ends = refl; holds = over_one out at x h }

-- a text at the buffer's start
pub front : {out s t : List ℕ} {n : ℕ} {l : List ℕ} → t ≡ s → Lays out 0 s n l → (n ≡ length t) × (l ≡ t ++ drop (length t) out)
unfolding over
front {out} {s} e x = let z : 0 + length s ≡ length s = omega arith in rw e (omega arith, x.holds ∙ rw z)

-- digits of numbers of 8, 16, 32 and 64 bits
pub short : (n : ℕ) → n < 2 ^ 8 → length (decimal n) ≤ 3
short n h = decimal-length 3 n (omega arith) (omega arith)

pub half : (n : ℕ) → n < 2 ^ 16 → length (decimal n) ≤ 5
half n h = decimal-length 5 n (omega arith) (omega arith)

pub whole : (n : ℕ) → n < 2 ^ 32 → length (decimal n) ≤ 10
whole n h = decimal-length 10 n (omega arith) (omega arith)

pub double : (n : ℕ) → n < 2 ^ 64 → length (decimal n) ≤ 20
double n h = decimal-length 20 n (omega arith) (omega arith)
