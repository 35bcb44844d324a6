-- Sums judged, and put over a report's numbers, one at a time.
use mathlib.Core.Path.{◌≡◌, refl, ap}
use mathlib.Core.Bool.{Bool, true, false, ◌&&◌, false≢true}
use mathlib.Core.List.{List, [], ◌∷◌, ◌++◌}
use Prim.Native.Nat.{ℕ, zero, suc, ◌+◌, ◌^◌, ◌<◌}
use native.Mathlib.Omega.{arith}
use native.Mathlib.Numerals.{add-one}
use lib.Dec.{ltb}
use lib.ListN.{length, take, drop, get_or, set}
use borrow.Author.Tests.{ltb-true}
use Rattle.report_spec.specs.Sum.{sums, fit}

-- both are true
both : (a b : Bool) → (a && b) ≡ true → (a ≡ true) × (b ≡ true)
both true b h = (refl, h)
both false b h = absurd (false≢true h)

-- the one at k, and those behind it
pub fit_from : (ns ms : List ℕ) (k : ℕ) → k < length ns → length ns ≡ length ms
    → fit (sums (drop k ns) (drop k ms)) ≡ (ltb (get_or ns k 0 + get_or ms k 0) (2 ^ 64) && fit (sums (drop (suc k) ns) (drop (suc k) ms)))
fit_from [] ms k h e = absurd (omega arith)
fit_from (n ∷ ns) [] k h e = absurd (omega arith)
fit_from (n ∷ ns) (m ∷ ms) zero h e = refl
fit_from (n ∷ ns) (m ∷ ms) (suc k) h e = fit_from ns ms k (omega arith) (omega arith)

-- where all fit, the one at k does
pub fit_at : (ns ms : List ℕ) (k : ℕ) → k < length ns → length ns ≡ length ms → fit (sums ns ms) ≡ true → get_or ns k 0 + get_or ms k 0 < 2 ^ 64
fit_at [] ms k h e f = absurd (omega arith)
fit_at (n ∷ ns) [] k h e f = absurd (omega arith)
fit_at (n ∷ ns) (m ∷ ms) zero h e f = ltb-true (n + m) (2 ^ 64) (both _ (fit (sums ns ms)) f).0
fit_at (n ∷ ns) (m ∷ ms) (suc k) h e f = fit_at ns ms k (omega arith) (omega arith) (both (ltb (n + m) (2 ^ 64)) _ f).1

-- the first k sums over ns
abbrev pub laid : (ns ms : List ℕ) (k : ℕ) → List ℕ
laid ns ms k = take k (sums ns ms) ++ drop k ns

-- the one at k is as it was
pub kept : (ns ms : List ℕ) (k : ℕ) → k < length ns → length ns ≡ length ms → get_or (laid ns ms k) k 0 ≡ get_or ns k 0
kept [] ms k h e = absurd (omega arith)
kept (n ∷ ns) [] k h e = absurd (omega arith)
kept (n ∷ ns) (m ∷ ms) zero h e = refl
kept (n ∷ ns) (m ∷ ms) (suc k) h e = kept ns ms k (omega arith) (omega arith)

pub laid-length : (ns ms : List ℕ) (k : ℕ) → length ns ≡ length ms → length (laid ns ms k) ≡ length ns
laid-length ns ms zero e = refl
laid-length [] ms (suc k) e = refl
laid-length (n ∷ ns) [] (suc k) e = absurd (omega arith)
laid-length (n ∷ ns) (m ∷ ms) (suc k) e = ap suc (laid-length ns ms k (omega arith))

-- one more
pub laid_more : (ns ms : List ℕ) (k : ℕ) → k < length ns → length ns ≡ length ms → set (laid ns ms k) k (get_or ns k 0 + get_or ms k 0) ≡ laid ns ms (suc k)
laid_more [] ms k h e = absurd (omega arith)
laid_more (n ∷ ns) [] k h e = absurd (omega arith)
laid_more (n ∷ ns) (m ∷ ms) zero h e = refl
laid_more (n ∷ ns) (m ∷ ms) (suc k) h e = ap (λ (r : List ℕ). (n + m) ∷ r) (laid_more ns ms k (omega arith) (omega arith))

-- where the report r holds the first k
pub turn : (ns ms r : List ℕ) (k : ℕ) → r ≡ laid ns ms k → k < length ns → length ns ≡ length ms → set r k (get_or r k 0 + get_or ms k 0) ≡ laid ns ms (k + 1)
turn ns ms r k i h e = rw (i, kept ns ms k h e, add-one k) (laid_more ns ms k h e)

-- all of them
pub laid_all : (ns ms : List ℕ) → length ns ≡ length ms → laid ns ms (length ns) ≡ sums ns ms
laid_all [] ms e = refl
laid_all (n ∷ ns) [] e = absurd (omega arith)
laid_all (n ∷ ns) (m ∷ ms) e = ap (λ (r : List ℕ). (n + m) ∷ r) (laid_all ns ms (omega arith))
