-- Lists of numbers added number by number, and their sums.
use mathlib.Core.Path.{◌≡◌, refl, ap}
use mathlib.Core.Bool.{Bool, true, false, ◌&&◌, false≢true}
use mathlib.Core.List.{List, [], ◌∷◌, ◌++◌, map}
use Prim.Native.Nat.{ℕ, zero, suc, ◌+◌, ◌^◌, ◌<◌}
use native.Mathlib.Omega.{arith}
use lib.Dec.{ltb}
use lib.ListN.{length, drop, get_or, replicate}
use borrow.Author.Tests.{ltb-true, lt-ltb}
use Rattle.report_spec.specs.Own.{joined}
use Rattle.report_spec.specs.Sum.{sums, fit, sum_of}

pub sum-append : (ns ms : List ℕ) → sum_of (ns ++ ms) ≡ sum_of ns + sum_of ms
sum-append [] ms = omega arith
sum-append (n ∷ ns) ms = omega (arith, sum-append ns ms)

pub sum-joined : (rows : List (List ℕ)) → sum_of (joined rows) ≡ sum_of (map sum_of rows)
sum-joined [] = refl
sum-joined (r ∷ rows) = omega (arith, sum-append r (joined rows), sum-joined rows)

pub sums_none : (ns : List ℕ) → sums ns [] ≡ []
sums_none [] = refl
sums_none (n ∷ ns) = refl

pub sums-zero : (ns : List ℕ) (k : ℕ) → length ns ≡ k → sums ns (replicate k 0) ≡ ns
sums-zero [] k e = refl
sums-zero (n ∷ ns) zero e = absurd (omega arith)
sums-zero (n ∷ ns) (suc k) e = let z : n + 0 ≡ n = omega arith in rw (z, sums-zero ns k (omega arith))

pub sums_swap : (ns ms : List ℕ) → sums ns ms ≡ sums ms ns
sums_swap [] [] = refl
sums_swap [] (m ∷ ms) = refl
sums_swap (n ∷ ns) [] = refl
sums_swap (n ∷ ns) (m ∷ ms) = let e : n + m ≡ m + n = omega arith in rw (e, sums_swap ns ms)

pub sums_both : (ns ms ks : List ℕ) → sums (sums ns ms) ks ≡ sums ns (sums ms ks)
sums_both [] ms ks = refl
sums_both (n ∷ ns) [] ks = refl
sums_both (n ∷ ns) (m ∷ ms) [] = refl
sums_both (n ∷ ns) (m ∷ ms) (k ∷ ks) = let e : n + m + k ≡ n + (m + k) = omega arith in rw (e, sums_both ns ms ks)

pub length-sums : (ns ms : List ℕ) → length ns ≡ length ms → length (sums ns ms) ≡ length ns
length-sums [] ms e = refl
length-sums (n ∷ ns) [] e = absurd (omega arith)
length-sums (n ∷ ns) (m ∷ ms) e = ap suc (length-sums ns ms (omega arith))

pub drop-sums : (k : ℕ) (ns ms : List ℕ) → drop k (sums ns ms) ≡ sums (drop k ns) (drop k ms)
drop-sums zero ns ms = refl
drop-sums (suc k) [] ms = refl
drop-sums (suc k) (n ∷ ns) [] = rw sums_none
drop-sums (suc k) (n ∷ ns) (m ∷ ms) = drop-sums k ns ms

pub at_sums : (k : ℕ) (ns ms : List ℕ) → length ns ≡ length ms → get_or (sums ns ms) k 0 ≡ get_or ns k 0 + get_or ms k 0
at_sums k [] [] e = refl
at_sums k [] (m ∷ ms) e = absurd (omega arith)
at_sums k (n ∷ ns) [] e = absurd (omega arith)
at_sums zero (n ∷ ns) (m ∷ ms) e = refl
at_sums (suc k) (n ∷ ns) (m ∷ ms) e = at_sums k ns ms (omega arith)

pub sum-sums : (ns ms : List ℕ) → length ns ≡ length ms → sum_of (sums ns ms) ≡ sum_of ns + sum_of ms
sum-sums [] [] e = refl
sum-sums [] (m ∷ ms) e = absurd (omega arith)
sum-sums (n ∷ ns) [] e = absurd (omega arith)
sum-sums (n ∷ ns) (m ∷ ms) e = omega (arith, sum-sums ns ms (omega arith))

-- ---- numbers of 64 bits

both_true : (a b : Bool) → (a && b) ≡ true → (a ≡ true) × (b ≡ true)
both_true true b e = (refl, e)
both_true false b e = absurd (false≢true e)

-- what is added takes nothing away
pub fit_less : (ns ms : List ℕ) → length ns ≡ length ms → fit (sums ns ms) ≡ true → fit ns ≡ true
fit_less [] ms e h = refl
fit_less (n ∷ ns) [] e h = absurd (omega arith)
fit_less (n ∷ ns) (m ∷ ms) e h =
    let a = both_true (ltb (n + m) (2 ^ 64)) (fit (sums ns ms)) h in
    let b : n + m < 2 ^ 64 = ltb-true (n + m) (2 ^ 64) a.0 in
    rw (lt-ltb n (2 ^ 64) (omega arith)) (fit_less ns ms (omega arith) a.1)
