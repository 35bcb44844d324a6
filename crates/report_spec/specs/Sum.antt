-- A report's numbers, and their sums with those of another.
use Rattle.std.specs.Prelude.{◌≡◌, Bool, true, ◌&&◌, List, [], ◌∷◌, ℕ, ◌+◌, ◌^◌, ltb, length, drop, get_or, replicate}

-- a report that has counted nothing
abbrev pub empty : List ℕ
empty = replicate 39 0

-- one that has counted so many breaks and nothing else
abbrev pub breaks_alone : ℕ → List ℕ
breaks_alone k = 0 ∷ 0 ∷ k ∷ replicate 36 0

abbrev pub sums : List ℕ → List ℕ → List ℕ
sums [] ms = []
sums (n ∷ ns) [] = []
sums (n ∷ ns) (m ∷ ms) = (n + m) ∷ sums ns ms

-- each is a number of 64 bits
abbrev pub fit : List ℕ → Bool
fit [] = true
fit (n ∷ ns) = ltb n (2 ^ 64) && fit ns

abbrev pub sum_of : List ℕ → ℕ
sum_of [] = 0
sum_of (n ∷ ns) = n + sum_of ns

-- 39 numbers, of which the 36 cells sum to the state changes
abbrev pub Balanced : List ℕ → Type 0
Balanced report = (length report ≡ 39) × (sum_of (drop 3 report) ≡ get_or report 1 0)
