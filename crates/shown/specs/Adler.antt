-- RFC 1950's Adler-32: two sums, each by what is left of it modulo 65521.
use Rattle.std.specs.Prelude.{ℕ, ◌+◌, ◌*◌, ◌%◌, List, [], ◌∷◌, sum}

-- the sum of what the first sum is behind each octet, where it is `low` before them
abbrev pub high_sum : (low : ℕ) → List ℕ → ℕ
high_sum low [] = 0
high_sum low (x ∷ xs) = low + x + high_sum (low + x) xs

abbrev pub adler32 : List ℕ → ℕ
adler32 xs = 65536 * (high_sum 1 xs % 65521) + (1 + sum xs) % 65521
