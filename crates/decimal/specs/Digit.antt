-- A digit at a place, for the loop that reads a number.
use Rattle.std.specs.Prelude.{◌≡◌, List, [], ◌∷◌, ℕ, ◌+◌, ◌<◌, length, drop, Option, MatchOption}
use Rattle.decimal_spec.specs.Decimal.{digit}
use Rattle.decimal_spec.specs.Reading.{run}

-- r is the digit at offset at of s, if one is there
abbrev pub DigitAt : (s : List ℕ) (at : ℕ) (r : Option ℕ) → Type 0
DigitAt s at r = MatchOption r (run (drop at s) ≡ []) (λ d. (d < 10) × (at < length s) × (run (drop at s) ≡ digit d ∷ run (drop (at + 1) s)))
