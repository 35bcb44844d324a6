-- Reading a decimal number: only the text that `decimal` gives is one.
use Rattle.std.specs.Prelude.{Bool, true, false, cond, Option, Some, None, List, [], ◌∷◌, ℕ, ◌+◌, ◌-◌, ◌*◌, ltb, leb, length, drop}
use Rattle.form_spec.specs.Words.{choose, in_range}

abbrev pub is_digit : ℕ → Bool
is_digit x = in_range 48 x 57

-- the digits at the front of octets
unfoldable pub run : List ℕ → List ℕ
run [] = []
run (x ∷ xs) = cond (is_digit x) (x ∷ run xs) []

-- the number that digits spell, behind digits that spell v
unfoldable pub value_from : (v : ℕ) → List ℕ → ℕ
value_from v [] = v
value_from v (d ∷ ds) = value_from (v * 10 + (d - 48)) ds

abbrev pub value : List ℕ → ℕ
value ds = value_from 0 ds

-- at least one digit, and no zero in front of others
unfoldable pub canonical : List ℕ → Bool
canonical [] = false
canonical (d ∷ []) = true
canonical (d ∷ e ∷ ds) = ltb 48 d

-- the number that the digits ds at offset at are, if it is at most `most`, and the offset behind them
unfoldable pub valued : (most at : ℕ) (ds : List ℕ) → Option (ℕ × ℕ)
valued most at ds = choose (leb (value ds) most) (Some (value ds, at + length ds)) None

-- the number at offset at of s, and the offset behind it
unfoldable pub decimal_at : (most : ℕ) (s : List ℕ) (at : ℕ) → Option (ℕ × ℕ)
decimal_at most s at = let ds = run (drop at s) in choose (canonical ds) (valued most at ds) None
