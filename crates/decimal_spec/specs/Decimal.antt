-- A number as decimal text, in ASCII.
use Rattle.std.specs.Prelude.{List, [], ◌∷◌, ◌++◌, ℕ, zero, suc, ◌+◌, ◌/◌, ◌%◌, ◌≤◌}

-- the digit of d, which is below 10
abbrev pub digit : ℕ → ℕ
digit d = 48 + d

-- the digits in front of the last: of 0 none; n steps are enough for n
unfoldable pub leading : (steps n : ℕ) → List ℕ
leading zero n = []
leading (suc k) zero = []
leading (suc k) (suc n) = leading k (suc n / 10) ++ (digit (suc n % 10) ∷ [])

-- a number's digits, the most significant first, no zero in front
unfoldable pub decimal : ℕ → List ℕ
decimal n = leading (n / 10) (n / 10) ++ (digit (n % 10) ∷ [])

-- every octet is a digit
abbrev pub Digits : List ℕ → Type 0
Digits [] = Unit
Digits (d ∷ ds) = (48 ≤ d) × (d ≤ 57) × Digits ds
