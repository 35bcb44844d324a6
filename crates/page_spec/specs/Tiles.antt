-- Path attributes that tile their octets (document 01, "Record layouts").
use Rattle.std.specs.Prelude.{ℕ, zero, suc, ◌+◌, ◌*◌, ◌/◌, ◌%◌, List, [], ◌∷◌, Bool, true, false, cond, eqb}

-- the flag of value 16 is set: the attribute's length has 2 octets
unfoldable pub wide : ℕ → Bool
wide flags = eqb (flags / 16 % 2) 1

-- n more octets belong to the attribute at hand; behind them attributes tile the rest
unfoldable pub tiles : List ℕ → ℕ → Bool
tiles [] zero = true
tiles [] (suc n) = false
tiles (x ∷ rest) (suc n) = tiles rest n
tiles (f ∷ []) zero = false
tiles (f ∷ c ∷ []) zero = false
tiles (f ∷ c ∷ l ∷ []) zero = let one = tiles [] l in cond (wide f) false one
tiles (f ∷ c ∷ l ∷ k ∷ rest) zero = let two = tiles rest (l * 256 + k) in let one = tiles (k ∷ rest) l in cond (wide f) two one
