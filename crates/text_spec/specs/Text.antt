-- Text: scalar values, each spelled in the fewest octets that hold it (RFC 3629, section 3).
use Rattle.std.specs.Prelude.{◌≡◌, List, [], ◌∷◌, ◌++◌, cond, ◌⊎◌, ℕ, ◌+◌, ◌/◌, ◌%◌, ◌≤◌, leb}
use Rattle.form_spec.specs.Words.{◌$◌}

-- U+0000 to U+D7FF, U+E000 to U+10FFFF
abbrev pub Scalar : ℕ → Type 0
Scalar u = (u ≤ 55295) ⊎ ((57344 ≤ u) × (u ≤ 1114111))

-- an octet behind a sequence's first carries six bits of the value
abbrev pub tail : ℕ → ℕ
tail v = 128 + v % 64

-- a value of up to 7, 11, 16 or 21 bits
unfoldable pub spell : ℕ → List ℕ
spell u =
    cond (leb u 127) (u ∷ [])
    $ cond (leb u 2047) ((192 + u / 64) ∷ tail u ∷ [])
    $ cond (leb u 65535) ((224 + u / 4096) ∷ tail (u / 64) ∷ tail u ∷ [])
    $ (240 + u / 262144) ∷ tail (u / 4096) ∷ tail (u / 64) ∷ tail u ∷ []

-- values one after another
abbrev pub spells : List ℕ → List ℕ
spells [] = []
spells (u ∷ us) = spell u ++ spells us

abbrev pub Scalars : List ℕ → Type 0
Scalars [] = Unit
Scalars (u ∷ us) = Scalar u × Scalars us

-- the octets spell these values
pub record Spelled (bs us : List ℕ) : Type 0 where
  pub scalar : Scalars us
  pub octets : spells us ≡ bs

-- the octets are text
pub record Text (bs : List ℕ) : Type 0 where
  pub values : List ℕ
  pub spelled : Spelled bs values
