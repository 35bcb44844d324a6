-- Text as a grammar of octets (RFC 3629, section 4): a row for each form of a sequence, a range for each of its octets.
use Rattle.std.specs.Prelude.{◌≡◌, List, [], ◌∷◌, ◌⊎◌, ℕ, ◌≤◌}
use Rattle.form_spec.specs.Fmt.{join}

pub record Range : Type 0 where
  pub low : ℕ
  pub high : ℕ

abbrev pub to : ℕ → ℕ → Range
to l h = record { low = l; high = h }

abbrev pub tails : Range
tails = to 128 191

abbrev pub forms : List (List Range)
forms =
    (to 0 127 ∷ [])
    ∷ (to 194 223 ∷ tails ∷ [])
    ∷ (to 224 224 ∷ to 160 191 ∷ tails ∷ [])
    ∷ (to 225 236 ∷ tails ∷ tails ∷ [])
    ∷ (to 237 237 ∷ to 128 159 ∷ tails ∷ [])
    ∷ (to 238 239 ∷ tails ∷ tails ∷ [])
    ∷ (to 240 240 ∷ to 144 191 ∷ tails ∷ tails ∷ [])
    ∷ (to 241 243 ∷ tails ∷ tails ∷ tails ∷ [])
    ∷ (to 244 244 ∷ to 128 143 ∷ tails ∷ tails ∷ [])
    ∷ []

-- each octet lies in its range
abbrev pub Row : List Range → List ℕ → Type 0
Row [] [] = Unit
Row [] (x ∷ xs) = ⊥
Row (r ∷ rs) [] = ⊥
Row (r ∷ rs) (x ∷ xs) = (r.low ≤ x) × (x ≤ r.high) × Row rs xs

-- the octets have one of these forms
abbrev pub OneOf : List (List Range) → List ℕ → Type 0
OneOf [] c = ⊥
OneOf (r ∷ rs) c = Row r c ⊎ OneOf rs c

abbrev pub Sequences : List (List ℕ) → Type 0
Sequences [] = Unit
Sequences (c ∷ cs) = OneOf forms c × Sequences cs

-- the octets are sequences one after another
pub record Parsed (bs : List ℕ) : Type 0 where
  pub parts : List (List ℕ)
  pub formed : Sequences parts
  pub joined : join parts ≡ bs
