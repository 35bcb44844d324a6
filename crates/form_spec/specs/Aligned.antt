-- When the reader finds each value that a writer is given where the writer laid it.
use Rattle.std.specs.Prelude.{◌≡◌, ◌⊎◌, List, [], ◌∷◌, ◌++◌, ℕ, ◌^◌, ◌<◌, length, take}
use Rattle.form_spec.specs.Fmt.{Fmt, end, test, field, Fits, join}
use Rattle.form_spec.specs.Body.{Plan, just, free, many}
use Rattle.form_spec.specs.Shape.{Layout, St, plan}
use Rattle.form_spec.specs.Put.{Value, spelled, lay, Tail, nothing, carried, items, tailed, Given, message}
use Rattle.form_spec.specs.Gives.{Fit}

-- as far as no check fails: a value for each field and no more, each of its field's size
unfoldable pub Full : Fmt → List Value → Type 0
Full (end b) [] = Unit
Full (end b) (v ∷ vs) = ⊥
Full (test n b f) vs = n ≡ 0 → Full f vs
Full (field x l b k) [] = ⊥
Full (field x l b k) (v ∷ vs) = (length (spelled v) ≡ l) × Full (k (spelled v)) vs

-- where nothing follows the values but the octets raw, the reader meets the same also at a wrong size: if all octets from some value on are too few for
-- its field (5), or if the value is longer than the last field (6)
unfoldable pub Aligned : Fmt → List Value → List ℕ → Type 0
Aligned (end b) [] raw = raw ≡ []
Aligned (end b) (v ∷ vs) raw = 0 < length (join (lay (v ∷ vs)) ++ raw)
Aligned (test n b f) vs raw = n ≡ 0 → Aligned f vs raw
Aligned (field x l b k) [] raw = length raw < l
Aligned (field x l b k) (v ∷ vs) raw =
    ((length (spelled v) ≡ l) × Aligned (k (spelled v)) vs raw) ⊎ ((length (join (lay (v ∷ vs)) ++ raw) < l) ⊎ ((l < length (spelled v)) × Fits (k (take l (spelled v))) []))

-- a count of two octets, or no octets for it
abbrev pub Counted : Tail → Type 0
Counted nothing = Unit
Counted (carried r) = length r < 2
Counted (items n raw) = n < 256 ^ 2

abbrev pub AlignedBody : Plan → List Value → Tail → Type 0
AlignedBody (just f) vs t = Aligned f vs (tailed t)
AlignedBody (free f) vs t = Full f vs
AlignedBody (many f g) vs t = Full f vs × Counted t

-- a record: every number goes into its field, Length too, and every value has its place
pub record Placed (layout : ℕ → ℕ → Layout) (st : St) (g : Given) : Type 0 where
  pub stamp : g.stamp < 256 ^ 4
  pub type : g.type < 256 ^ 2
  pub sub : g.sub < 256 ^ 2
  pub size : length (message g) < 256 ^ 4
  pub fit : Fit g.values
  pub aligned : AlignedBody (plan st (layout g.type g.sub)) g.values g.tail
