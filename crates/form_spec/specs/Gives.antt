-- When what a writer is given says the same as a record.
use Rattle.std.specs.Prelude.{◌≡◌, List, [], ◌∷◌, ℕ, ◌^◌, ◌<◌, length}
use Rattle.form_spec.specs.Octets.{Octets}
use Rattle.form_spec.specs.Body.{joins, Plan, just, free, many, Body, plain, loose, listed}
use Rattle.form_spec.specs.Shape.{front_of}
use Rattle.form_spec.specs.Record.{Rec}
use Rattle.form_spec.specs.Put.{Value, digits, bytes, lay, Tail, nothing, carried, items, Given}

-- ---- values: a number goes into its octets, and octets are octets

abbrev pub FitOne : Value → Type 0
FitOne (digits w n) = n < 256 ^ w
FitOne (bytes c) = Unit

abbrev pub Fit : List Value → Type 0
Fit [] = Unit
Fit (v ∷ vs) = FitOne v × Fit vs

abbrev pub OctetsOne : Value → Type 0
OctetsOne (digits w n) = Unit
OctetsOne (bytes c) = Octets c

abbrev pub OctetsIn : List Value → Type 0
OctetsIn [] = Unit
OctetsIn (v ∷ vs) = OctetsOne v × OctetsIn vs

-- ---- a message

-- what follows a body's front, as a writer is given it
abbrev pub tail_of : Body → Tail
tail_of (plain cs) = nothing
tail_of (loose cs r) = carried r
tail_of (listed cs its) = items (length its) (joins its)

-- a tail of the plan's shape
abbrev pub Shaped : Plan → Tail → Type 0
Shaped (just f) t = t ≡ nothing
Shaped (free f) t = (r : List ℕ) × (t ≡ carried r) × Octets r
Shaped (many f g) t = (n : ℕ) × (raw : List ℕ) × (t ≡ items n raw) × Octets raw

-- ---- a record: the same numbers, the same fields, and what follows them

pub record Gives (g : Given) (r : Rec) : Type 0 where
  pub stamp : g.stamp ≡ r.stamp
  pub type : g.type ≡ r.type
  pub sub : g.sub ≡ r.sub
  pub fit : Fit g.values
  pub front : lay g.values ≡ front_of r.body
  pub tail : g.tail ≡ tail_of r.body
