-- A record: its header, and the message that its type and subtype lay out. The layouts are left open.
use Rattle.std.specs.Prelude.{List, [], ◌∷◌, ◌++◌, ℕ, ◌+◌, ◌*◌, ◌^◌, ◌<◌, length, take, drop, ltb}
use Rattle.form_spec.specs.Octets.{to_be}
use Rattle.form_spec.specs.Fmt.{Out, good, bind, refuse_if, Fmt, end, field, read, join}
use Rattle.form_spec.specs.Body.{Body, spell, read_body, BodyFits}
use Rattle.form_spec.specs.Shape.{Layout, St, plan, after, micros_in, number}

pub record Rec : Type 0 where
  pub stamp : ℕ
  pub type : ℕ
  pub sub : ℕ
  pub body : Body

abbrev pub header : Fmt
header = field 0 4 0 λ t. field 0 2 0 λ y. field 0 2 0 λ s. field 0 4 0 λ l. end 0

-- the header's fields, with this Length
abbrev pub head : Rec → ℕ → List (List ℕ)
head r n = to_be 4 r.stamp ∷ to_be 2 r.type ∷ to_be 2 r.sub ∷ to_be 4 n ∷ []

-- a record's octets
unfoldable pub write : Rec → List ℕ
write r = join (head r (length (spell r.body))) ++ spell r.body

abbrev pub size : Rec → ℕ
size r = 12 + length (spell r.body)

abbrev pub rec_of : List (List ℕ) → Body → Rec
rec_of cs b = record { stamp = number 0 cs; type = number 1 cs; sub = number 2 cs; body = b }

module _ (layout : ℕ → ℕ → Layout) where
  -- the record that starts the octets d, which stand at offset at, where st is the table in force
  unfoldable pub read_rec : St → ℕ → List ℕ → Out Rec
  read_rec st at d =
      refuse_if (ltb (length d) 12) 1 at
      (bind (read header at d) λ cs m. refuse_if (ltb (length m) (number 3 cs)) 2 at
      (bind (read_body (plan st (layout (number 1 cs) (number 2 cs))) (at + 12) (take (number 3 cs) m)) λ b q. good (rec_of cs b) (drop (number 3 cs) m)))

  -- the grammar
  pub record Valid (st : St) (r : Rec) : Type 0 where
    pub stamp : r.stamp < 256 ^ 4
    pub type : r.type < 256 ^ 2
    pub sub : r.sub < 256 ^ 2
    pub size : length (spell r.body) < 256 ^ 4
    pub fits : BodyFits (plan st (layout r.type r.sub)) r.body

  abbrev pub layout_of : Rec → Layout
  layout_of r = layout r.type r.sub

  -- the table in force after a record
  unfoldable pub next : Rec → St → St
  next r st = after (layout_of r) r.body st

  -- a record's time, in microseconds
  unfoldable pub time_of : Rec → ℕ
  time_of r = r.stamp * 1000000 + micros_in (layout_of r) r.body
