-- What it is that a record is surely good.
use Rattle.std.specs.Prelude.{◌≡◌, Bool, true, cond, List, ℕ, eqb}
use Rattle.octets_spec.specs.Be.{num_at}
use Rattle.record_spec.specs.declared.Header.{Header}
use Rattle.record_spec.specs.Shown.{Shown}
use Rattle.record_spec.specs.Table as told
use Rattle.record_spec.specs.Table.{Holds}
use Rattle.walk_spec.specs.Steps.{stepped, step_of}
use Rattle.accept_spec.specs.declared.Accepted.{Accepted}
use Rattle.accept_spec.specs.declared.Accepted.TheVariants.{Unsure, Record, Table}

-- x, which reading m shows where t is told, is a record: a step over it, wherever it stands, goes as far as m's Length says, and leaves the
-- table u in force
pub record Leaves (m : List ℕ) (t : told.Table) (x : Shown) (u : told.Table) : Type 0 where
  pub head : Header
  pub long : head.length ≡ num_at m 8 4
  pub step : (at : ℕ) → step_of t at x ≡ stepped at head u

-- an answer is right; nothing is said where it is unsure
abbrev pub Sure : List ℕ → told.Table → Shown → Accepted → Type 0
Sure m t x Unsure = Unit
Sure m t x Record = Leaves m t x t
Sure m t x (Table peers) = Leaves m t x (Holds peers)

-- a yes says that it is a record, which leaves the table as it is
abbrev pub Yes : List ℕ → told.Table → Shown → Bool → Type 0
Yes m t x r = r ≡ true → Leaves m t x t

-- the octets of microseconds in types 16 and 17
abbrev pub micro_octets : (type : ℕ) → ℕ
micro_octets y = cond (eqb y 17) 4 0
