-- A dump: the walk over its records, and what it is to split into whole records.
use Rattle.std.specs.Prelude.{◌≡◌, List, [], ◌∷◌, ◌++◌, ℕ, zero, suc, ◌+◌, length}
use Rattle.form_spec.specs.Fmt.{Out, bad, good}
use Rattle.form_spec.specs.Shape.{Layout, St, no_table}
use Rattle.form_spec.specs.Record.{Rec, size, write, read_rec, Valid, next}

pub record Walk : Type 0 where
  pub fault : ℕ
  pub place : ℕ
  pub recs : List Rec

abbrev pub stop : ℕ → ℕ → Walk
stop n p = record { fault = n; place = p; recs = [] }

abbrev pub before : Rec → Walk → Walk
before r w = record { fault = w.fault; place = w.place; recs = r ∷ w.recs }

-- a fault is placed at the first octet of the field that failed
abbrev pub step : (Rec → List ℕ → Walk) → Out Rec → Walk
step k (bad n p) = stop n p
step k (good r d) = before r (k r d)

abbrev pub writes : List Rec → List ℕ
writes [] = []
writes (r ∷ rs) = write r ++ writes rs

module _ (layout : ℕ → ℕ → Layout) where
  -- fuel is any number that is at least the number of octets
  unfoldable pub walk : ℕ → St → ℕ → List ℕ → Walk
  walk zero st at d = stop 0 at
  walk (suc n) st at [] = stop 0 at
  walk (suc n) st at (x ∷ xs) = step (λ r d. walk n (next layout r st) (at + size r) d) (read_rec layout st at (x ∷ xs))

  unfoldable pub walk_from : St → ℕ → List ℕ → Walk
  walk_from st at d = walk (length d) st at d

  unfoldable pub walk_all : List ℕ → Walk
  walk_all d = walk_from no_table 0 d

  -- whole records, each valid where it stands
  abbrev pub Valids : St → List Rec → Type 0
  Valids st [] = Unit
  Valids st (r ∷ rs) = Valid layout st r × Valids (next layout r st) rs

  abbrev pub Splits : List ℕ → Type 0
  Splits d = (rs : List Rec) × Valids no_table rs × (writes rs ≡ d)

  -- the table in force after records
  abbrev pub nexts : List Rec → St → St
  nexts [] st = st
  nexts (r ∷ rs) st = nexts rs (next layout r st)
