-- Formats as data: how octets are read by one, and its grammar.
use Rattle.std.specs.Prelude.{◌≡◌, Bool, true, false, cond, List, [], ◌∷◌, ◌++◌, ℕ, zero, suc, ◌+◌, ◌-◌, length, take, drop, ltb, eqb}
use Rattle.std.proofs.Math.Option.{Option, none, some}
use Rattle.form_spec.specs.Octets.{Octets}

-- ---- what reading finds: a fault and its place, or a value and the octets left

pub data Out (A : Type 0) : Type 0 where
  bad : (fault place : ℕ) → Out A
  good : A → List ℕ → Out A

module _ {A : Type 0} where
  -- a fault's number, or 0 for none
  abbrev pub guard : ℕ → ℕ → Out A → Out A
  guard zero p o = o
  guard (suc n) p o = bad (suc n) p

  abbrev pub refuse_if : Bool → ℕ → ℕ → Out A → Out A
  refuse_if true n p o = bad n p
  refuse_if false n p o = o

module _ {A B : Type 0} where
  abbrev pub bind : Out A → (A → List ℕ → Out B) → Out B
  bind (bad n p) k = bad n p
  bind (good a r) k = k a r

-- ---- a format: nothing more (what is left over is placed so far back); a test that gives a fault's number or 0, placed so
-- many octets back; a field of so many octets, on whose octets depends what follows (its lack is placed so far back)

pub data Fmt : Type 0 where
  end : (back : ℕ) → Fmt
  test : (fault back : ℕ) → Fmt → Fmt
  field : (name len back : ℕ) → (List ℕ → Fmt) → Fmt

-- the format read at offset at, where the octets bs stand
unfoldable pub read : Fmt → ℕ → List ℕ → Out (List (List ℕ))
read (end b) at bs = good [] bs
read (test n b f) at bs = guard n (at - b) (read f at bs)
read (field x l b k) at bs =
    refuse_if (ltb (length bs) l) 5 (at - b)
    (bind (read (k (take l bs)) (at + l) (drop l bs)) (λ cs r. good (take l bs ∷ cs) r))

-- the grammar: cs are the fields of the format
unfoldable pub Fits : Fmt → List (List ℕ) → Type 0
Fits (end b) [] = Unit
Fits (end b) (c ∷ cs) = ⊥
Fits (test n b f) cs = (n ≡ 0) × Fits f cs
Fits (field x l b k) [] = ⊥
Fits (field x l b k) (c ∷ cs) = (length c ≡ l) × Octets c × Fits (k c) cs

-- how far back what is left over is placed
unfoldable pub over_at : Fmt → List (List ℕ) → ℕ
over_at (end b) cs = b
over_at (test n b f) cs = over_at f cs
over_at (field x l b k) [] = 0
over_at (field x l b k) (c ∷ cs) = over_at (k c) cs

abbrev pub join : List (List ℕ) → List ℕ
join [] = []
join (c ∷ cs) = c ++ join cs

-- the field of that name, if the format has one
unfoldable pub find : ℕ → Fmt → List (List ℕ) → Option (List ℕ)
find n (end b) cs = none
find n (test m b f) cs = find n f cs
find n (field x l b k) [] = none
find n (field x l b k) (c ∷ cs) = cond (eqb n x) (some c) (find n (k c) cs)
