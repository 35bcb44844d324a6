-- A message's body: fields alone, fields and then anything, or fields, a count of two octets and that many items.
use Rattle.std.specs.Prelude.{◌≡◌, List, [], ◌∷◌, ◌++◌, ℕ, zero, suc, ◌+◌, ◌-◌, ◌<◌, length, take, drop, ltb}
use Rattle.form_spec.specs.Octets.{Octets, be, to_be}
use Rattle.form_spec.specs.Fmt.{Out, bad, good, bind, refuse_if, Fmt, read, Fits, join, over_at}

-- ---- n items of one format

unfoldable pub read_n : Fmt → ℕ → ℕ → List ℕ → Out (List (List (List ℕ)))
read_n f zero at bs = good [] bs
read_n f (suc n) at bs = bind (read f at bs) (λ cs r. bind (read_n f n (at + length (join cs)) r) (λ its q. good (cs ∷ its) q))

abbrev pub joins : List (List (List ℕ)) → List ℕ
joins [] = []
joins (c ∷ cs) = join c ++ joins cs

abbrev pub AllFits : Fmt → List (List (List ℕ)) → Type 0
AllFits f [] = Unit
AllFits f (c ∷ cs) = Fits f c × AllFits f cs

-- n items, each of the format
abbrev pub Items : Fmt → ℕ → List (List (List ℕ)) → Type 0
Items f n its = AllFits f its × (length its ≡ n)

-- ---- a body

pub data Plan : Type 0 where
  just : Fmt → Plan
  free : Fmt → Plan
  many : (front item : Fmt) → Plan

pub data Body : Type 0 where
  plain : List (List ℕ) → Body
  loose : List (List ℕ) → List ℕ → Body
  listed : List (List ℕ) → List (List (List ℕ)) → Body

-- nothing is left over, or 6
abbrev pub ended : ℕ → Body → List ℕ → Out Body
ended p b [] = good b []
ended p b (x ∷ r) = bad 6 p

unfoldable pub read_body : Plan → ℕ → List ℕ → Out Body
read_body (just f) at bs = bind (read f at bs) (λ cs r. ended (at + length (join cs) - over_at f cs) (plain cs) r)
read_body (free f) at bs = bind (read f at bs) (λ cs r. good (loose cs r) [])
read_body (many f g) at bs =
    bind (read f at bs)
    (λ cs r. refuse_if (ltb (length r) 2) 5 (at + length (join cs))
    (bind (read_n g (be (take 2 r)) (at + length (join cs) + 2) (drop 2 r))
    (λ its q. ended (at + length (join cs) + 2 + length (joins its)) (listed cs its) q)))

-- a body's octets
unfoldable pub spell : Body → List ℕ
spell (plain cs) = join cs
spell (loose cs r) = join cs ++ r
spell (listed cs its) = join cs ++ (to_be 2 (length its) ++ joins its)

-- the grammar
unfoldable pub BodyFits : Plan → Body → Type 0
BodyFits (just f) (plain cs) = Fits f cs
BodyFits (just f) (loose cs r) = ⊥
BodyFits (just f) (listed cs its) = ⊥
BodyFits (free f) (plain cs) = ⊥
BodyFits (free f) (loose cs r) = Fits f cs × Octets r
BodyFits (free f) (listed cs its) = ⊥
BodyFits (many f g) (plain cs) = ⊥
BodyFits (many f g) (loose cs r) = ⊥
BodyFits (many f g) (listed cs its) = Fits f cs × (length its < 65536) × AllFits g its
