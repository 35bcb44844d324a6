-- What a writer is given for a record, the number with which it refuses, and the octets that it writes. The layouts are left open.
use Rattle.std.specs.Prelude.{cond, List, [], ◌∷◌, ◌++◌, ℕ, zero, suc, ◌^◌, length, ltb, eqb}
use Rattle.form_spec.specs.Octets.{to_be}
use Rattle.form_spec.specs.Fmt.{Out, bad, good, Fmt, end, test, field, join}
use Rattle.form_spec.specs.Body.{Plan, just, free, many, read_n}
use Rattle.form_spec.specs.Shape.{Layout, refuse, fields, unread, table, entries, St, plan}

-- ---- a value for a field: a number, to be written in so many octets, or the octets themselves

pub data Value : Type 0 where
  digits : (width number : ℕ) → Value
  bytes : List ℕ → Value

abbrev pub spelled : Value → List ℕ
spelled (digits w n) = to_be w n
spelled (bytes c) = c

-- the first fault of two, in turn; 0 is none
abbrev pub or_else : ℕ → ℕ → ℕ
or_else zero m = m
or_else (suc n) m = suc n

-- octets too few for a field of l: 5; too many: 6
abbrev pub sized : (has l : ℕ) → ℕ
sized has l = cond (ltb has l) 5 (cond (ltb l has) 6 0)

-- a number too large for w octets: 6
abbrev pub large : (w n : ℕ) → ℕ
large w n = cond (ltb n (256 ^ w)) 0 6

-- a value that does not fit a field of l octets
abbrev pub misfit : Value → ℕ → ℕ
misfit (digits w n) l = or_else (large w n) (sized w l)
misfit (bytes c) l = sized (length c) l

-- ---- the fields of a format: each in its turn, first its size, then its own check

unfoldable pub refusal : Fmt → List Value → ℕ
refusal (end b) [] = 0
refusal (end b) (v ∷ vs) = 6
refusal (test n b f) vs = or_else n (refusal f vs)
refusal (field x l b k) [] = 5
refusal (field x l b k) (v ∷ vs) = or_else (misfit v l) (refusal (k (spelled v)) vs)

abbrev pub lay : List Value → List (List ℕ)
lay [] = []
lay (v ∷ vs) = spelled v ∷ lay vs

-- ---- a message: its fields' values, then nothing, octets that are carried, or so many items laid out. Each writer gives the tail of its
-- layout's shape (`Shaped` in specs/Gives).

pub data Tail : Type 0 where
  nothing : Tail
  carried : List ℕ → Tail
  items : ℕ → List ℕ → Tail

abbrev pub tailed : Tail → List ℕ
tailed nothing = []
tailed (carried r) = r
tailed (items n raw) = to_be 2 n ++ raw

-- the number of a fault, or 0; 6 for octets left over
module _ {A : Type 0} where
  abbrev pub fault_of : Out A → ℕ
  fault_of (bad n p) = n
  fault_of (good cs []) = 0
  fault_of (good cs (x ∷ r)) = 6

-- a count that fits, and items as the reader would read them there
abbrev pub items_refusal : Fmt → Tail → ℕ
items_refusal g nothing = 5
items_refusal g (carried r) = 5
items_refusal g (items n raw) = or_else (large 2 n) (fault_of (read_n g n 0 raw))

unfoldable pub body_refusal : Plan → List Value → Tail → ℕ
body_refusal (just f) vs t = refusal f vs
body_refusal (free f) vs t = refusal f vs
body_refusal (many f g) vs t = or_else (refusal f vs) (items_refusal g t)

-- ---- a record

pub record Given : Type 0 where
  pub stamp : ℕ
  pub type : ℕ
  pub sub : ℕ
  pub values : List Value
  pub tail : Tail

-- the message's octets, and the record's
abbrev pub message : Given → List ℕ
message g = join (lay g.values) ++ tailed g.tail

unfoldable pub octets : Given → List ℕ
octets g = to_be 4 g.stamp ++ (to_be 2 g.type ++ (to_be 2 g.sub ++ (to_be 4 (length (message g)) ++ message g)))

-- 3 is the Type's own check and comes before the Subtype's size
abbrev pub type_refusal : Layout → ℕ
type_refusal (refuse n b) = cond (eqb n 3) 3 0
type_refusal (fields f) = 0
type_refusal (unread f) = 0
type_refusal (table f g) = 0
type_refusal (entries f g) = 0

module _ (layout : ℕ → ℕ → Layout) where
  -- the header's fields, then 4, 12 and the message's fields
  unfoldable pub fields_refusal : St → Given → ℕ
  fields_refusal st g =
      or_else (large 4 g.stamp)
      (or_else (large 2 g.type)
      (or_else (type_refusal (layout g.type g.sub))
      (or_else (large 2 g.sub)
      (body_refusal (plan st (layout g.type g.sub)) g.values g.tail))))

  -- last a Length past 32 bits
  unfoldable pub record_refusal : St → Given → ℕ
  record_refusal st g = or_else (fields_refusal st g) (large 4 (length (message g)))
