-- The shapes that a record's message can have, and what the table in force has to do with it.
use Rattle.std.specs.Prelude.{List, [], ◌∷◌, map, ℕ, length, get_or, ltb}
use Rattle.std.proofs.Math.Option.{Option, none, some}
use Rattle.form_spec.specs.Octets.{be}
use Rattle.form_spec.specs.Fmt.{Fmt, end, test, find}
use Rattle.form_spec.specs.Words.{checked}
use Rattle.form_spec.specs.Body.{Plan, just, free, many, Body, plain, loose, listed}

-- the names of fields that the rules here speak of; 0 is no name, and a page has its own from 10 on
abbrev pub microseconds : ℕ
microseconds = 1

abbrev pub peer_as : ℕ
peer_as = 2

abbrev pub peer_index : ℕ
peer_index = 3

-- refused, with the octets from the message back to the place; fields alone; fields and then anything; a peer table; a RIB record, with what
-- follows an entry's index
pub data Layout : Type 0 where
  refuse : (fault back : ℕ) → Layout
  fields : Fmt → Layout
  unread : Fmt → Layout
  table : (front item : Fmt) → Layout
  entries : (front rest : Fmt) → Layout

-- the table in force: none, or the AS numbers of its peers
pub data St : Type 0 where
  no_table : St
  with_peers : List ℕ → St

-- an entry where the table has n peers: its index is judged (13) before anything behind it
abbrev pub indexed : ℕ → Fmt → Fmt
indexed n rest = checked peer_index 2 (λ i. ltb i n) 13 λ i. rest

-- a layout where this table is in force; 12 is placed at the Subtype, 6 octets back
unfoldable pub plan : St → Layout → Plan
plan st (refuse n b) = just (test n b (end 0))
plan st (fields f) = just f
plan st (unread f) = free f
plan st (table f g) = many f g
plan no_table (entries f g) = just (test 12 6 (end 0))
plan (with_peers ns) (entries f g) = many f (indexed (length ns) g)

abbrev pub items_of : Body → List (List (List ℕ))
items_of (plain cs) = []
items_of (loose cs r) = []
items_of (listed cs its) = its

abbrev pub front_of : Body → List (List ℕ)
front_of (plain cs) = cs
front_of (loose cs r) = cs
front_of (listed cs its) = cs

-- the number in field k
abbrev pub number : ℕ → List (List ℕ) → ℕ
number k cs = be (get_or cs k [])

abbrev pub value : Option (List ℕ) → ℕ
value none = 0
value (some c) = be c

-- a peer's AS number
abbrev pub as_of : Fmt → List (List ℕ) → ℕ
as_of f cs = value (find peer_as f cs)

-- an entry's peer index
abbrev pub index_of : List (List ℕ) → ℕ
index_of [] = 0
index_of (c ∷ cs) = be c

-- the table in force after a record
unfoldable pub after : Layout → Body → St → St
after (refuse n b) y st = st
after (fields f) y st = st
after (unread f) y st = st
after (table f g) y st = with_peers (map (as_of g) (items_of y))
after (entries f g) y st = st

-- a record's microseconds
unfoldable pub micros_in : Layout → Body → ℕ
micros_in (refuse n b) y = 0
micros_in (fields f) y = value (find microseconds f (front_of y))
micros_in (unread f) y = value (find microseconds f (front_of y))
micros_in (table f g) y = 0
micros_in (entries f g) y = 0
