-- What the writer of each layout is given: just the fields that the layout has. Lengths are worked out.
use Rattle.std.specs.Prelude.{ℕ, List, [], ◌∷◌, ◌++◌, length, take, drop}
use Rattle.form_spec.specs.Put.{Value, digits, bytes, Given, nothing, carried, items}
use Rattle.page_spec.specs.Layout.{kind}
use Rattle.write_spec.specs.Times.{stamp_of, micros, bgp4mp}
use Rattle.write_spec.specs.Only.{as_octets}
use Rattle.write_spec.specs.declared.Time.{Time}

-- ---- types 16 and 17

abbrev pub session_values : (width peer local interface family : ℕ) (theirs ours : List ℕ) → List Value → List Value
session_values w p l i f theirs ours vs = digits w p ∷ digits w l ∷ digits 2 i ∷ digits 2 f ∷ bytes theirs ∷ bytes ours ∷ vs

abbrev pub state_values : (old new : ℕ) → List Value
state_values o n = digits 2 o ∷ digits 2 n ∷ []

-- a BGP message that is handed over whole: marker, length, type, rest
abbrev pub bgp_values : List ℕ → List Value
bgp_values b = bytes (take 16 b) ∷ bytes (take 2 (drop 16 b)) ∷ bytes (take 1 (drop 18 b)) ∷ bytes (drop 19 b) ∷ []

abbrev pub bgp_given : (time : Time) (sub : ℕ) → List Value → Given
bgp_given t s vs = record { stamp = stamp_of t; type = bgp4mp t; sub = s; values = micros t ++ vs; tail = nothing }

abbrev pub change_given : (time : Time) (sub peer local interface family : ℕ) (theirs ours : List ℕ) (old new : ℕ) → Given
change_given t s p l i f theirs ours o n = bgp_given t s (session_values (as_octets (kind (bgp4mp t) s)) p l i f theirs ours (state_values o n))

abbrev pub message_given : (time : Time) (sub peer local interface family : ℕ) (theirs ours message : List ℕ) → Given
message_given t s p l i f theirs ours b = bgp_given t s (session_values (as_octets (kind (bgp4mp t) s)) p l i f theirs ours (bgp_values b))

-- ---- type 12

abbrev pub route_values : (view sequence : ℕ) (prefix : List ℕ) (bits status originated : ℕ) (address : List ℕ) (peer : ℕ) (attributes : List ℕ) → List Value
route_values v s prefix b t o address p a =
    digits 2 v ∷ digits 2 s ∷ bytes prefix ∷ digits 1 b ∷ digits 1 t ∷ digits 4 o ∷ bytes address ∷ digits 2 p ∷ digits 2 (length a) ∷ bytes a ∷ []

abbrev pub table_dump_given : (timestamp sub view sequence : ℕ) (prefix : List ℕ) (bits status originated : ℕ) (address : List ℕ) (peer : ℕ) (attributes : List ℕ) → Given
table_dump_given t y v s prefix b u o address p a = record { stamp = t; type = 12; sub = y; values = route_values v s prefix b u o address p a; tail = nothing }

-- ---- type 13

abbrev pub peer_table_given : (timestamp collector : ℕ) (name : List ℕ) (count : ℕ) (peers : List ℕ) → Given
peer_table_given t c name n peers = record { stamp = t; type = 13; sub = 1; values = digits 4 c ∷ digits 2 (length name) ∷ bytes name ∷ []; tail = items n peers }

abbrev pub rib_given : (timestamp sub sequence bits : ℕ) (prefix : List ℕ) (count : ℕ) (entries : List ℕ) → Given
rib_given t y s b prefix n entries = record { stamp = t; type = 13; sub = y; values = digits 4 s ∷ digits 1 b ∷ bytes prefix ∷ []; tail = items n entries }

abbrev pub rib_generic_given : (timestamp sequence family safi bits : ℕ) (prefix : List ℕ) (count : ℕ) (entries : List ℕ) → Given
rib_generic_given t s f i b prefix n entries =
    record { stamp = t; type = 13; sub = 6; values = digits 4 s ∷ digits 2 f ∷ digits 1 i ∷ digits 1 b ∷ bytes prefix ∷ []; tail = items n entries }

-- ---- contents that are carried unread

abbrev pub unread_given : (time : Time) (type sub : ℕ) (contents : List ℕ) → Given
unread_given t y s r = record { stamp = stamp_of t; type = y; sub = s; values = micros t; tail = carried r }
