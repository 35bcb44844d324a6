-- The four sorts of records that document 01's cut tells apart: carried unread; of one peer, types 12, 16 and 17; peer tables; RIB records.
use Rattle.std.specs.Prelude.{Bool, true, false, ◌||◌, ℕ, eqb}
use Rattle.form_spec.specs.Words.{choose}
use Rattle.record_spec.specs.Shown.{Shown}
use Rattle.record_spec.specs.declared.Body.{Body}
use Rattle.record_spec.specs.declared.Body.TheVariants.{Unread, TableDump, PeerTable, Rib, RibGeneric, Change, Message}
use Rattle.record_spec.specs.Answer.{of_body}

pub data Sort : Type 0 where
  unread : Sort
  of_peer : Sort
  table : Sort
  rib : Sort

abbrev pub sort_in : Body → Sort
sort_in (Unread c) = unread
sort_in (TableDump r) = of_peer
sort_in (PeerTable p) = table
sort_in (Rib r) = rib
sort_in (RibGeneric f r) = rib
sort_in (Change s w) = of_peer
sort_in (Message s b) = of_peer

-- of what reading shows
abbrev pub sort_of : Shown → Sort
sort_of x = of_body unread sort_in x

abbrev pub is_table : Sort → Bool
is_table unread = false
is_table of_peer = false
is_table table = true
is_table rib = false

-- whether it is a record of type 12, whether it is a state change
abbrev pub route_in : Body → Bool
route_in (Unread c) = false
route_in (TableDump r) = true
route_in (PeerTable p) = false
route_in (Rib r) = false
route_in (RibGeneric f r) = false
route_in (Change s w) = false
route_in (Message s b) = false

abbrev pub is_route : Shown → Bool
is_route x = of_body false route_in x

abbrev pub change_in : Body → Bool
change_in (Unread c) = false
change_in (TableDump r) = false
change_in (PeerTable p) = false
change_in (Rib r) = false
change_in (RibGeneric f r) = false
change_in (Change s w) = true
change_in (Message s b) = false

abbrev pub is_change : Shown → Bool
is_change x = of_body false change_in x

-- the sort as a good record's type and subtype say it
unfoldable pub sort_by : (type sub : ℕ) → Sort
sort_by y u = choose (eqb y 12 || eqb y 16 || eqb y 17) of_peer (choose (eqb y 13) (choose (eqb u 1) table rib) unread)
