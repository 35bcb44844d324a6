-- What reading shows of a record, field by field, and what it is to know a record of a dump to be good.
use Rattle.std.specs.Prelude.{◌≡◌, Bool, ◌||◌, ◌&&◌, List, ℕ, ◌+◌, ◌≤◌, ◌<◌, eqb, length, drop}
use Rattle.form_spec.specs.Words.{choose}
use Rattle.octets_spec.specs.Be.{num_at}
use Rattle.record_spec.specs.Table.{Table}
use Rattle.record_spec.specs.declared.States.{States}
use Rattle.record_spec.specs.Shown.{Shown}
use Rattle.record_spec.specs.declared.Body.{Body}
use Rattle.record_spec.specs.declared.Body.TheVariants.{Unread, TableDump, PeerTable, Rib, RibGeneric, Change, Message}
use Rattle.record_spec.specs.Answer.{of_body, fault, place, header_of, time}
use Rattle.record_spec.specs.One.{read_one}

-- ---- the fields; 0 where what is shown has no such field

abbrev pub type_of : Shown → ℕ
type_of x = (header_of x).ty

abbrev pub subtype_of : Shown → ℕ
subtype_of x = (header_of x).subtype

-- in microseconds
abbrev pub time_of : Shown → ℕ
time_of x = time (header_of x)

-- types 12, 16 and 17: the peer AS
abbrev pub peer_in : Body → ℕ
peer_in (Unread c) = 0
peer_in (TableDump r) = r.peer
peer_in (PeerTable p) = 0
peer_in (Rib r) = 0
peer_in (RibGeneric f r) = 0
peer_in (Change s w) = s.peer
peer_in (Message s b) = s.peer

abbrev pub peer_of : Shown → ℕ
peer_of x = of_body 0 peer_in x

-- type 12: the sequence
abbrev pub sequence_in : Body → ℕ
sequence_in (Unread c) = 0
sequence_in (TableDump r) = r.sequence
sequence_in (PeerTable p) = 0
sequence_in (Rib r) = 0
sequence_in (RibGeneric f r) = 0
sequence_in (Change s w) = 0
sequence_in (Message s b) = 0

abbrev pub sequence_of : Shown → ℕ
sequence_of x = of_body 0 sequence_in x

-- a state change: its states
abbrev pub no_states : States
no_states = record { old = 0; new = 0 }

abbrev pub states_in : Body → States
states_in (Unread c) = no_states
states_in (TableDump r) = no_states
states_in (PeerTable p) = no_states
states_in (Rib r) = no_states
states_in (RibGeneric f r) = no_states
states_in (Change s w) = w
states_in (Message s b) = no_states

abbrev pub states_of : Shown → States
states_of x = of_body no_states states_in x

-- type 13: where the peers or entries start, from the header on, and how many they are
abbrev pub items_in : Body → ℕ
items_in (Unread c) = 0
items_in (TableDump r) = 0
items_in (PeerTable p) = p.peers.at
items_in (Rib r) = r.entries.at
items_in (RibGeneric f r) = r.entries.at
items_in (Change s w) = 0
items_in (Message s b) = 0

abbrev pub items_at : Shown → ℕ
items_at x = of_body 0 items_in x

abbrev pub count_in : Body → ℕ
count_in (Unread c) = 0
count_in (TableDump r) = 0
count_in (PeerTable p) = p.count
count_in (Rib r) = r.count
count_in (RibGeneric f r) = r.count
count_in (Change s w) = 0
count_in (Message s b) = 0

abbrev pub count_of : Shown → ℕ
count_of x = of_body 0 count_in x

-- types 16 and 17: the octets of an AS number, by the Subtype
unfoldable pub width_of : (sub : ℕ) → ℕ
width_of sub = choose (eqb sub 4 || eqb sub 5 || eqb sub 7) 4 2

-- whether records of this type and subtype are state changes
unfoldable pub change_by : (type sub : ℕ) → Bool
change_by y u = (eqb y 16 || eqb y 17) && (eqb u 0 || eqb u 5)

-- ---- the record at `at` of the dump d

-- what a reader is told: the longest BGP message, and the table in force
pub record Told : Type 0 where
  pub longest : ℕ
  pub table : Table

abbrev pub shown : Told → List ℕ → (at : ℕ) → Shown
shown t d at = read_one t.longest t.table (drop at d)

-- it is there, and has no fault
abbrev pub Good : Told → List ℕ → (at : ℕ) → Type 0
Good t d at = (at < length d) × (fault (shown t d at) ≡ 0)

-- what a caller knows: it is good by what some reader is told, and P holds of what is shown
abbrev pub Is : List ℕ → (at : ℕ) → (Shown → Type 0) → Type 0
Is d at P = (t : Told) × Good t d at × P (shown t d at)

abbrev pub Known : List ℕ → (at : ℕ) → Type 0
Known d at = (t : Told) × Good t d at

-- what a caller learns: P holds of what is shown, whatever was told
abbrev pub Shows : List ℕ → (at : ℕ) → (Shown → Type 0) → Type 0
Shows d at P = (t : Told) → Good t d at → P (shown t d at)

-- the record ends at r
pub record Ends (d : List ℕ) (at r : ℕ) (x : Shown) : Type 0 where
  pub is : r ≡ at + place x
  pub on : at + 12 ≤ r
  pub inside : r ≤ length d

-- its count of items stands at r
pub record Counted (d : List ℕ) (at r : ℕ) (x : Shown) : Type 0 where
  pub items : r + 2 ≡ at + items_at x
  pub many : num_at d r 2 ≡ count_of x
  pub inside : r + 2 ≤ length d
