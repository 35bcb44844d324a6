-- Document 01's number, place, time and parts for each case of what reading one record shows, and the table in force behind it.
use Rattle.std.specs.Prelude.{List, ℕ, ◌+◌, ◌*◌, take, drop, Err, Result, Ok}
use Rattle.std.specs.Borrow.{Bor}
use Rattle.octets_spec.specs.Lent.{PartOf}
use Rattle.form_spec.specs.declared.Fault.{Fault}
use Rattle.record_spec.specs.declared.Part.{Part}
use Rattle.record_spec.specs.declared.Header.{Header}
use Rattle.record_spec.specs.Shown.{Shown, Nothing, Good}
use Rattle.record_spec.specs.declared.Body.{Body}
use Rattle.record_spec.specs.declared.Body.TheVariants.{Unread, TableDump, PeerTable, Rib, RibGeneric, Change, Message}
use Rattle.record_spec.specs.Table.{Table, Holds}
use Rattle.record_spec.specs.declared.Entry.{Entry}
use Rattle.record_spec.specs.declared.Peer.{Peer}

-- what f says of the body; `else` where no record is shown
abbrev pub of_body : {A : Type 0} → (else : A) → (Body → A) → Shown → A
of_body e f Nothing = e
of_body e f (Err why) = e
of_body e f (Good h b) = f b

abbrev pub fault : Shown → ℕ
fault Nothing = 0
fault (Err why) = why.number
fault (Good h b) = 0

-- zeros where no record is shown
abbrev pub no_header : Header
no_header = record { timestamp = 0; ty = 0; subtype = 0; length = 0; microseconds = 0 }

abbrev pub header_of : Shown → Header
header_of Nothing = no_header
header_of (Err why) = no_header
header_of (Good h b) = h

abbrev pub end : Header → ℕ
end h = 12 + h.length

-- a fault's place is the first octet of the field that failed, counted from the record's header
abbrev pub place : Shown → ℕ
place Nothing = 0
place (Err why) = why.place
place (Good h b) = end h

-- in microseconds
abbrev pub time : Header → ℕ
time h = h.timestamp * 1000000 + h.microseconds

-- a part, where it lies in the octets that were read
abbrev pub within : List ℕ → Part → List ℕ
within m p = take p.size (drop p.at m)

-- r is that part of the octets m, where it lies
abbrev pub Lies : Bor (List ℕ) → Part → Bor (List ℕ) → Type 0
Lies m p r = PartOf m p.at p.size r

abbrev pub no_part : Part
no_part = record { at = 0; size = 0 }

-- the part that a body carries: unread contents, attributes, view name or BGP message; none in the others
abbrev pub carried_in : Body → Part
carried_in (Unread c) = c
carried_in (TableDump r) = r.attributes
carried_in (PeerTable p) = p.name
carried_in (Rib r) = no_part
carried_in (RibGeneric f r) = no_part
carried_in (Change s w) = no_part
carried_in (Message s b) = b.message

abbrev pub carried : Shown → Part
carried x = of_body no_part carried_in x

-- the table in force behind a record of this body, where t was in force before: only a peer table changes it
abbrev pub table_behind : Table → Body → Table
table_behind t (Unread c) = t
table_behind t (TableDump r) = t
table_behind t (PeerTable p) = Holds p.count
table_behind t (Rib r) = t
table_behind t (RibGeneric f r) = t
table_behind t (Change s w) = t
table_behind t (Message s b) = t

-- an entry's attributes
abbrev pub attributes_in : Result Entry Fault → Part
attributes_in (Ok e) = e.attributes
attributes_in (Err why) = no_part

-- a peer's address
abbrev pub address_in : Result Peer Fault → Part
address_in (Ok p) = p.address
address_in (Err why) = no_part

-- ---- an entry, or a peer: its number, and where it ends; a fault's place

abbrev pub entry_fault : Result Entry Fault → ℕ
entry_fault (Ok e) = 0
entry_fault (Err why) = why.number

abbrev pub entry_end : Result Entry Fault → ℕ
entry_end (Ok e) = e.next
entry_end (Err why) = why.place

abbrev pub peer_fault : Result Peer Fault → ℕ
peer_fault (Ok p) = 0
peer_fault (Err why) = why.number

abbrev pub peer_end : Result Peer Fault → ℕ
peer_end (Ok p) = p.next
peer_end (Err why) = why.place
