-- What the fields of each layout are in the code's answers: by name, out of the fields that the page's format found.
use Rattle.std.specs.Prelude.{ℕ, ◌-◌, List, length, Result, Ok}
use Rattle.form_spec.specs.Pass.{Seen, number_of, place_of, size_of, after_of}
use Rattle.page_spec.specs.Names.{peer_as, local_as, interface, family, peer_address, local_address, old_state, new_state, marker, bgp_length, bgp_type, view, sequence, prefix_octets, prefix_bits, status, originated, attribute_octets, collector, view_name, peer_count, entry_count, safi, peer_index, peer_type, bgp_id}
use Rattle.record_spec.specs.declared.Part.{Part}
use Rattle.record_spec.specs.declared.Header.{Header}
use Rattle.record_spec.specs.declared.Session.{Session}
use Rattle.record_spec.specs.declared.Route.{Route}
use Rattle.record_spec.specs.declared.Peers.{Peers}
use Rattle.record_spec.specs.declared.Routes.{Routes}
use Rattle.record_spec.specs.Shown.{Shown, Good}
use Rattle.record_spec.specs.declared.Body.TheVariants.{TableDump, PeerTable, Rib, RibGeneric, Change, Message}
use Rattle.record_spec.specs.declared.Entry.{Entry}
use Rattle.record_spec.specs.declared.Peer.{Peer}
use Rattle.form_spec.specs.declared.Fault.{Fault}

-- where a field lies
abbrev pub part_of : ℕ → List Seen → Part
part_of x fs = record { at = place_of x fs; size = size_of x fs }

-- from a place to the end of m
abbrev pub rest_from : List ℕ → ℕ → Part
rest_from m a = record { at = a; size = length m - a }

-- ---- types 16 and 17

abbrev pub session_of : (peer local interface family : ℕ) → List Seen → Session
session_of p l i f fs = record { peer = p; local = l; interface = i; family = f; theirs = part_of peer_address fs; ours = part_of local_address fs }

abbrev pub session : List Seen → Session
session fs = session_of (number_of peer_as fs) (number_of local_as fs) (number_of interface fs) (number_of family fs) fs

abbrev pub change_of : Header → Session → List Seen → Shown
change_of h s fs = Good h (Change s (record { old = number_of old_state fs; new = number_of new_state fs }))

-- the BGP message starts at its marker and is as long as it says
abbrev pub message_of : Header → Session → List Seen → Shown
message_of h s fs = Good h (Message s (record { message = record { at = place_of marker fs; size = number_of bgp_length fs }; kind = number_of bgp_type fs }))

abbrev pub change : Header → List Seen → Shown
change h fs = change_of h (session fs) fs

abbrev pub message : Header → List Seen → Shown
message h fs = message_of h (session fs) fs

-- ---- type 12

abbrev pub route_of : (view sequence : ℕ) (prefix : Part) (bits : ℕ) (status originated : ℕ) (address : Part) (peer : ℕ) → List Seen → Route
route_of v s p b t o a e fs =
    record { view = v; sequence = s; prefix = p; bits = b; status = t; originated = o; address = a; peer = e; attributes = part_of attribute_octets fs }

abbrev pub route_rest : (view sequence : ℕ) (prefix : Part) (bits : ℕ) → List Seen → Route
route_rest v s p b fs = route_of v s p b (number_of status fs) (number_of originated fs) (part_of peer_address fs) (number_of peer_as fs) fs

abbrev pub table_dump : Header → List Seen → Shown
table_dump h fs = Good h (TableDump (route_rest (number_of view fs) (number_of sequence fs) (part_of prefix_octets fs) (number_of prefix_bits fs) fs))

-- ---- type 13; m is the whole record

abbrev pub peers_of : (collector : ℕ) (name : Part) → List ℕ → List Seen → Peers
peers_of c n m fs = record { collector = c; name = n; count = number_of peer_count fs; peers = rest_from m (after_of peer_count fs) }

abbrev pub peer_table : Header → List ℕ → List Seen → Shown
peer_table h m fs = Good h (PeerTable (peers_of (number_of collector fs) (part_of view_name fs) m fs))

-- behind the sequence, and in subtype 6 the family and SAFI
abbrev pub routes_of : (sequence : ℕ) → List ℕ → List Seen → Routes
routes_of s m fs = record { sequence = s; bits = number_of prefix_bits fs; prefix = part_of prefix_octets fs; count = number_of entry_count fs; entries = rest_from m (after_of entry_count fs) }

abbrev pub rib : Header → List ℕ → List Seen → Shown
rib h m fs = Good h (Rib (routes_of (number_of sequence fs) m fs))

abbrev pub rib_generic : Header → List ℕ → List Seen → Shown
rib_generic h m fs = Good h (RibGeneric (record { family = number_of family fs; safi = number_of safi fs }) (routes_of (number_of sequence fs) m fs))

-- ---- items: a is where the next one starts

abbrev pub entry : List Seen → (a p : ℕ) → Result Entry Fault
entry fs a p = Ok (record { index = number_of peer_index fs; originated = number_of originated fs; attributes = part_of attribute_octets fs; next = a })

abbrev pub peer : List Seen → (a p : ℕ) → Result Peer Fault
peer fs a p =
    Ok (record { kind = number_of peer_type fs; id = number_of bgp_id fs; address = part_of peer_address fs; as_number = number_of peer_as fs; next = a })
