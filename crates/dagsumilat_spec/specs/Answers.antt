-- What an answer array holds after a call: its first words are the answer's, in the order that include/dagsumilat.h gives.
use Rattle.std.specs.Prelude.{List, [], ◌∷◌, ℕ, suc, set, Result, Ok, Err}
use Rattle.form_spec.specs.declared.Fault.{Fault}
use Rattle.record_spec.specs.declared.Peer.{Peer}
use Rattle.record_spec.specs.declared.Entry.{Entry}
use Rattle.walk_spec.specs.declared.Walked.{Walked}
use Rattle.room_spec.specs.Written.{Written}
use Rattle.room_spec.specs.Answer as written
use Rattle.report_spec.specs.declared.Added.{Added}
use Rattle.dagsumilat_spec.specs.declared.RecordAnswer.{RecordAnswer}

-- words laid over an array, from the i-th on
abbrev pub words_from : (i : ℕ) (array words : List ℕ) → List ℕ
words_from i a [] = a
words_from i a (w ∷ ws) = words_from (suc i) (set a i w) ws

abbrev pub words : (array words : List ℕ) → List ℕ
words a ws = words_from 0 a ws

-- fault, place, records
abbrev pub check_words : (array : List ℕ) → Walked → List ℕ
check_words a w = words a (w.fault ∷ w.place ∷ w.records ∷ [])

-- fault, place, records, where the faulty record starts
abbrev pub fault_words : (array : List ℕ) → Walked → List ℕ
fault_words a w = words a (w.fault ∷ w.place ∷ w.records ∷ w.start ∷ [])

-- fault, place
abbrev pub report_words : (array : List ℕ) → Added → List ℕ
report_words a w = words a (w.fault ∷ w.place ∷ [])

-- fault, place, octets written
abbrev pub cut_words : (array : List ℕ) → Written → List ℕ
cut_words a w = words a (written.fault w ∷ written.place w ∷ written.count w ∷ [])

-- fault, place, table, time, type, subtype, length, peer, items, count
abbrev pub record_words : (array : List ℕ) → RecordAnswer → List ℕ
record_words a t = words a (t.fault ∷ t.place ∷ t.table ∷ t.time ∷ t.ty ∷ t.subtype ∷ t.length ∷ t.peer ∷ t.items ∷ t.count ∷ [])

-- fault, place, AS, type, BGP ID, where the address lies and its size
abbrev pub peer_words : (array : List ℕ) → Result Peer Fault → List ℕ
peer_words a (Ok p) = words a (0 ∷ p.next ∷ p.as_number ∷ p.kind ∷ p.id ∷ p.address.at ∷ p.address.size ∷ [])
peer_words a (Err why) = words a (why.number ∷ why.place ∷ 0 ∷ 0 ∷ 0 ∷ 0 ∷ 0 ∷ [])

-- fault, place, peer index, originated, where the attributes lie and their size
abbrev pub entry_words : (array : List ℕ) → Result Entry Fault → List ℕ
entry_words a (Ok e) = words a (0 ∷ e.next ∷ e.index ∷ e.originated ∷ e.attributes.at ∷ e.attributes.size ∷ [])
entry_words a (Err why) = words a (why.number ∷ why.place ∷ 0 ∷ 0 ∷ 0 ∷ 0 ∷ [])
