-- When what reading one record shows is what the record grammar's reader finds.
use Rattle.std.specs.Prelude.{◌≡◌, List, ℕ, length, take, drop, Err}
use Rattle.form_spec.specs.Octets.{be}
use Rattle.form_spec.specs.Fmt.{Out, bad, good}
use Rattle.form_spec.specs.Body.{spell}
use Rattle.form_spec.specs.Shape.{micros_in}
use Rattle.form_spec.specs.Record.{Rec, size, time_of}
use Rattle.form_spec.specs.Gives.{Gives}
use Rattle.page_spec.specs.Layout.{layout, kind}
use Rattle.record_spec.specs.declared.Header.{Header}
use Rattle.record_spec.specs.Shown.{Shown, Nothing, Good}
use Rattle.record_spec.specs.declared.Body.{Body}
use Rattle.record_spec.specs.declared.Body.TheVariants.{Unread, TableDump, PeerTable, Rib, RibGeneric, Change, Message}
use Rattle.record_spec.specs.Answer.{fault, place, header_of, time, within}
use Rattle.write_spec.specs.Times.{micro_size}
use Rattle.write_spec.specs.Only.{table_dumps, peer_tables, ribs, generic_ribs, changes, messages, unreads, writer}
use Rattle.record_spec.specs.Again.{clock, again}
use Rattle.form_spec.specs.Refusal.{refused}

-- whose writer takes it back; 0 is none
abbrev pub writer_as : Header → Body → ℕ
writer_as h (Unread c) = unreads (micro_size (clock h))
writer_as h (TableDump r) = table_dumps
writer_as h (PeerTable p) = peer_tables
writer_as h (Rib r) = ribs
writer_as h (RibGeneric f r) = generic_ribs
writer_as h (Change e w) = changes
writer_as h (Message e b) = messages

abbrev pub writer_of : Shown → ℕ
writer_of Nothing = 0
writer_of (Err why) = 0
writer_of (Good h b) = writer_as h b

-- a record's header
abbrev pub head_of : (longest : ℕ) → Rec → Header
head_of longest r =
    record { timestamp = r.stamp; ty = r.type; subtype = r.sub; length = length (spell r.body); microseconds = micros_in (layout longest r.type r.sub) r.body }

-- the type shown of a BGP message is the octet behind its marker and length
abbrev pub TypedBody : List ℕ → Body → Type 0
TypedBody s (Unread c) = Unit
TypedBody s (TableDump r) = Unit
TypedBody s (PeerTable p) = Unit
TypedBody s (Rib r) = Unit
TypedBody s (RibGeneric f r) = Unit
TypedBody s (Change e w) = Unit
TypedBody s (Message e b) = b.kind ≡ be (take 1 (drop 18 (within s b.message)))

abbrev pub Typed : List ℕ → Shown → Type 0
Typed s Nothing = Unit
Typed s (Err why) = Unit
Typed s (Good h b) = TypedBody s b

-- what is shown of a record: no fault, where it ends, its header and time, its kind, and its very fields
pub record Same (longest : ℕ) (s : List ℕ) (r : Rec) (x : Shown) : Type 0 where
  pub accepted : fault x ≡ 0
  pub ends : place x ≡ size r
  pub timed : time (header_of x) ≡ time_of (layout longest) r
  pub headed : header_of x ≡ head_of longest r
  pub typed : Typed s x
  pub whose : writer_of x ≡ writer (kind r.type r.sub)
  pub gives : Gives (again s x) r

-- a fault is shown with its number and place
abbrev pub Agrees : (longest : ℕ) → List ℕ → Out Rec → Shown → Type 0
Agrees longest s (bad n p) x = x ≡ refused n p
Agrees longest s (good r q) x = Same longest s r x
