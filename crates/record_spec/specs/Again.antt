-- What a caller hands to a writer to write a record back that reading showed: the numbers shown, and the parts where they lie.
use Rattle.std.specs.Prelude.{List, [], ℕ, Err}
use Rattle.form_spec.specs.Words.{choose}
use Rattle.form_spec.specs.Put.{Given, nothing}
use Rattle.page_spec.specs.Layout.{finer}
use Rattle.record_spec.specs.declared.Header.{Header}
use Rattle.record_spec.specs.Shown.{Shown, Nothing, Good}
use Rattle.record_spec.specs.declared.Body.{Body}
use Rattle.record_spec.specs.declared.Body.TheVariants.{Unread, TableDump, PeerTable, Rib, RibGeneric, Change, Message}
use Rattle.record_spec.specs.Answer.{within}
use Rattle.write_spec.specs.declared.Time.{Time}
use Rattle.write_spec.specs.declared.Time.TheVariants.{Seconds, Micro}
use Rattle.write_spec.specs.Givens.{unread_given, table_dump_given, peer_table_given, rib_given, rib_generic_given, change_given, message_given}

abbrev pub clock : Header → Time
clock h = choose (finer h.ty) (Micro h.timestamp h.microseconds) (Seconds h.timestamp)

-- nothing was shown that a writer could take
abbrev pub blank : Given
blank = record { stamp = 0; type = 0; sub = 0; values = []; tail = nothing }

-- s are the octets that were read
abbrev pub again_as : List ℕ → Header → Body → Given
again_as s h (Unread c) = unread_given (clock h) h.ty h.subtype (within s c)
again_as s h (TableDump r) =
    table_dump_given h.timestamp h.subtype r.view r.sequence (within s r.prefix) r.bits r.status r.originated (within s r.address) r.peer
    (within s r.attributes)
again_as s h (PeerTable p) = peer_table_given h.timestamp p.collector (within s p.name) p.count (within s p.peers)
again_as s h (Rib r) = rib_given h.timestamp h.subtype r.sequence r.bits (within s r.prefix) r.count (within s r.entries)
again_as s h (RibGeneric f r) =
    rib_generic_given h.timestamp r.sequence f.family f.safi r.bits (within s r.prefix) r.count (within s r.entries)
again_as s h (Change e w) =
    change_given (clock h) h.subtype e.peer e.local e.interface e.family (within s e.theirs) (within s e.ours) w.old w.new
again_as s h (Message e b) =
    message_given (clock h) h.subtype e.peer e.local e.interface e.family (within s e.theirs) (within s e.ours) (within s b.message)

abbrev pub again : List ℕ → Shown → Given
again s Nothing = blank
again s (Err why) = blank
again s (Good h b) = again_as s h b
