-- What a Type and a Subtype choose: the kind of a layout, or a fault of the header. A case by its kind's name, as if the kind alone stood there.
use Rattle.std.specs.Prelude.{ℕ, Result, Ok}
use Rattle.form_spec.specs.declared.Fault.{Fault}
use Rattle.page_spec.specs.declared.Kind.{Kind}
use Rattle.page_spec.specs.declared.Kind.TheVariants as kinds

abbrev pub Chosen : Type 0
Chosen = Result Kind Fault

pattern abbrev pub Unread : (micro : ℕ) → Chosen
Unread micro = Ok (kinds.Unread micro)

pattern abbrev pub TableDump : (size : ℕ) → Chosen
TableDump size = Ok (kinds.TableDump size)

pattern abbrev pub PeerTable : Chosen
PeerTable = Ok kinds.PeerTable

pattern abbrev pub Rib : (bits : ℕ) → Chosen
Rib bits = Ok (kinds.Rib bits)

pattern abbrev pub RibGeneric : Chosen
RibGeneric = Ok kinds.RibGeneric

pattern abbrev pub Change : (micro width : ℕ) → Chosen
Change micro w = Ok (kinds.Change micro w)

pattern abbrev pub Message : (micro width : ℕ) → Chosen
Message micro w = Ok (kinds.Message micro w)
