-- Reading one record, from octets that start at its header and a table told (document 01, "Record layouts").
use Rattle.std.specs.Prelude.{List, ℕ, ◌+◌, ◌-◌, eqb, ltb, length, take, Err, Result}
use Rattle.form_spec.specs.Pass.{whole}
use Rattle.form_spec.specs.Words.{◌$◌, choose}
use Rattle.octets_spec.specs.Be.{num_at}
use Rattle.octets_spec.specs.Field.{Num, field_at}
use Rattle.form_spec.specs.declared.Fault.{Fault}
use Rattle.page_spec.specs.Bgp4mp.{session, state_change, message}
use Rattle.page_spec.specs.Rib.{rib, rib_generic}
use Rattle.page_spec.specs.Peers.{peer_table}
use Rattle.page_spec.specs.TableDump.{table_dump}
use Rattle.page_spec.specs.Layout.{kind}
use Rattle.page_spec.specs.Chosen.{Chosen}
use Rattle.page_spec.specs.Chosen as chosen
use Rattle.record_spec.specs.Fields as show
use Rattle.record_spec.specs.declared.Header.{Header}
use Rattle.record_spec.specs.Table.{Table, Absent, Holds}
use Rattle.record_spec.specs.Shown.{Shown, Nothing, Good}
use Rattle.record_spec.specs.declared.Body.TheVariants.{Unread}
use Rattle.form_spec.specs.Refusal.{refused}

-- the header, with the microseconds that the message starts with
abbrev pub header : List ℕ → (microseconds : ℕ) → Header
header m u = record { timestamp = num_at m 0 4; ty = num_at m 4 2; subtype = num_at m 6 2; length = num_at m 8 4; microseconds = u }

-- microseconds of so many octets, and where the message goes on behind them; 0 is none of them
unfoldable pub micro_at : List ℕ → ℕ → Result (ℕ × ℕ) Fault
micro_at m micro = choose (eqb micro 0) (Num 0 12) (field_at m 12 micro)

-- where they are not all there the record is refused, else k goes on
unfoldable pub behind : Result (ℕ × ℕ) Fault → (ℕ → ℕ → Shown) → Shown
behind (Num u at) k = k u at
behind (Err why) k = Err why

-- a RIB record without a table: 12, at the Subtype
unfoldable pub tabled : Table → (ℕ → Shown) → Shown
tabled Absent k = refused 12 6
tabled (Holds peers) k = k peers

-- ---- each kind; m is a record from its header to its last octet

abbrev pub shown_unread : List ℕ → (micro : ℕ) → Shown
shown_unread m micro = behind (micro_at m micro) λ u at. Good (header m u) (Unread (show.rest_from m at))

abbrev pub shown_rib : Table → List ℕ → (bits : ℕ) → Shown
shown_rib t m bits = tabled t λ peers. whole (show.rib (header m 0) m) refused (rib bits peers) m 12

abbrev pub shown_generic : Table → List ℕ → Shown
shown_generic t m = tabled t λ peers. whole (show.rib_generic (header m 0) m) refused (rib_generic peers) m 12

abbrev pub shown_change : List ℕ → (micro width : ℕ) → Shown
shown_change m micro w = behind (micro_at m micro) λ u at. whole (show.change (header m u)) refused (session w state_change) m at

-- `longest` counts the octets of the longest BGP message
abbrev pub shown_message : (longest : ℕ) → List ℕ → (micro width : ℕ) → Shown
shown_message longest m micro w = behind (micro_at m micro) λ u at. whole (show.message (header m u)) refused (session w (message longest)) m at

unfoldable pub shown_as : (longest : ℕ) → Table → List ℕ → Chosen → Shown
shown_as longest t m (Err why) = refused why.number why.place
shown_as longest t m (chosen.Unread micro) = shown_unread m micro
shown_as longest t m (chosen.TableDump size) = whole (show.table_dump (header m 0)) refused (table_dump size) m 12
shown_as longest t m chosen.PeerTable = whole (show.peer_table (header m 0) m) refused peer_table m 12
shown_as longest t m (chosen.Rib bits) = shown_rib t m bits
shown_as longest t m chosen.RibGeneric = shown_generic t m
shown_as longest t m (chosen.Change micro w) = shown_change m micro w
shown_as longest t m (chosen.Message micro w) = shown_message longest m micro w

unfoldable pub whole_record : (longest : ℕ) → Table → List ℕ → Shown
whole_record longest t m = shown_as longest t m (kind (num_at m 4 2) (num_at m 6 2))

-- octets behind the record are not looked at
unfoldable pub read_one : (longest : ℕ) → Table → List ℕ → Shown
read_one longest t s =
    choose (eqb (length s) 0) Nothing
    $ choose (ltb (length s) 12) (refused 1 0)
    $ choose (ltb (length s - 12) (num_at s 8 4)) (refused 2 0)
    $ whole_record longest t (take (12 + num_at s 8 4) s)
