-- Each writer writes the records of one layout: a Subtype that has another is not listed to it (4), and to the writer of unread contents
-- such a Type is not (3).
use Rattle.std.specs.Prelude.{◌≡◌, ◌⊎◌, ℕ, ◌+◌, eqb, Err}
use Rattle.form_spec.specs.Put.{Given}
use Rattle.form_spec.specs.Shape.{Layout}
use Rattle.form_spec.specs.Words.{choose}
use Rattle.page_spec.specs.Layout.{kind, layout_for, unlisted}
use Rattle.page_spec.specs.Chosen.{Chosen, Unread, TableDump, PeerTable, Rib, RibGeneric, Change, Message}
use Rattle.form_spec.specs.Refusal.{refused}

-- the writers, by number; unread contents behind so many octets of microseconds have one each
abbrev pub table_dumps : ℕ
table_dumps = 1

abbrev pub peer_tables : ℕ
peer_tables = 2

abbrev pub ribs : ℕ
ribs = 3

abbrev pub generic_ribs : ℕ
generic_ribs = 4

abbrev pub changes : ℕ
changes = 5

abbrev pub messages : ℕ
messages = 6

abbrev pub unreads : (micro : ℕ) → ℕ
unreads micro = 7 + micro

-- whose a kind is
abbrev pub writer : Chosen → ℕ
writer (Err why) = 0
writer (Unread micro) = unreads micro
writer (TableDump size) = table_dumps
writer PeerTable = peer_tables
writer (Rib bits) = ribs
writer RibGeneric = generic_ribs
writer (Change micro w) = changes
writer (Message micro w) = messages

-- the layouts of one writer; `longest` counts the octets of the longest BGP message
abbrev pub only : (writes : ℕ) (other : Chosen) (longest type sub : ℕ) → Layout
only n other longest type sub = layout_for longest (choose (eqb (writer (kind type sub)) n) (kind type sub) other)

-- a record of the writer's own, or one that the reader refuses as the writer does
abbrev pub Own : (writes : ℕ) (other : Chosen) → Given → Type 0
Own n other g = (writer (kind g.type g.sub) ≡ n) ⊎ (kind g.type g.sub ≡ other)

abbrev pub only_sub : (writes longest type sub : ℕ) → Layout
only_sub n = only n unlisted

abbrev pub only_type : (writes longest type sub : ℕ) → Layout
only_type n = only n (refused 3 4)

-- octets of an AS number in a session; 0 where there is none
abbrev pub as_octets : Chosen → ℕ
as_octets (Err why) = 0
as_octets (Unread micro) = 0
as_octets (TableDump size) = 0
as_octets PeerTable = 0
as_octets (Rib bits) = 0
as_octets RibGeneric = 0
as_octets (Change micro w) = w
as_octets (Message micro w) = w
