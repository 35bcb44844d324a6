-- The widths that a kind can name.
use Rattle.std.specs.Prelude.{◌≤◌, Err}
use Rattle.page_spec.specs.Chosen.{Chosen, Unread, TableDump, PeerTable, Rib, RibGeneric, Change, Message}

abbrev pub Sane : Chosen → Type 0
Sane (Err why) = Unit
Sane (Unread micro) = micro ≤ 4
Sane (TableDump size) = size ≤ 16
Sane PeerTable = Unit
Sane (Rib bits) = bits ≤ 128
Sane RibGeneric = Unit
Sane (Change micro w) = (micro ≤ 4) × (w ≤ 4)
Sane (Message micro w) = (micro ≤ 4) × (w ≤ 4)
