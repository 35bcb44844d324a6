-- Which layout a Type and a Subtype choose (document 01, "Record layouts"; faults 3 and 4).
use Rattle.std.specs.Prelude.{Bool, ◌||◌, ℕ, zero, suc, ◌-◌, eqb, Err}
use Rattle.form_spec.specs.Fmt.{Fmt, end}
use Rattle.form_spec.specs.Words.{◌$◌, choose, num, in_range}
use Rattle.form_spec.specs.Shape.{Layout, refuse, fields, unread, table, entries}
use Rattle.page_spec.specs.Names.{microseconds}
use Rattle.page_spec.specs.Bgp4mp.{session, state_change, message}
use Rattle.page_spec.specs.TableDump.{table_dump}
use Rattle.page_spec.specs.Rib.{rib_head, generic_head, entry_rest}
use Rattle.page_spec.specs.Peers.{table_head, peer}
use Rattle.page_spec.specs.Chosen.{Chosen, Unread, TableDump, PeerTable, Rib, RibGeneric, Change, Message}
use Rattle.form_spec.specs.Refusal.{refused}

-- a header's Type stands at 4, its Subtype at 6
abbrev pub unlisted : Chosen
unlisted = refused 4 6

unfoldable pub kind12 : (sub : ℕ) → Chosen
kind12 sub = choose (eqb sub 1) (TableDump 4) $ choose (eqb sub 2) (TableDump 16) unlisted

unfoldable pub kind13 : (sub : ℕ) → Chosen
kind13 sub =
    choose (eqb sub 1) PeerTable
    $ choose (in_range 2 sub 3) (Rib 32)
    $ choose (in_range 4 sub 5) (Rib 128)
    $ choose (eqb sub 6) RibGeneric unlisted

unfoldable pub kind16 : (micro sub : ℕ) → Chosen
kind16 micro sub =
    choose (eqb sub 0) (Change micro 2)
    $ choose (eqb sub 5) (Change micro 4)
    $ choose (eqb sub 1 || eqb sub 6) (Message micro 2)
    $ choose (eqb sub 4 || eqb sub 7) (Message micro 4) unlisted

-- type 17 is type 16 behind its microseconds; the unread types take any Subtype
unfoldable pub kind : (type sub : ℕ) → Chosen
kind type sub =
    choose (eqb type 11 || eqb type 32 || eqb type 48) (Unread 0)
    $ choose (eqb type 33 || eqb type 49) (Unread 4)
    $ choose (eqb type 12) (kind12 sub)
    $ choose (eqb type 13) (kind13 sub)
    $ choose (eqb type 16) (kind16 0 sub)
    $ choose (eqb type 17) (kind16 4 sub)
    $ refused 3 4

-- the types whose message starts with microseconds
unfoldable pub finer : (type : ℕ) → Bool
finer type = eqb type 17 || eqb type 33 || eqb type 49

-- microseconds, where a message has them, are its first field
unfoldable pub stamped : (micro : ℕ) → Fmt → Fmt
stamped zero f = f
stamped (suc n) f = num microseconds (suc n) λ u. f

-- `longest` counts the octets of the longest BGP message
unfoldable pub layout_for : (longest : ℕ) → Chosen → Layout
layout_for longest (Err why) = refuse why.number (12 - why.place)
layout_for longest (Unread micro) = unread (stamped micro (end 0))
layout_for longest (TableDump size) = fields (table_dump size)
layout_for longest PeerTable = table (table_head (end 0)) peer
layout_for longest (Rib bits) = entries (rib_head bits (end 0)) entry_rest
layout_for longest RibGeneric = entries (generic_head (end 0)) entry_rest
layout_for longest (Change micro w) = fields (stamped micro (session w state_change))
layout_for longest (Message micro w) = fields (stamped micro (session w (message longest)))

unfoldable pub layout : (longest type sub : ℕ) → Layout
layout longest type sub = layout_for longest (kind type sub)
