-- What becomes of a record in a cut.
use Rattle.std.specs.Prelude.{Bool, cond, not, ◌&&◌, List, ℕ, leb, ltb}
use Rattle.record_spec.specs.Shown.{Shown}
use Rattle.look_spec.specs.Sort as sort
use Rattle.look_spec.specs.Sort.{Sort, sort_of}
use Rattle.look_spec.specs.Field.{time_of, peer_of, items_at, count_of}
use Rattle.cut_spec.specs.Cut.{mem}
use Rattle.cut_spec.specs.declared.Fate.{Fate}
use Rattle.cut_spec.specs.declared.Fate.TheVariants.{Stays, Goes, Peers, Entries}

-- by the sort of the record, and whether its time is inside the window and its peer AS on the list; `lost` says whether a peer goes of the
-- table in force behind it
abbrev pub fate_by : (inside muted lost : Bool) (off n : ℕ) → Sort → Fate
fate_by inside muted lost off n sort.unread = cond inside Stays Goes
fate_by inside muted lost off n sort.of_peer = cond (inside && not muted) Stays Goes
fate_by inside muted lost off n sort.table = cond lost (Peers off n) Stays
fate_by inside muted lost off n sort.rib = cond inside (cond lost (Entries off n) Stays) Goes

-- of what reading shows
unfoldable pub fate_of : (from to : ℕ) (ms : List ℕ) (lost : Bool) → Shown → Fate
fate_of from to ms lost x = fate_by (leb from (time_of x) && ltb (time_of x) to) (mem (peer_of x) ms) lost (items_at x) (count_of x) (sort_of x)
