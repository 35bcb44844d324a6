-- The octets that are left of a record, by what becomes of it.
use Rattle.std.specs.Prelude.{cond, ◌||◌, List, [], ◌++◌, ℕ, ◌+◌, ◌-◌, ◌≤◌, ◌<◌, ltb, eqb, length, take, drop}
use Rattle.form_spec.specs.Found.{Lie, items}
use Rattle.form_spec.specs.Octets.{to_be}
use Rattle.page_spec.specs.Rib.{entry}
use Rattle.page_spec.specs.Peers.{peer}
use Rattle.cut_spec.specs.Moved.{moved, sieved}
use Rattle.cut_spec.specs.One.{items_left}
use Rattle.cut_spec.specs.Laid.{between}
use Rattle.cut_spec.specs.declared.Fate.{Fate}
use Rattle.cut_spec.specs.declared.Fate.TheVariants.{Stays, Goes, Peers, Entries}

-- the octets before the items: the header with another Length, the front, another count
unfoldable pub front_left : (d : List ℕ) (at front size count : ℕ) → List ℕ
front_left d at front size count = take 8 (drop at d) ++ (to_be 4 size ++ (take front (drop (at + 12) d) ++ to_be 2 count))

-- a table of n peers that start `off` octets behind the record's start, with those that have a new index
abbrev pub table_left : (new_indexes d : List ℕ) (at off n : ℕ) → List ℕ
table_left new_indexes d at off n = items_left d at (off - 14) (sieved new_indexes 0 (items peer n (drop (at + off) d)))

-- a RIB record of n entries, likewise; what had some and lost them all goes
abbrev pub rib_left : (new_indexes d : List ℕ) (at off n peers : ℕ) → List ℕ
rib_left new_indexes d at off n peers =
    cond (eqb n 0 || ltb 0 (length (moved new_indexes (items (entry peers) n (drop (at + off) d))))) (items_left d at (off - 14) (moved new_indexes (items (entry peers) n (drop (at + off) d)))) []

-- what is left of the record from `at` to `next`, where the table in force has so many peers
abbrev pub octets_of : (new_indexes d : List ℕ) (at next peers : ℕ) → Fate → List ℕ
octets_of new_indexes d at next peers Stays = between d at next
octets_of new_indexes d at next peers Goes = []
octets_of new_indexes d at next peers (Peers off n) = table_left new_indexes d at off n
octets_of new_indexes d at next peers (Entries off n) = rib_left new_indexes d at off n peers

-- its items lie there
abbrev pub Sound : (d : List ℕ) (at peers : ℕ) → Fate → Type 0
Sound d at peers Stays = Unit
Sound d at peers Goes = Unit
Sound d at peers (Peers off n) = (14 ≤ off) × (at + off ≤ length d) × (n < 65536) × Lie peer n (drop (at + off) d)
Sound d at peers (Entries off n) = (14 ≤ off) × (at + off ≤ length d) × Lie (entry peers) n (drop (at + off) d)
