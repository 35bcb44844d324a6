-- One record of a dump, the table in force as a cut carries it, and what is left of the record.
use Rattle.std.specs.Prelude.{◌≡◌, Bool, true, false, cond, List, [], ◌++◌, map, ℕ, ◌+◌, ◌≤◌, ◌<◌, length, take, drop, get_or}
use Rattle.form_spec.specs.Octets.{to_be}
use Rattle.form_spec.specs.Fmt.{Out, bad, good, Fmt}
use Rattle.form_spec.specs.Body.{plain, joins}
use Rattle.form_spec.specs.Shape.{Layout, St, no_table, with_peers, as_of}
use Rattle.form_spec.specs.Record.{Rec, read_rec, layout_of, time_of}
use Rattle.cut_spec.specs.Keep.{rank}
use Rattle.cut_spec.specs.Cut.{Cut, numbers, cut_body, rebody}
use Rattle.form_spec.specs.Found.{Accepted, items}

abbrev pub the_rec : Out Rec → Rec
the_rec (bad n p) = record { stamp = 0; type = 0; sub = 0; body = plain [] }
the_rec (good r q) = r

-- whether there is a table, where its peers start in the dump, and how many they are
unfoldable pub state_at : Fmt → List ℕ → Bool → ℕ → ℕ → St
state_at peer d false from count = no_table
state_at peer d true from count = with_peers (map (as_of peer) (items peer count (drop from d)))

-- new_indexes are the new indexes of the table in force
unfoldable pub Ranked : (ℕ → Bool) → List ℕ → St → Type 0
Ranked g new_indexes no_table = Unit
Ranked g new_indexes (with_peers ns) = (length ns ≤ 65535) × (length ns ≤ length new_indexes) × ((i : ℕ) → i < length ns → get_or new_indexes i 0 ≡ cond (g (get_or ns i 0)) 65535 (rank g ns i))

module _ (layout : ℕ → ℕ → Layout) where
  -- a record at the front of bs
  unfoldable pub Reads : St → List ℕ → Type 0
  Reads st bs = Accepted (read_rec layout st 0 bs)

  unfoldable pub first_rec : St → List ℕ → Rec
  first_rec st bs = the_rec (read_rec layout st 0 bs)

  -- what is left of it: one record, or none
  abbrev pub cut_one : Cut → St → Rec → List Rec
  cut_one c st r = rebody r (cut_body c (numbers st) (layout_of layout r) (time_of layout r) r.body) []

-- the record at `at` with other items: its front has `front` octets
unfoldable pub items_left : (d : List ℕ) (at front : ℕ) → List (List (List ℕ)) → List ℕ
items_left d at front its =
    take 8 (drop at d) ++ (to_be 4 (front + 2 + length (joins its)) ++ (take front (drop (at + 12) d) ++ (to_be 2 (length its) ++ joins its)))
