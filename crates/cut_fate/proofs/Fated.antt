-- What becomes of a record, from what code has found of it.
use mathlib.Core.Path.{◌≡◌, ◌∙◌}
use mathlib.Core.Bool.{Bool, cond, not, ◌&&◌}
use mathlib.Core.List.{List}
use Prim.Native.Nat.{ℕ}
use lib.Dec.{leb, ltb}
use Rattle.record_spec.specs.Shown.{Shown}
use Rattle.look_spec.specs.Sort as sort
use Rattle.look_spec.specs.Sort.{sort_of}
use Rattle.look_spec.specs.Field.{time_of, peer_of, items_at, count_of}
use Rattle.cut_spec.specs.Cut.{mem}
use Rattle.cut_spec.specs.Fate.{fate_of}
use Rattle.cut_spec.specs.declared.Fate.{Fate}
use Rattle.cut_spec.specs.declared.Fate.TheVariants.{Stays, Goes, Peers, Entries}

module _ (from to : ℕ) (ms : List ℕ) (lost : Bool) (x : Shown) {l : Fate} where
  pub fate_unread : {time : ℕ} → sort_of x ≡ sort.unread → time ≡ time_of x → l ≡ cond (leb from time && ltb time to) Stays Goes → l ≡ fate_of from to ms lost x
  unfolding fate_of
  fate_unread s e h = h ∙ rw (s, e)

  pub fate_heard : {time peer : ℕ} → sort_of x ≡ sort.of_peer → time ≡ time_of x → peer ≡ peer_of x
      → l ≡ cond ((leb from time && ltb time to) && not (mem peer ms)) Stays Goes → l ≡ fate_of from to ms lost x
  unfolding fate_of
  fate_heard s e f h = h ∙ rw (s, e, f)

  pub fate_table : sort_of x ≡ sort.table → l ≡ cond lost (Peers (items_at x) (count_of x)) Stays → l ≡ fate_of from to ms lost x
  unfolding fate_of
  fate_table s h = h ∙ rw s

  pub fate_rib : sort_of x ≡ sort.rib → l ≡ cond (leb from (time_of x) && ltb (time_of x) to) (cond lost (Entries (items_at x) (count_of x)) Stays) Goes → l ≡ fate_of from to ms lost x
  unfolding fate_of
  fate_rib s h = h ∙ rw s
