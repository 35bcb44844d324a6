-- The new indexes are the ranks, and entries moved by them are those of the cut.
use mathlib.Core.Path.{◌≡◌, refl, ap, ◌∙◌}
use mathlib.Core.Bool.{Bool, true, false, cond}
use mathlib.Core.List.{List, [], ◌∷◌}
use Prim.Native.Nat.{ℕ, zero, suc, ◌+◌, ◌≤◌, ◌<◌}
use native.Mathlib.Omega.{arith}
use native.Mathlib.Nat.{le_of_suc-le-suc, not-suc-le-zero}
use lib.ListN.{length, take, get_or}
use lib.Dec.{leb}
use borrow.Author.Tests.{lt-leb}
use Rattle.form_spec.specs.Fmt.{Fmt}
use Rattle.form_spec.specs.Body.{AllFits}
use Rattle.form_spec.specs.Shape.{indexed, index_of}
use Rattle.cut_spec.specs.Keep.{cons_unless, kept, rank}
use Rattle.cut_spec.specs.Cut.{renumber, cut_entries}
use Rattle.cut_laws.proofs.Keep.{rank-le}
use Rattle.form_laws.proofs.Shape.{entry_index}
use Rattle.cut_spec.specs.Moved.{new_indexes_from, moved}

-- the definition's rank, at each place
pub new_at : (g : ℕ → Bool) (ns : List ℕ) (k i : ℕ) → i < length ns → get_or (new_indexes_from g ns k) i 0 ≡ cond (g (get_or ns i 0)) 65535 (k + rank g ns i)
unfolding new_indexes_from
new_at g [] k i h = absurd (not-suc-le-zero h)
new_at g (n ∷ ns) k zero h = let e : k + 0 ≡ k = omega arith in rw e
new_at g (n ∷ ns) k (suc i) h = go (g n) (new_at g ns (cond (g n) k (k + 1)) i (le_of_suc-le-suc h))
  where
    go : (t : Bool) → get_or (new_indexes_from g ns (cond t k (k + 1))) i 0 ≡ cond (g (get_or ns i 0)) 65535 (cond t k (k + 1) + rank g ns i)
        → get_or (new_indexes_from g ns (cond t k (k + 1))) i 0 ≡ cond (g (get_or ns i 0)) 65535 (k + length (cons_unless t n (kept g (take i ns))))
    go true e = e
    go false e = e ∙ ap (cond (g (get_or ns i 0)) 65535) (omega arith)

pub length_new : (g : ℕ → Bool) (ns : List ℕ) (k : ℕ) → length (new_indexes_from g ns k) ≡ length ns
unfolding new_indexes_from
length_new g [] k = refl
length_new g (n ∷ ns) k = ap suc (length_new g ns (cond (g n) k (k + 1)))

-- new_indexes are the table's new indexes, whatever stands behind them
pub moved-cut : (g : ℕ → Bool) (ns : List ℕ) (f : Fmt) (new_indexes : List ℕ) → ((i : ℕ) → i < length ns → get_or new_indexes i 0 ≡ cond (g (get_or ns i 0)) 65535 (rank g ns i)) → length ns ≤ 65535
    → (its : List (List (List ℕ))) → AllFits (indexed (length ns) f) its → moved new_indexes its ≡ cut_entries g ns its
moved-cut g ns f new_indexes e l [] h = refl
moved-cut g ns f new_indexes e l (it ∷ its) h =
    let k : index_of it < length ns = (entry_index (length ns) f it h.0).0 in
    rw (e (index_of it) k, moved-cut g ns f new_indexes e l its h.1) (go (g (get_or ns (index_of it) 0)) k)
  where
    go : (t : Bool) → index_of it < length ns
        → cons_unless (leb 65535 (cond t 65535 (rank g ns (index_of it)))) (renumber (cond t 65535 (rank g ns (index_of it))) it) (cut_entries g ns its)
        ≡ cons_unless t (renumber (rank g ns (index_of it)) it) (cut_entries g ns its)
    go true k = refl
    go false k =
        let m : rank g ns (index_of it) < 65535 = omega (arith, rank-le g ns (index_of it)) in
        rw (lt-leb _ _ m)
