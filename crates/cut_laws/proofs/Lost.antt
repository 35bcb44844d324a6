-- No peer of a table goes: its peers and the entries of its RIB records stay as they are.
use mathlib.Core.Path.{◌≡◌, refl, sym, ap, ◌∙◌}
use mathlib.Core.Bool.{Bool, true, false, cond}
use mathlib.Core.List.{List, [], ◌∷◌, map}
use Prim.Native.Nat.{ℕ, zero, suc, ◌+◌, ◌<◌}
use native.Mathlib.Omega.{arith}
use native.Mathlib.Nat.{le_of_suc-le-suc, not-suc-le-zero}
use lib.ListN.{length, get_or, length-map}
use lib.Dec.{leb}
use borrow.Author.Tests.{lt-leb}
use Rattle.form_spec.specs.Fmt.{Fmt, Fits}
use Rattle.form_spec.specs.Words.{checked}
use Rattle.form_spec.specs.Body.{AllFits}
use Rattle.form_spec.specs.Shape.{indexed, with_peers, index_of}
use Rattle.form_laws.proofs.Octets.{to_be_at}
use Rattle.cut_spec.specs.Keep.{cons_unless, kept, rank}
use Rattle.cut_spec.specs.Cut.{renumber, cut_entries}
use Rattle.cut_laws.proofs.Keep.{kept-length, kept_map, rank-le}
use Rattle.form_laws.proofs.Shape.{entry_index}
use Rattle.cut_spec.specs.Moved.{sieved}
use Rattle.cut_spec.specs.One.{Ranked}

-- as many as there were: none goes
module _ {A : Type 0} where
  pub none_goes : (g : A → Bool) (xs : List A) → length (kept g xs) ≡ length xs → kept g xs ≡ xs
  none_goes g [] e = refl
  none_goes g (x ∷ xs) e = go (g x) e (none_goes g xs)
    where
      go : (t : Bool) → length (cons_unless t x (kept g xs)) ≡ suc (length xs) → (length (kept g xs) ≡ length xs → kept g xs ≡ xs) → cons_unless t x (kept g xs) ≡ x ∷ xs
      go true q on = absurd (omega (arith, q, kept-length g xs))
      go false q on = ap (λ (l : List A). x ∷ l) (on (omega (arith, q)))

-- and each has the rank that is its place
pub each_stays : (g : ℕ → Bool) (ns : List ℕ) (i : ℕ) → length (kept g ns) ≡ length ns → i < length ns → (g (get_or ns i 0) ≡ false) × (rank g ns i ≡ i)
each_stays g [] i e h = absurd (not-suc-le-zero h)
each_stays g (n ∷ ns) i e h = go (g n) refl e i h (λ j. each_stays g ns j)
  where
    go : (t : Bool) → g n ≡ t → length (cons_unless t n (kept g ns)) ≡ suc (length ns) → (i : ℕ) → i < suc (length ns)
        → ((j : ℕ) → length (kept g ns) ≡ length ns → j < length ns → (g (get_or ns j 0) ≡ false) × (rank g ns j ≡ j))
        → (g (get_or (n ∷ ns) i 0) ≡ false) × (rank g (n ∷ ns) i ≡ i)
    go true z q i k on = absurd (omega (arith, q, kept-length g ns))
    go false z q zero k on = (z, refl)
    go false z q (suc i) k on = let w = on i (omega (arith, q)) (le_of_suc-le-suc k) in (w.0, rw z (ap suc w.1))

-- an entry with its own index is the entry
own_index : (n : ℕ) (f : Fmt) (it : List (List ℕ)) → Fits (indexed n f) it → renumber (index_of it) it ≡ it
unfolding Fits checked
own_index n f (c ∷ cs) h = ap (λ (x : List ℕ). x ∷ cs) (to_be_at 2 c h.0 h.1)
own_index n f [] h = elim h [ ]

pub entries_stay : (g : ℕ → Bool) (ns : List ℕ) (f : Fmt) (its : List (List (List ℕ))) → length (kept g ns) ≡ length ns → AllFits (indexed (length ns) f) its → cut_entries g ns its ≡ its
entries_stay g ns f [] e h = refl
entries_stay g ns f (it ∷ its) e h =
    let w = each_stays g ns (index_of it) e (entry_index (length ns) f it h.0).0 in
    rw (w.0, w.1, own_index (length ns) f it h.0, entries_stay g ns f its e h.1)

pub peers_stay : (g : ℕ → Bool) (as_of_lem : List (List ℕ) → ℕ) (its : List (List (List ℕ))) → length (kept g (map as_of_lem its)) ≡ length (map as_of_lem its) → kept (λ it. g (as_of_lem it)) its ≡ its
peers_stay g as_of_lem its e =
    let a : length (kept (λ it. g (as_of_lem it)) its) ≡ length (kept g (map as_of_lem its)) = sym (length-map (kept (λ it. g (as_of_lem it)) its) as_of_lem) ∙ ap length (kept_map as_of_lem g its) in
    none_goes (λ it. g (as_of_lem it)) its (a ∙ e ∙ length-map its as_of_lem)

-- ---- the peers that have a new index are those that stay

sieve_from : (as_of_lem : List (List ℕ) → ℕ) (g : ℕ → Bool) (new_indexes : List ℕ) (i : ℕ) (its : List (List (List ℕ)))
    → ((j : ℕ) → j < length its → leb 65535 (get_or new_indexes (i + j) 0) ≡ g (get_or (map as_of_lem its) j 0)) → sieved new_indexes i its ≡ kept (λ it. g (as_of_lem it)) its
sieve_from as_of_lem g new_indexes i [] e = refl
sieve_from as_of_lem g new_indexes i (it ∷ its) e =
    let z : i + 0 ≡ i = omega arith in
    let a : leb 65535 (get_or new_indexes i 0) ≡ g (as_of_lem it) = rw z at (e 0 (omega arith)) in
    rw (a, sieve_from as_of_lem g new_indexes (i + 1) its (λ j k. let s : i + 1 + j ≡ i + suc j = omega arith in rw s (e (suc j) (omega arith))))

ranked_goes : (t : Bool) (r : ℕ) → r < 65535 → leb 65535 (cond t 65535 r) ≡ t
ranked_goes true r h = refl
ranked_goes false r h = lt-leb 65535 r h

pub sieved-kept : (g : ℕ → Bool) (as_of_lem : List (List ℕ) → ℕ) (new_indexes : List ℕ) (its : List (List (List ℕ))) → Ranked g new_indexes (with_peers (map as_of_lem its)) → sieved new_indexes 0 its ≡ kept (λ it. g (as_of_lem it)) its
unfolding Ranked
sieved-kept g as_of_lem new_indexes its r =
    sieve_from as_of_lem g new_indexes 0 its
    (λ j k. let l : j < length (map as_of_lem its) = rw (length-map its as_of_lem) k in
    let z : 0 + j ≡ j = omega arith in
    rw (z, r.2 j l) (ranked_goes (g (get_or (map as_of_lem its) j 0)) (rank g (map as_of_lem its) j) (omega (arith, rank-le g (map as_of_lem its) j, r.0))))
