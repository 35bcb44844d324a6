-- What is accepted is the grammar's, and what is the grammar's is found.
use mathlib.Core.Path.{◌≡◌, refl, sym, ◌∙◌}
use mathlib.Core.List.{List, [], ◌∷◌, ◌++◌, append_assoc}
use Prim.Native.Nat.{ℕ, ◌+◌, ◌-◌, ◌<◌}
use native.Mathlib.Omega.{arith}
use lib.ListN.{length, take, drop}
use lib.Seq.{take_at, drop-append_seam, drop-drop}
use Rattle.form_spec.specs.Octets.{Octets}
use Rattle.form_spec.specs.Fmt.{Out, bad, good, Fmt, read, Fits, join}
use Rattle.form_spec.specs.Body.{read_n, joins, AllFits, Items}
use Rattle.form_laws.proofs.Fmt.{Right, sound, complete}
use Rattle.form_laws.proofs.Body.{sound_n, complete_n}
use Rattle.form_spec.specs.Found.{Accepted, found, Lie, items, Lies, item}

-- n items its, and then rest
pub record Here (f : Fmt) (n : ℕ) (bs : List ℕ) (its : List (List (List ℕ))) (rest : List ℕ) : Type 0 where
  pub fits : AllFits f its
  pub many : length its ≡ n
  pub lie : joins its ++ rest ≡ bs

abbrev pub left : {A : Type 0} → Out A → List ℕ
left (bad n p) = []
left (good a r) = r

abbrev pub left_n : Fmt → ℕ → List ℕ → List ℕ
left_n f n bs = left (read_n f n 0 bs)

pub here_of : (f : Fmt) (n : ℕ) (bs : List ℕ) → Octets bs → Lie f n bs → Here f n bs (items f n bs) (left_n f n bs)
unfolding Lie items
here_of f n bs oc h = go (read_n f n 0 bs) h (sound_n f n 0 bs oc)
  where
    go : (o : Out (List (List (List ℕ)))) → Accepted o → Right (Items f n) joins bs o → Here f n bs (found o) (left o)
    go (good its r) a q = record { fits = q.0.0; many = q.0.1; lie = q.1 }
    go (bad fault place) a q = elim a [ ]

pub lie_of : (f : Fmt) (n : ℕ) (bs : List ℕ) (its : List (List (List ℕ))) (rest : List ℕ) → Here f n bs its rest → Lie f n bs × (items f n bs ≡ its)
unfolding Lie items
lie_of f n bs its rest h = rw (← h.many, ← h.lie, complete_n f 0 its rest h.fits) (tt, refl)

pub fits_of : (f : Fmt) (bs : List ℕ) → Octets bs → Lies f bs → Fits f (item f bs) × (rest : List ℕ) × (join (item f bs) ++ rest ≡ bs)
unfolding Lies item
fits_of f bs oc h = go (read f 0 bs) h (sound f 0 bs oc)
  where
    go : (o : Out (List (List ℕ))) → Accepted o → Right (Fits f) join bs o → Fits f (found o) × (rest : List ℕ) × (join (found o) ++ rest ≡ bs)
    go (good cs r) a q = (q.0, r, q.1)
    go (bad fault place) a q = elim a [ ]

pub of_fits : (f : Fmt) (bs : List ℕ) (it : List (List ℕ)) (rest : List ℕ) → Fits f it → join it ++ rest ≡ bs → Lies f bs × (item f bs ≡ it)
unfolding Lies item
of_fits f bs it rest h e = rw (← e, complete f 0 it rest h) (tt, refl)

-- an item's octets are those that stand there
pub item-octets : (f : Fmt) (bs : List ℕ) → Octets bs → Lies f bs → take (length (join (item f bs))) bs ≡ join (item f bs)
item-octets f bs oc h = go (item f bs) (fits_of f bs oc h).1 (fits_of f bs oc h).2
  where
    go : (it : List (List ℕ)) (rest : List ℕ) → join it ++ rest ≡ bs → take (length (join it)) bs ≡ join it
    go it rest e = rw (← e) (take_at (join it) rest (length (join it)) refl)

-- ---- the first of the items that are left

abbrev pub tail : List (List (List ℕ)) → List (List (List ℕ))
tail [] = []
tail (it ∷ its) = its

-- the first of k items at `at` in m, and the others behind it
pub record Next (f : Fmt) (m : List ℕ) (at k : ℕ) (its : List (List (List ℕ))) (rest : List ℕ) : Type 0 where
  pub lies : Lies f (drop at m)
  pub fit : Fits f (item f (drop at m))
  pub split : its ≡ item f (drop at m) ∷ tail its
  pub on : Here f (k - 1) (drop (at + length (join (item f (drop at m)))) m) (tail its) rest

pub next : (f : Fmt) (m : List ℕ) (at k : ℕ) (its : List (List (List ℕ))) (rest : List ℕ) → Here f k (drop at m) its rest → 0 < k → Next f m at k its rest
next f m at k [] rest h p = absurd (omega (arith, h.many))
next f m at k (it ∷ its) rest h p =
    let e : join it ++ (joins its ++ rest) ≡ drop at m = rw append_assoc at h.lie in
    let q = of_fits f (drop at m) it (joins its ++ rest) h.fits.0 e in
    let d : drop (length (join it)) (drop at m) ≡ joins its ++ rest = rw (← e) (drop-append_seam (join it) (joins its ++ rest)) in
    record {
      lies = q.0;
      fit = rw q.1 h.fits.0;
      split = rw q.1 refl;
      on = rw q.1 (record { fits = h.fits.1; many = omega (arith, h.many); lie = sym d ∙ drop-drop (length (join it)) at m });
    }

pub none_left : (f : Fmt) (bs : List ℕ) (its : List (List (List ℕ))) (rest : List ℕ) → Here f 0 bs its rest → its ≡ []
none_left f bs [] rest h = refl
none_left f bs (it ∷ its) rest h = absurd (omega (arith, h.many))
