-- The laws of going through a format: one after another, and against its reading.
use mathlib.Core.Path.{◌≡◌, refl, ap, ◌∙◌}
use mathlib.Core.Bool.{Bool, true, false, cond}
use mathlib.Core.List.{List, [], ◌∷◌, ◌++◌}
use Prim.Native.Nat.{ℕ, zero, suc, ◌+◌, ◌-◌, ◌≤◌, ◌<◌}
use native.Mathlib.Omega.{arith}
use native.Mathlib.Nat.{add_assoc}
use lib.ListN.{length, take, drop, length-drop, length-append}
use lib.Seq.{drop-drop, length-take-le}
use lib.Dec.{ltb, eqb}
use borrow.Author.Tests.{ltb-true, ltb-false, lt-ltb, le-ltb}
use Rattle.form_spec.specs.Octets.{be}
use Rattle.form_spec.specs.Fmt.{Out, bad, good, bind, Fmt, end, test, field, read, Fits, join, over_at}
use Rattle.form_laws.proofs.Fmt.{complete}
use Rattle.form_spec.specs.Pass.{Seen, note, place_of, size_of, pass, ◌⨾◌, after_of}

-- the fields of a format that were read from offset i on
unfoldable pub seen : Fmt → ℕ → List (List ℕ) → List Seen
seen (end b) i cs = []
seen (test n b f) i cs = seen f i cs
seen (field x l b k) i [] = []
seen (field x l b k) i (c ∷ cs) = note x i (length c) (i + length c) (be c) (seen (k c) (i + length c) cs)

-- the first field of a format, which has one, has octets
unfoldable pub Opens : Fmt → Type 0
Opens (end b) = ⊥
Opens (test n b f) = ⊥
Opens (field x zero b k) = ⊥
Opens (field x (suc l) b k) = Unit

module _ {A : Type 0} where
  unfoldable pub outcome : (List Seen → ℕ → ℕ → A) → (ℕ → ℕ → A) → Fmt → ℕ → Out (List (List ℕ)) → A
  outcome to fault f i (bad n p) = fault n p
  outcome to fault f i (good cs r) = to (seen f i cs) (i + length (join cs)) (i + length (join cs) - over_at f cs)

  outcome_keep : (to : List Seen → ℕ → ℕ → A) (fault : ℕ → ℕ → A) (x b i l : ℕ) (k : List ℕ → Fmt) (c : List ℕ) (o : Out (List (List ℕ))) → length c ≡ l
      → outcome (λ fs. to (note x i l (i + l) (be c) fs)) fault (k c) (i + l) o ≡ outcome to fault (field x l b k) i (bind o (λ cs r. good (c ∷ cs) r))
  unfolding outcome seen over_at
  outcome_keep to fault x b i l k c (bad n p) e = refl
  outcome_keep to fault x b i l k c (good cs r) e = rw (e, length-append, e, add_assoc)

  outcome_test : (to : List Seen → ℕ → ℕ → A) (fault : ℕ → ℕ → A) (n b i : ℕ) (f : Fmt) (o : Out (List (List ℕ))) → outcome to fault f i o ≡ outcome to fault (test n b f) i o
  unfolding outcome seen over_at
  outcome_test to fault n b i f (bad x p) = refl
  outcome_test to fault n b i f (good cs r) = refl

  -- a function's contract by `pass` speaks of `read`, fields, places and all
  pub pass-read : (to : List Seen → ℕ → ℕ → A) (fault : ℕ → ℕ → A) (f : Fmt) (m : List ℕ) (i : ℕ) → i ≤ length m → pass to fault f m i ≡ outcome to fault f i (read f i (drop i m))
  unfolding pass read outcome seen over_at
  pass-read to fault (end b) m i h = let e : i + 0 ≡ i = omega arith in rw e
  pass-read to fault (test zero b f) m i h = pass-read to fault f m i h ∙ outcome_test to fault zero b i f (read f i (drop i m))
  pass-read to fault (test (suc n) b f) m i h = refl
  pass-read to fault (field x l b k) m i h =
      go (ltb (length m) (i + l)) refl (λ g. pass-read (λ fs. to (note x i l (i + l) (be (take l (drop i m))) fs)) fault (k (take l (drop i m))) m (i + l) g)
    where
      go : (t : Bool) → ltb (length m) (i + l) ≡ t
          → (i + l ≤ length m → pass (λ fs. to (note x i l (i + l) (be (take l (drop i m))) fs)) fault (k (take l (drop i m))) m (i + l)
          ≡ outcome (λ fs. to (note x i l (i + l) (be (take l (drop i m))) fs)) fault (k (take l (drop i m))) (i + l) (read (k (take l (drop i m))) (i + l) (drop (i + l) m)))
          → cond t (fault 5 (i - b)) (pass (λ fs. to (note x i l (i + l) (be (take l (drop i m))) fs)) fault (k (take l (drop i m))) m (i + l)) ≡ outcome to fault (field x l b k) i (read (field x l b k) i (drop i m))
      go true e r =
          let g : length (drop i m) < l = rw length-drop (omega (arith, ltb-true (length m) (i + l) e)) in
          rw (lt-ltb _ _ g)
      go false e r =
          let s : i + l ≤ length m = ltb-false _ _ e in
          let g : l ≤ length (drop i m) = rw length-drop (omega arith) in
          rw (le-ltb _ _ g, drop-drop) (r s ∙ outcome_keep to fault x b i l k (take l (drop i m)) (read (k (take l (drop i m))) (i + l) (drop (i + l) m)) (length-take-le l (drop i m) g))

  -- past the end of m too, where a first field must have octets
  pub pass_opens : (to : List Seen → ℕ → ℕ → A) (fault : ℕ → ℕ → A) (f : Fmt) (m : List ℕ) (i : ℕ) → Opens f → pass to fault f m i ≡ outcome to fault f i (read f i (drop i m))
  unfolding pass read outcome Opens
  pass_opens to fault (field x (suc l) b k) m i o = go (ltb (length m) i) refl
    where
      go : (t : Bool) → ltb (length m) i ≡ t → pass to fault (field x (suc l) b k) m i ≡ outcome to fault (field x (suc l) b k) i (read (field x (suc l) b k) i (drop i m))
      go true e =
          let h : length m < i = ltb-true (length m) i e in
          let p : length m < i + suc l = omega arith in
          let q : length (drop i m) < suc l = rw length-drop (omega arith) in
          rw (lt-ltb _ _ p, lt-ltb _ _ q)
      go false e = pass-read to fault (field x (suc l) b k) m i (ltb-false (length m) i e)
  pass_opens to fault (end back) m i o = elim o [ ]
  pass_opens to fault (test _ back _) m i o = elim o [ ]
  pass_opens to fault (field x zero b k) m i o = elim o [ ]

  -- where the fields of the format stand, there is no fault
  pub pass_fits : (to : List Seen → ℕ → ℕ → A) (fault : ℕ → ℕ → A) (f : Fmt) (m : List ℕ) (i : ℕ) (cs : List (List ℕ)) (r : List ℕ) → i ≤ length m → Fits f cs → join cs ++ r ≡ drop i m
      → pass to fault f m i ≡ to (seen f i cs) (i + length (join cs)) (i + length (join cs) - over_at f cs)
  unfolding outcome
  pass_fits to fault f m i cs r h fit e =
      let o : read f i (drop i m) ≡ good cs r = rw (← e) (complete f i cs r fit) in
      pass-read to fault f m i h ∙ ap (outcome to fault f i) o

  -- one format after another
  pub pass_then : (to : List Seen → ℕ → ℕ → A) (fault : ℕ → ℕ → A) (f g : Fmt) (m : List ℕ) (i : ℕ)
      → pass to fault (f ⨾ g) m i ≡ pass (λ fs a p. pass (λ gs. to (fs ++ gs)) fault g m a) fault f m i
  unfolding pass ◌⨾◌
  pass_then to fault (end b) g m i = refl
  pass_then to fault (test zero b f) g m i = pass_then to fault f g m i
  pass_then to fault (test (suc n) b f) g m i = refl
  pass_then to fault (field zero l b k) g m i = ap (cond (ltb (length m) (i + l)) (fault 5 (i - b))) (pass_then to fault (k (take l (drop i m))) g m (i + l))
  pass_then to fault (field (suc x) l b k) g m i =
      ap (cond (ltb (length m) (i + l)) (fault 5 (i - b))) (pass_then (λ fs. to (note (suc x) i l (i + l) (be (take l (drop i m))) fs)) fault (k (take l (drop i m))) g m (i + l))

-- a function of the answer goes inside
pub pass-map : {A B : Type 0} (h : A → B) (to : List Seen → ℕ → ℕ → A) (fault : ℕ → ℕ → A) (f : Fmt) (m : List ℕ) (i : ℕ)
    → h (pass to fault f m i) ≡ pass (λ fs a p. h (to fs a p)) (λ n p. h (fault n p)) f m i
unfolding pass
pass-map h to fault (end b) m i = refl
pass-map h to fault (test zero b f) m i = pass-map h to fault f m i
pass-map h to fault (test (suc n) b f) m i = refl
pass-map {A} {B} h to fault (field x l b k) m i = go (ltb (length m) (i + l)) (pass-map h (λ fs. to (note x i l (i + l) (be (take l (drop i m))) fs)) fault (k (take l (drop i m))) m (i + l))
  where
    go : (t : Bool) {u : A} {v : B} → h u ≡ v → h (cond t (fault 5 (i - b)) u) ≡ cond t (h (fault 5 (i - b))) v
    go true e = refl
    go false e = e

-- ---- the fields that are shown lie in m

abbrev pub AllIn : List ℕ → List Seen → Type 0
AllIn m [] = Unit
AllIn m (f ∷ fs) = (f.place + f.size ≤ length m) × (f.after ≤ length m) × AllIn m fs

note_in : (m : List ℕ) (x i l v : ℕ) (fs : List Seen) → i + l ≤ length m → AllIn m fs → AllIn m (note x i l (i + l) v fs)
note_in m zero i l v fs h o = o
note_in m (suc x) i l v fs h o = (h, h, o)

pub pass_in : {A : Type 0} (P : A → Type 0) (to : List Seen → ℕ → ℕ → A) (fault : ℕ → ℕ → A) (f : Fmt) (m : List ℕ) (i : ℕ)
    → ((fs : List Seen) (a p : ℕ) → AllIn m fs → P (to fs a p)) → ((n p : ℕ) → P (fault n p)) → P (pass to fault f m i)
unfolding pass
pass_in P to fault (end b) m i h g = h [] i (i - b) tt
pass_in P to fault (test zero b f) m i h g = pass_in P to fault f m i h g
pass_in P to fault (test (suc n) b f) m i h g = g (suc n) (i - b)
pass_in {A} P to fault (field x l b k) m i h g =
    go (ltb (length m) (i + l)) refl
    (λ o. pass_in P (λ fs. to (note x i l (i + l) (be (take l (drop i m))) fs)) fault (k (take l (drop i m))) m (i + l)
    (λ fs a p q. h (note x i l (i + l) (be (take l (drop i m))) fs) a p (note_in m x i l (be (take l (drop i m))) fs o q)) g)
  where
    go : (t : Bool) → ltb (length m) (i + l) ≡ t → {u : A} → (i + l ≤ length m → P u) → P (cond t (fault 5 (i - b)) u)
    go true e r = g 5 (i - b)
    go false e r = r (ltb-false (length m) (i + l) e)

pub lies_in : (x : ℕ) (m : List ℕ) (fs : List Seen) → AllIn m fs → place_of x fs + size_of x fs ≤ length m
lies_in x m [] o = omega arith
lies_in x m (f ∷ fs) o = go (eqb x f.name) (lies_in x m fs o.2)
  where
    go : (t : Bool) → place_of x fs + size_of x fs ≤ length m → cond t f.place (place_of x fs) + cond t f.size (size_of x fs) ≤ length m
    go true r = o.0
    go false r = r

pub ends_in : (x : ℕ) (m : List ℕ) (fs : List Seen) → AllIn m fs → after_of x fs ≤ length m
ends_in x m [] o = omega arith
ends_in x m (f ∷ fs) o = go (eqb x f.name) (ends_in x m fs o.2)
  where
    go : (t : Bool) → after_of x fs ≤ length m → cond t f.after (after_of x fs) ≤ length m
    go true r = o.1
    go false r = r
