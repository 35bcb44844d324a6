-- The laws of a cut: its result is accepted; a cut of a cut is one cut; a cut goes through two dumps one by one; it is never longer.
use mathlib.Core.Path.{◌≡◌, refl, sym, ap, ap₂, ◌∙◌, fun_ext}
use mathlib.Core.Logic.{inl, inr, ⊎_elim}
use mathlib.Core.Bool.{Bool, true, false, not, ◌&&◌, ◌||◌, false≢true}
use mathlib.Core.List.{List, [], ◌∷◌, ◌++◌}
use mathlib.Core.Option.{Option, none, some}
use Prim.Native.Nat.{ℕ, suc, ◌≤◌, ◌<◌, min, max}
use native.Mathlib.Omega.{arith}
use lib.ListN.{length, get_or, length-append}
use lib.Dec.{ltb, leb, eqb}
use borrow.Author.Tests.{ltb-true, lt-ltb, leb-true, le-leb}
use Rattle.form_spec.specs.Fmt.{Fmt, Fits, join, find}
use Rattle.form_spec.specs.Words.{checked}
use Rattle.form_spec.specs.Body.{Body, plain, listed, joins, AllFits, spell, BodyFits, loose}
use Rattle.form_spec.specs.Shape.{Layout, refuse, fields, unread, table, entries, St, no_table, with_peers, plan, after, micros_in, indexed, items_of, front_of, peer_as, as_of, index_of}
use Rattle.form_spec.specs.Record.{Rec, write, Valid, layout_of, next, time_of}
use Rattle.form_spec.specs.Dump.{writes, Valids, Splits, nexts}
use Rattle.form_laws.proofs.Octets.{length-to_be, be-to_be, octets-to_be}
use Rattle.form_laws.proofs.Record.{length-write}
use Rattle.form_laws.proofs.Shape.{entry_index}
use Rattle.form_laws.proofs.Dump.{Shut, Below, after_below, valids_below, valids-append, writes-append, shows}
use Rattle.cut_spec.specs.Keep.{cons_unless, kept, rank}
use Rattle.cut_spec.specs.Cut.{Cut, mem, cutting, numbers, renumber, cut_entries, when, unless_emptied, muted, cut_body, rebody, cut_recs, cut}
use Rattle.cut_laws.proofs.Keep.{kept-length, kept-kept, kept_map, kept_at, rank_lt, rank-le, rank-rank}

-- the table in force after a cut
abbrev pub cut_st : Cut → St → St
cut_st c no_table = no_table
cut_st c (with_peers ns) = with_peers (kept c.gone ns)

cut_below : (c : Cut) (st su : St) → Below st su → Below (cut_st c st) (cut_st c su)
cut_below c no_table su h = inl tt
cut_below c (with_peers ns) su (inr e) = inr (ap (cut_st c) e)
cut_below c (with_peers ns) su (inl x') = elim x' [ ]

-- ---- one record

-- what a cut of a body does: it goes, and left nothing more in force; or it stays, fits the table that is left, is no longer, puts the cut table in
-- force and has its time
pub data CutIs (c : Cut) (st : St) (l : Layout) (b : Body) : Option Body → Type 0 where
  goes : Below (after l b st) st → CutIs c st l b none
  stays : (y : Body) → BodyFits (plan (cut_st c st) l) y → length (spell y) ≤ length (spell b) → after l y (cut_st c st) ≡ cut_st c (after l b st) → micros_in l y ≡ micros_in l b → CutIs c st l b (some y)

-- any other index below the table's count may take an entry's place
entry-renumber : (n m j : ℕ) (g : Fmt) (it : List (List ℕ)) → Fits (indexed n g) it → j < m → j < 65536 → Fits (indexed m g) (renumber j it)
unfolding Fits checked
entry-renumber n m j g (c ∷ cs) h a b = (length-to_be 2 j, octets-to_be 2 j, (rw (be-to_be 2 j b, lt-ltb j m a), h.2.1))
entry-renumber n m j g [] h a b = elim h [ ]

pub renumber-length : (n j : ℕ) (g : Fmt) (it : List (List ℕ)) → Fits (indexed n g) it → length (join (renumber j it)) ≡ length (join it)
unfolding Fits checked
renumber-length n j g (c ∷ cs) h = simp (length-append, length-to_be) (omega (arith, h.0))
renumber-length n j g [] h = elim h [ ]

module _ (g : ℕ → Bool) (ns : List ℕ) (f : Fmt) where
  cut_entries-fit : (its : List (List (List ℕ))) → AllFits (indexed (length ns) f) its → AllFits (indexed (length (kept g ns)) f) (cut_entries g ns its)
  cut_entries-fit [] h = tt
  cut_entries-fit (it ∷ its) h = go (g (get_or ns (index_of it) 0)) refl (cut_entries-fit its h.1)
    where
      go : (t : Bool) → g (get_or ns (index_of it) 0) ≡ t → AllFits (indexed (length (kept g ns)) f) (cut_entries g ns its)
          → AllFits (indexed (length (kept g ns)) f) (cons_unless t (renumber (rank g ns (index_of it)) it) (cut_entries g ns its))
      go true e q = q
      go false e q =
          let k = entry_index (length ns) f it h.0 in
          (entry-renumber (length ns) (length (kept g ns)) (rank g ns (index_of it)) f it h.0 (rank_lt g ns (index_of it) k.0 e) (omega (arith, rank-le g ns (index_of it))), q)

  pub cut_entries_less : (its : List (List (List ℕ))) → AllFits (indexed (length ns) f) its
      → (length (cut_entries g ns its) ≤ length its) × (length (joins (cut_entries g ns its)) ≤ length (joins its))
  cut_entries_less [] h = (omega arith, omega arith)
  cut_entries_less (it ∷ its) h = go (g (get_or ns (index_of it) 0)) (cut_entries_less its h.1)
    where
      go : (t : Bool) → (length (cut_entries g ns its) ≤ length its) × (length (joins (cut_entries g ns its)) ≤ length (joins its))
          → (length (cons_unless t (renumber (rank g ns (index_of it)) it) (cut_entries g ns its)) ≤ suc (length its))
          × (length (joins (cons_unless t (renumber (rank g ns (index_of it)) it) (cut_entries g ns its))) ≤ length (join it ++ joins its))
      go true q = (omega arith, simp length-append (omega arith))
      go false q = (omega arith, simp length-append (omega (arith, renumber-length (length ns) (rank g ns (index_of it)) f it h.0)))

pub all_fits_kept : (p : List (List ℕ) → Bool) (f : Fmt) (its : List (List (List ℕ))) → AllFits f its → AllFits f (kept p its)
all_fits_kept p f [] h = tt
all_fits_kept p f (it ∷ its) h = go (p it) (all_fits_kept p f its h.1)
  where
    go : (t : Bool) → AllFits f (kept p its) → AllFits f (cons_unless t it (kept p its))
    go true q = q
    go false q = (h.0, q)

pub joins-kept : (p : List (List ℕ) → Bool) (its : List (List (List ℕ))) → length (joins (kept p its)) ≤ length (joins its)
joins-kept p [] = omega arith
joins-kept p (it ∷ its) = go (p it) (joins-kept p its)
  where
    go : (t : Bool) → length (joins (kept p its)) ≤ length (joins its) → length (joins (cons_unless t it (kept p its))) ≤ length (join it ++ joins its)
    go true q = simp length-append (omega arith)
    go false q = simp length-append (omega arith)

spell_less : (cs : List (List ℕ)) (its jts : List (List (List ℕ))) → length (joins jts) ≤ length (joins its) → length (spell (listed cs jts)) ≤ length (spell (listed cs its))
unfolding spell
spell_less cs its jts h = simp (length-append, length-to_be) (omega arith)

when_is : (c : Cut) (st : St) (l : Layout) (b : Body) (t : Bool) → Below (after l b st) st → CutIs c st l b (some b) → CutIs c st l b (when t (some b))
when_is c st l b true e h = h
when_is c st l b false e h = goes e

emptied_is : (c : Cut) (ns : List ℕ) (f g : Fmt) (cs : List (List ℕ)) (its jts : List (List (List ℕ))) (t : Bool)
    → BodyFits (plan (cut_st c (with_peers ns)) (entries f g)) (listed cs jts) → length (spell (listed cs jts)) ≤ length (spell (listed cs its))
    → CutIs c (with_peers ns) (entries f g) (listed cs its) (when t (unless_emptied its cs jts))
unfolding after micros_in
emptied_is c ns f g cs its jts false h l = goes (inr refl)
emptied_is c ns f g cs [] jts true h l = stays (listed cs jts) h l refl refl
emptied_is c ns f g cs (x ∷ xs) [] true h l = goes (inr refl)
emptied_is c ns f g cs (x ∷ xs) (y ∷ ys) true h l = stays (listed cs (y ∷ ys)) h l refl refl

cut_is : (c : Cut) (st : St) (l : Layout) (t : ℕ) (b : Body) → BodyFits (plan st l) b → CutIs c st l b (cut_body c (numbers st) l t b)
unfolding cut_body BodyFits plan Fits after micros_in
cut_is c st (refuse n k) t b h = goes (inr refl)
cut_is c st (fields f) t b h = when_is c st (fields f) b (c.inside t && not (muted c.gone (find peer_as f (front_of b)))) (inr refl) (stays b h (omega arith) refl refl)
cut_is c st (unread f) t b h = when_is c st (unread f) b (c.inside t) (inr refl) (stays b h (omega arith) refl refl)
cut_is c st (table f g) t (listed cs its) h =
    let p : List (List ℕ) → Bool = λ it. c.gone (as_of g it) in
    stays (listed cs (kept p its)) (h.0, omega (arith, kept-length p its), all_fits_kept p g its h.2)
    (spell_less cs its (kept p its) (joins-kept p its)) (ap with_peers (kept_map (as_of g) c.gone its)) refl
cut_is c no_table (entries f g) t (plain cs) h = absurd (omega (arith, h.0))
cut_is c (with_peers ns) (entries f g) t (listed cs its) h =
    let k = cut_entries_less c.gone ns g its h.2 in
    emptied_is c ns f g cs its (cut_entries c.gone ns its) (c.inside t)
    (h.0, omega arith, cut_entries-fit c.gone ns g its h.2)
    (spell_less cs its (cut_entries c.gone ns its) k.1)
cut_is c st (table f g) t (plain cs) h = elim h [ ]
cut_is c st (table f g) t (loose _ _) h = elim h [ ]
cut_is c no_table (entries f g) t (loose _ _) h = elim h [ ]
cut_is c no_table (entries f g) t (listed cs its) h = elim h [ ]
cut_is c (with_peers ns) (entries f g) t (plain cs) h = elim h [ ]
cut_is c (with_peers ns) (entries f g) t (loose _ _) h = elim h [ ]

-- ---- a cut of a cut

abbrev pub both : Cut → Cut → Cut
both c d = record { gone = λ n. c.gone n || d.gone n; inside = λ t. c.inside t && d.inside t }

index_renumber : (n j : ℕ) (f : Fmt) (it : List (List ℕ)) → Fits (indexed n f) it → j < 65536 → index_of (renumber j it) ≡ j
unfolding Fits checked
index_renumber n j f (c ∷ cs) h k = be-to_be 2 j k
index_renumber n j f [] h k = elim h [ ]

renumber-renumber : (i j : ℕ) (it : List (List ℕ)) → renumber i (renumber j it) ≡ renumber i it
renumber-renumber i j [] = refl
renumber-renumber i j (c ∷ cs) = refl

module _ (g h : ℕ → Bool) (ns : List ℕ) (f : Fmt) where
  cut_entries_twice : (its : List (List (List ℕ))) → AllFits (indexed (length ns) f) its
      → cut_entries h (kept g ns) (cut_entries g ns its) ≡ cut_entries (λ n. g n || h n) ns its
  cut_entries_twice [] v = refl
  cut_entries_twice (it ∷ its) v = go (g (get_or ns (index_of it) 0)) refl (cut_entries_twice its v.1)
    where
      i : ℕ
      i = index_of it

      go : (t : Bool) → g (get_or ns i 0) ≡ t → cut_entries h (kept g ns) (cut_entries g ns its) ≡ cut_entries (λ n. g n || h n) ns its
          → cut_entries h (kept g ns) (cons_unless t (renumber (rank g ns i) it) (cut_entries g ns its))
          ≡ cons_unless (t || h (get_or ns i 0)) (renumber (rank (λ n. g n || h n) ns i) it) (cut_entries (λ n. g n || h n) ns its)
      go true e q = q
      go false e q =
          let k = entry_index (length ns) f it v.0 in
          let l : rank g ns i < 65536 = omega (arith, rank-le g ns i) in
          rw (index_renumber (length ns) (rank g ns i) f it v.0 l, kept_at g ns i k.0 e, renumber-renumber, rank-rank g h ns i, q)

abbrev pub bind_body : Option Body → (Body → Option Body) → Option Body
bind_body none k = none
bind_body (some b) k = k b

muted_both : (g h : ℕ → Bool) (a : Option (List ℕ)) → muted (λ n. g n || h n) a ≡ (muted g a || muted h a)
muted_both g h none = refl
muted_both g h (some c) = refl

when-when : (i j m : Bool) (n : Body → Bool) (b : Body) → bind_body (when (i && not m) (some b)) (λ y. when (j && not (n y)) (some y)) ≡ when ((i && j) && not (m || n b)) (some b)
when-when false j m n b = refl
when-when true false true n b = refl
when-when true false false n b = refl
when-when true true true n b = refl
when-when true true false n b = refl

when-bind : (i j : Bool) (o : Option Body) (k : Body → Option Body) → bind_body (when i o) (λ y. when j (k y)) ≡ when (i && j) (bind_body o k)
when-bind false j o k = refl
when-bind true j none k = when_none j
  where
    when_none : (j : Bool) → none ≡ when j none
    when_none true = refl
    when_none false = refl
when-bind true j (some b) k = refl

emptied_same : (x y : List (List ℕ)) (xs ys zs : List (List (List ℕ))) (cs : List (List ℕ)) → unless_emptied (y ∷ ys) cs zs ≡ unless_emptied (x ∷ xs) cs zs
emptied_same x y xs ys [] cs = refl
emptied_same x y xs ys (z ∷ zs) cs = refl

emptied_twice : (h : ℕ → Bool) (ks : List ℕ) (x : List (List ℕ)) (xs its : List (List (List ℕ))) (cs : List (List ℕ))
    → bind_body (unless_emptied (x ∷ xs) cs its) (λ b. unless_emptied (items_of b) (front_of b) (cut_entries h ks (items_of b))) ≡ unless_emptied (x ∷ xs) cs (cut_entries h ks its)
emptied_twice h ks x xs [] cs = refl
emptied_twice h ks x xs (y ∷ ys) cs = emptied_same x y xs ys (cut_entries h ks (y ∷ ys)) cs

twice_body : (c d : Cut) (st : St) (l : Layout) (t : ℕ) (b : Body) → BodyFits (plan st l) b
    → bind_body (cut_body c (numbers st) l t b) (cut_body d (numbers (cut_st c st)) l t) ≡ cut_body (both c d) (numbers st) l t b
unfolding cut_body BodyFits plan Fits
twice_body c d st (refuse n k) t b h = refl
twice_body c d st (fields f) t b h = rw (muted_both c.gone d.gone (find peer_as f (front_of b))) (when-when (c.inside t) (d.inside t) (muted c.gone (find peer_as f (front_of b))) (λ y. muted d.gone (find peer_as f (front_of y))) b)
twice_body c d st (unread f) t b h = when-bind (c.inside t) (d.inside t) (some b) some
twice_body c d st (table f g) t (listed cs its) h = ap (λ (x : List (List (List ℕ))). some (listed cs x)) (kept-kept (λ it. c.gone (as_of g it)) (λ it. d.gone (as_of g it)) its)
twice_body c d no_table (entries f g) t (plain cs) h = absurd (omega (arith, h.0))
twice_body c d (with_peers ns) (entries f g) t (listed cs []) h = when-bind (c.inside t) (d.inside t) (some (listed cs [])) (λ y. unless_emptied (items_of y) (front_of y) (cut_entries d.gone (kept c.gone ns) (items_of y)))
twice_body c d (with_peers ns) (entries f g) t (listed cs (x ∷ xs)) h =
    when-bind (c.inside t) (d.inside t) (unless_emptied (x ∷ xs) cs (cut_entries c.gone ns (x ∷ xs))) (λ y. unless_emptied (items_of y) (front_of y) (cut_entries d.gone (kept c.gone ns) (items_of y)))
    ∙ ap (when (c.inside t && d.inside t))
    (emptied_twice d.gone (kept c.gone ns) x xs (cut_entries c.gone ns (x ∷ xs)) cs
    ∙ ap (unless_emptied (x ∷ xs) cs) (cut_entries_twice c.gone d.gone ns g (x ∷ xs) h.2))
twice_body c d st (table f g) t (plain cs) h = elim h [ ]
twice_body c d st (table f g) t (loose _ _) h = elim h [ ]
twice_body c d no_table (entries f g) t (loose _ _) h = elim h [ ]
twice_body c d no_table (entries f g) t (listed cs its) h = elim h [ ]
twice_body c d (with_peers ns) (entries f g) t (plain cs) h = elim h [ ]
twice_body c d (with_peers ns) (entries f g) t (loose _ _) h = elim h [ ]

body_shut : (c : Cut) (st : St) (ns : List ℕ) (l : Layout) (t : ℕ) (b : Body) → Shut st → BodyFits (plan st l) b → cut_body c (numbers st) l t b ≡ cut_body c ns l t b
unfolding cut_body BodyFits plan Fits
body_shut c no_table ns (refuse n k) t b z h = refl
body_shut c no_table ns (fields f) t b z h = refl
body_shut c no_table ns (unread f) t b z h = refl
body_shut c no_table ns (table f g) t b z h = refl
body_shut c no_table ns (entries f g) t (plain cs) z h = absurd (omega (arith, h.0))
body_shut c no_table ns (entries f g) t (loose _ _) z h = elim h [ ]
body_shut c no_table ns (entries f g) t (listed _ _) z h = elim h [ ]
body_shut c (with_peers _) ns l t b z h = elim z [ ]

rebody_same : (r : Rec) (y : Body) (o : Option Body) (rs : List Rec) → rebody (record { stamp = r.stamp; type = r.type; sub = r.sub; body = y }) o rs ≡ rebody r o rs
rebody_same r y none rs = refl
rebody_same r y (some b) rs = refl

rebody-append : (r : Rec) (o : Option Body) (rs qs : List Rec) → rebody r o (rs ++ qs) ≡ rebody r o rs ++ qs
rebody-append r none rs qs = refl
rebody-append r (some b) rs qs = refl

less_rebody : (c : Cut) (st : St) (l : Layout) (r : Rec) (qs rs : List Rec) (o : Option Body) → CutIs c st l r.body o
    → length (writes qs) ≤ length (writes rs) → length (writes (rebody r o qs)) ≤ length (write r ++ writes rs)
less_rebody c st l r qs rs o (goes e) q = simp length-append (omega arith)
less_rebody c st l r qs rs o (stays y f k e z) q = simp (length-append, length-write) (omega arith)

-- ---- a window and a list

pub mem-append : (n : ℕ) (ms ks : List ℕ) → mem n (ms ++ ks) ≡ (mem n ms || mem n ks)
mem-append n [] ks = refl
mem-append n (m ∷ ms) ks = go (eqb n m) (mem-append n ms ks)
  where
    go : (t : Bool) → mem n (ms ++ ks) ≡ (mem n ms || mem n ks) → (t || mem n (ms ++ ks)) ≡ (t || mem n ms || mem n ks)
    go true e = refl
    go false e = e

-- two tests that hold in the same cases
same_test : (a b : Bool) → (a ≡ true → b ≡ true) → (b ≡ true → a ≡ true) → a ≡ b
same_test true b f g = sym (f refl)
same_test false true f g = g refl
same_test false false f g = refl

both_true : (a b : Bool) → (a && b) ≡ true → (a ≡ true) × (b ≡ true)
both_true true b e = (refl, e)
both_true false b e = absurd (false≢true e)

-- a window, as a test and as an order
in_window : (f t x : ℕ) → (leb f x && ltb x t) ≡ true → (f ≤ x) × (x < t)
in_window f t x e = (leb-true _ _ (both_true _ _ e).0, ltb-true _ _ (both_true (leb f x) _ e).1)

window_in : (f t x : ℕ) → f ≤ x → x < t → (leb f x && ltb x t) ≡ true
window_in f t x a b = rw (le-leb f x a, lt-ltb x t b)

window : (f t g u x : ℕ) → ((leb f x && ltb x t) && (leb g x && ltb x u)) ≡ (leb (max f g) x && ltb x (max (max f g) (min t u)))
window f t g u x =
    same_test _ _
    (λ e.
    let p = in_window f t x (both_true (leb f x && ltb x t) _ e).0 in
    let q = in_window g u x (both_true (leb f x && ltb x t) _ e).1 in
    window_in (max f g) (max (max f g) (min t u)) x (omega arith) (omega arith))
    (λ e.
    let p = in_window (max f g) (max (max f g) (min t u)) x e in
    rw (window_in f t x (omega arith) (omega arith), window_in g u x (omega arith) (omega arith)))

pub cutting_both : (f t g u : ℕ) (ms ks : List ℕ) → both (cutting f t ms) (cutting g u ks) ≡ cutting (max f g) (max (max f g) (min t u)) (ms ++ ks)
cutting_both f t g u ms ks =
    ap₂ (λ (a b : ℕ → Bool). record { gone = a; inside = b }) (fun_ext (λ n. sym (mem-append n ms ks))) (fun_ext (λ x. window f t g u x))

module _ (layout : ℕ → ℕ → Layout) where
  -- ---- records

  is : (c : Cut) (st : St) (r : Rec) → Valid layout st r → CutIs c st (layout_of layout r) r.body (cut_body c (numbers st) (layout_of layout r) (time_of layout r) r.body)
  is c st r v = cut_is c st (layout_of layout r) (time_of layout r) r.body v.fits

  -- where fewer records may stand they are cut alike
  recs_below : (c : Cut) (st su : St) (rs : List Rec) → Below st su → Valids layout st rs → cut_recs layout c st rs ≡ cut_recs layout c su rs
  unfolding next
  recs_below c st su [] h v = refl
  recs_below c st su (r ∷ rs) h v =
      ap₂ (rebody r)
      (⊎_elim (λ z. body_shut c st (numbers su) (layout_of layout r) (time_of layout r) r.body z v.0.fits)
      (λ e. ap (λ (s : St). cut_body c (numbers s) (layout_of layout r) (time_of layout r) r.body) e) h)
      (recs_below c (next layout r st) (next layout r su) rs (after_below (layout_of layout r) r.body st su h) v.1)

  valid-rebody : (c : Cut) (st : St) (r : Rec) (qs : List Rec) → Valid layout st r → (o : Option Body) → CutIs c st (layout_of layout r) r.body o
      → Valids layout (cut_st c (next layout r st)) qs → Valids layout (cut_st c st) (rebody r o qs)
  unfolding next
  valid-rebody c st r qs v o (goes e) q = valids_below layout (cut_st c (next layout r st)) (cut_st c st) qs (cut_below c (next layout r st) st e) q
  valid-rebody c st r qs v o (stays y f l e z) q =
      (record { stamp = v.stamp; type = v.type; sub = v.sub; size = omega (arith, v.size); fits = f }, rw e q)

  pub cut-valid : (c : Cut) (st : St) (rs : List Rec) → Valids layout st rs → Valids layout (cut_st c st) (cut_recs layout c st rs)
  cut-valid c st [] v = tt
  cut-valid c st (r ∷ rs) v = valid-rebody c st r (cut_recs layout c (next layout r st) rs) v.0 _ (is c st r v.0) (cut-valid c (next layout r st) rs v.1)

  rebody_twice : (c d : Cut) (st : St) (r : Rec) (qs ts : List Rec) (o : Option Body) → CutIs c st (layout_of layout r) r.body o
      → Valids layout (cut_st c (next layout r st)) qs → cut_recs layout d (cut_st c (next layout r st)) qs ≡ ts
      → cut_recs layout d (cut_st c st) (rebody r o qs) ≡ rebody r (bind_body o (cut_body d (numbers (cut_st c st)) (layout_of layout r) (time_of layout r))) ts
  unfolding next time_of
  rebody_twice c d st r qs ts o (goes e) v q = sym (recs_below d (cut_st c (next layout r st)) (cut_st c st) qs (cut_below c (next layout r st) st e) v) ∙ q
  rebody_twice c d st r qs ts o (stays y f l e z) v q = rw (z, e, q) (rebody_same r y (cut_body d (numbers (cut_st c st)) (layout_of layout r) (time_of layout r) y) ts)

  pub cut_twice : (c d : Cut) (st : St) (rs : List Rec) → Valids layout st rs → cut_recs layout d (cut_st c st) (cut_recs layout c st rs) ≡ cut_recs layout (both c d) st rs
  cut_twice c d st [] v = refl
  cut_twice c d st (r ∷ rs) v =
      rebody_twice c d st r (cut_recs layout c (next layout r st) rs) (cut_recs layout (both c d) (next layout r st) rs) _ (is c st r v.0)
      (cut-valid c (next layout r st) rs v.1) (cut_twice c d (next layout r st) rs v.1)
      ∙ ap (λ (o : Option Body). rebody r o (cut_recs layout (both c d) (next layout r st) rs)) (twice_body c d st (layout_of layout r) (time_of layout r) r.body v.0.fits)

  pub cut-append : (c : Cut) (st : St) (rs qs : List Rec) → cut_recs layout c st (rs ++ qs) ≡ cut_recs layout c st rs ++ cut_recs layout c (nexts layout rs st) qs
  cut-append c st [] qs = refl
  cut-append c st (r ∷ rs) qs =
      rw (cut-append c (next layout r st) rs qs)
      (rebody-append r (cut_body c (numbers st) (layout_of layout r) (time_of layout r) r.body) (cut_recs layout c (next layout r st) rs) (cut_recs layout c (nexts layout rs (next layout r st)) qs))

  pub less_recs : (c : Cut) (st : St) (rs : List Rec) → Valids layout st rs → length (writes (cut_recs layout c st rs)) ≤ length (writes rs)
  less_recs c st [] v = omega arith
  less_recs c st (r ∷ rs) v =
      less_rebody c st (layout_of layout r) r (cut_recs layout c (next layout r st) rs) rs _ (is c st r v.0) (less_recs c (next layout r st) rs v.1)

  -- ---- the laws, of dumps

  pub cut_of : (c : Cut) (rs : List Rec) → Valids layout no_table rs → cut layout c (writes rs) ≡ writes (cut_recs layout c no_table rs)
  unfolding cut
  cut_of c rs v = rw (shows layout (writes rs) rs v refl)

  pub cut-splits : (c : Cut) (d : List ℕ) → Splits layout d → Splits layout (cut layout c d)
  cut-splits c d s = (cut_recs layout c no_table s.0, cut-valid c no_table s.0 s.1, sym (cut_of c s.0 s.1) ∙ rw s.2)

  pub cut-cut : (c e : Cut) (d : List ℕ) → Splits layout d → cut layout e (cut layout c d) ≡ cut layout (both c e) d
  cut-cut c e d s =
      rw (← s.2, cut_of c s.0 s.1, cut_of e (cut_recs layout c no_table s.0) (cut-valid c no_table s.0 s.1), cut_of (both c e) s.0 s.1, cut_twice c e no_table s.0 s.1)

  both_recs : (c : Cut) (rs qs : List Rec) → Valids layout no_table rs → Valids layout no_table qs → cut layout c (writes rs ++ writes qs) ≡ cut layout c (writes rs) ++ cut layout c (writes qs)
  both_recs c rs qs v w =
      rw (
        ← (writes-append rs qs),
        cut_of c (rs ++ qs) (valids-append layout no_table rs qs v (valids_below layout no_table (nexts layout rs no_table) qs (inl tt) w)),
        cut_of c rs v,
        cut_of c qs w,
        cut-append c no_table rs qs,
        ← (recs_below c no_table (nexts layout rs no_table) qs (inl tt) w),
        writes-append,
      )

  pub cut_both : (c : Cut) (a b : List ℕ) → Splits layout a → Splits layout b → cut layout c (a ++ b) ≡ cut layout c a ++ cut layout c b
  cut_both c a b s t = rw (s.2, t.2) at (both_recs c s.0 t.0 s.1 t.1)

  pub cut_less : (c : Cut) (d : List ℕ) → Splits layout d → length (cut layout c d) ≤ length d
  cut_less c d s = rw (← s.2, cut_of c s.0 s.1) (less_recs c no_table s.0 s.1)

  -- demand 3: a cut of a cut is the cut with the overlap of the windows and the joined lists
  pub cut_again : (f t g u : ℕ) (ms ks d : List ℕ) → Splits layout d
      → cut layout (cutting g u ks) (cut layout (cutting f t ms) d) ≡ cut layout (cutting (max f g) (max (max f g) (min t u)) (ms ++ ks)) d
  cut_again f t g u ms ks d s = cut-cut (cutting f t ms) (cutting g u ks) d s ∙ ap (λ (c : Cut). cut layout c d) (cutting_both f t g u ms ks)
