-- The walk accepts exactly what splits into whole records; it goes on record by record; two accepted dumps make one.
use mathlib.Core.Path.{◌≡◌, refl, sym, ap, ◌∙◌, subst}
use mathlib.Core.Logic.{◌↔◌, ◌⊎◌, inl, inr, ⊎_elim}
use mathlib.Core.List.{List, [], ◌∷◌, ◌++◌, append_assoc}
use Prim.Native.Nat.{ℕ, zero, suc, ◌+◌, ◌≤◌, ◌<◌}
use native.Mathlib.Omega.{arith}
use native.Mathlib.Nat.{add-zero, zero-add}
use lib.ListN.{length, drop, length-append, length-drop}
use lib.Seq.{drop-length, drop_at, drop-drop}
use Rattle.form_spec.specs.Octets.{Octets}
use Rattle.form_spec.specs.Fmt.{Out, bad, good, Fits}
use Rattle.form_spec.specs.Body.{Body, plain, BodyFits, loose, listed}
use Rattle.form_spec.specs.Shape.{Layout, refuse, fields, unread, table, entries, St, no_table, with_peers, plan, after}
use Rattle.form_spec.specs.Record.{Rec, write, size, read_rec, Valid, layout_of, next}
use Rattle.form_spec.specs.Dump.{Walk, stop, before, step, writes, walk, walk_from, walk_all, Valids, Splits, nexts}
use Rattle.form_laws.proofs.Octets.{octets_right, octets-drop}
use Rattle.form_laws.proofs.Fmt.{Right}
use Rattle.form_laws.proofs.Record.{sound_rec, complete_rec, length-write}

abbrev pub done : ℕ → List Rec → Walk
done p rs = record { fault = 0; place = p; recs = rs }

-- what is left after a record is shorter
shorter : (r : Rec) (q d : List ℕ) → write r ++ q ≡ d → length q < length d
shorter r q d e = rw (← e, length-append, length-write) (omega arith)

pub writes-append : (rs qs : List Rec) → writes (rs ++ qs) ≡ writes rs ++ writes qs
writes-append [] qs = refl
writes-append (r ∷ rs) qs = rw (writes-append rs qs, append_assoc)

-- ---- no record of a table's entries may stand in such a state, and so what may stand there may stand anywhere

abbrev pub Shut : St → Type 0
Shut no_table = Unit
Shut (with_peers ns) = ⊥

abbrev pub Below : St → St → Type 0
Below st su = Shut st ⊎ (st ≡ su)

fits_shut : (st su : St) (l : Layout) (b : Body) → Shut st → BodyFits (plan st l) b → BodyFits (plan su l) b
unfolding plan BodyFits Fits
fits_shut no_table su (refuse n k) b z h = h
fits_shut no_table su (fields f) b z h = h
fits_shut no_table su (unread f) b z h = h
fits_shut no_table su (table f g) b z h = h
fits_shut no_table su (entries f g) (plain cs) z h = absurd (omega (arith, h.0))
fits_shut no_table su (entries f g) (loose _ _) z h = elim h [ ]
fits_shut no_table su (entries f g) (listed _ _) z h = elim h [ ]
fits_shut (with_peers _) su l b z h = elim z [ ]

pub after_below : (l : Layout) (b : Body) (st su : St) → Below st su → Below (after l b st) (after l b su)
unfolding after
after_below (refuse n k) b st su h = h
after_below (fields f) b st su h = h
after_below (unread f) b st su h = h
after_below (table f g) b st su h = inr refl
after_below (entries f g) b st su h = h

module _ (layout : ℕ → ℕ → Layout) where
  walk_step : (n : ℕ) (st : St) (at : ℕ) (d : List ℕ) → 0 < length d → walk layout (suc n) st at d ≡ step (λ r q. walk layout n (next layout r st) (at + size r) q) (read_rec layout st at d)
  unfolding walk
  walk_step n st at [] h = absurd (omega arith)
  walk_step n st at (x ∷ xs) h = refl

  pub complete_walk : (n : ℕ) (st : St) (at : ℕ) (rs : List Rec) → Valids layout st rs → length (writes rs) ≤ n
      → walk layout n st at (writes rs) ≡ done (at + length (writes rs)) rs
  unfolding walk
  complete_walk zero st at [] v h = rw add-zero
  complete_walk (suc n) st at [] v h = rw add-zero
  complete_walk zero st at (r ∷ rs) v h = absurd (omega (arith, length-append (write r) (writes rs), length-write r))
  complete_walk (suc n) st at (r ∷ rs) v h =
      let l : length (write r ++ writes rs) ≡ size r + length (writes rs) = length-append (write r) (writes rs) ∙ rw length-write in
      let p : at + size r + length (writes rs) ≡ at + length (write r ++ writes rs) = omega arith in
      rw (walk_step n st at (write r ++ writes rs) (omega arith), complete_rec layout st at r (writes rs) v.0, complete_walk n (next layout r st) (at + size r) rs v.1 (omega arith))
      (ap (λ (q : ℕ). done q (r ∷ rs)) p)

  -- what is right of a walk layout over d
  pub record RightWalk (st : St) (at : ℕ) (d : List ℕ) (w : Walk) : Type 0 where
    pub accepted : w.fault ≡ 0 → Valids layout st w.recs × (writes w.recs ≡ d) × (w.place ≡ at + length d)

  right_step : (k : Rec → List ℕ → Walk) (st : St) (at : ℕ) (d : List ℕ) (o : Out Rec) → Right (Valid layout st) write d o
      → ((r : Rec) (q : List ℕ) → write r ++ q ≡ d → RightWalk (next layout r st) (at + size r) q (k r q)) → RightWalk st at d (step k o)
  right_step k st at d (bad n p) h ih = record { accepted = λ z. absurd (h z) }
  right_step k st at d (good r q) h ih =
      record {
        accepted = λ z.
            let w = (ih r q h.1).accepted z in
            let l : length d ≡ size r + length q = rw (← h.1, length-append, length-write) in
            ((h.0, w.0), rw w.1 h.1, omega arith);
      }

  pub sound-walk : (n : ℕ) (st : St) (at : ℕ) (d : List ℕ) → Octets d → length d ≤ n → RightWalk st at d (walk layout n st at d)
  unfolding walk
  sound-walk zero st at [] oc h = record { accepted = λ z. (tt, refl, omega arith) }
  sound-walk zero st at (x ∷ xs) oc h = absurd (omega arith)
  sound-walk (suc n) st at [] oc h = record { accepted = λ z. (tt, refl, omega arith) }
  sound-walk (suc n) st at (x ∷ xs) oc h =
      right_step (λ r q. walk layout n (next layout r st) (at + size r) q) st at (x ∷ xs) (read_rec layout st at (x ∷ xs)) (sound_rec layout st at (x ∷ xs) oc)
      (λ r q e. sound-walk n (next layout r st) (at + size r) q (octets_right (write r) q (subst Octets (sym e) oc)) (omega (arith, shorter r q (x ∷ xs) e)))

  -- the fuel does not matter
  step_same : (j k : Rec → List ℕ → Walk) (st : St) (at : ℕ) (d : List ℕ) (o : Out Rec) → Right (Valid layout st) write d o
      → ((r : Rec) (q : List ℕ) → write r ++ q ≡ d → j r q ≡ k r q) → step j o ≡ step k o
  step_same j k st at d (bad n p) h e = refl
  step_same j k st at d (good r q) h e = ap (before r) (e r q h.1)

  pub walk_fuel : (n m : ℕ) (st : St) (at : ℕ) (d : List ℕ) → Octets d → length d ≤ n → length d ≤ m → walk layout n st at d ≡ walk layout m st at d
  unfolding walk
  walk_fuel zero zero st at d oc h i = refl
  walk_fuel zero (suc m) st at [] oc h i = refl
  walk_fuel zero (suc m) st at (x ∷ xs) oc h i = absurd (omega arith)
  walk_fuel (suc n) zero st at [] oc h i = refl
  walk_fuel (suc n) zero st at (x ∷ xs) oc h i = absurd (omega arith)
  walk_fuel (suc n) (suc m) st at [] oc h i = refl
  walk_fuel (suc n) (suc m) st at (x ∷ xs) oc h i =
      step_same _ _ st at (x ∷ xs) (read_rec layout st at (x ∷ xs)) (sound_rec layout st at (x ∷ xs) oc)
      (λ r q e. walk_fuel n m (next layout r st) (at + size r) q (octets_right (write r) q (subst Octets (sym e) oc)) (omega (arith, shorter r q (x ∷ xs) e)) (omega (arith, shorter r q (x ∷ xs) e)))

  -- how the walk layout goes on: what a loop's invariant uses
  pub walk_on : (st : St) (at : ℕ) (d : List ℕ) → Octets d → 0 < length d
      → walk_from layout st at d ≡ step (λ r q. walk_from layout (next layout r st) (at + size r) q) (read_rec layout st at d)
  unfolding walk_from walk
  walk_on st at [] oc h = absurd (omega arith)
  walk_on st at (x ∷ xs) oc h =
      step_same _ _ st at (x ∷ xs) (read_rec layout st at (x ∷ xs)) (sound_rec layout st at (x ∷ xs) oc)
      (λ r q e. walk_fuel (length xs) (length q) (next layout r st) (at + size r) q (octets_right (write r) q (subst Octets (sym e) oc)) (omega (arith, shorter r q (x ∷ xs) e)) (omega arith))

  -- ---- demand 2: no fault exactly where the dump splits into whole records
  pub accepts : (d : List ℕ) → Octets d → ((walk_all layout d).fault ≡ 0) ↔ Splits layout d
  unfolding walk_all walk_from
  accepts d oc = (
    λ z. let w = (sound-walk (length d) no_table 0 d oc (omega arith)).accepted z in ((walk layout (length d) no_table 0 d).recs, w.0, w.1),
    λ s. rw (← s.2, complete_walk (length (writes s.0)) no_table 0 s.0 s.1 (omega arith)),
  )

  -- what it then shows: the only records that spell the dump
  pub shows : (d : List ℕ) (rs : List Rec) → Valids layout no_table rs → writes rs ≡ d → walk_all layout d ≡ done (length d) rs
  unfolding walk_all walk_from
  shows d rs v e = rw (← e, complete_walk (length (writes rs)) no_table 0 rs v (omega arith), zero-add)

  -- ---- two accepted dumps, one after the other

  valid_below : (st su : St) (r : Rec) → Below st su → Valid layout st r → Valid layout su r
  valid_below st su r h v =
      ⊎_elim
      (λ z. record { stamp = v.stamp; type = v.type; sub = v.sub; size = v.size; fits = fits_shut st su (layout_of layout r) r.body z v.fits })
      (λ e. subst (λ (s : St). Valid layout s r) e v) h

  pub valids_below : (st su : St) (rs : List Rec) → Below st su → Valids layout st rs → Valids layout su rs
  unfolding next
  valids_below st su [] h v = tt
  valids_below st su (r ∷ rs) h v =
      (valid_below st su r h v.0, valids_below (next layout r st) (next layout r su) rs (after_below (layout_of layout r) r.body st su h) v.1)

  pub valids-append : (st : St) (rs qs : List Rec) → Valids layout st rs → Valids layout (nexts layout rs st) qs → Valids layout st (rs ++ qs)
  valids-append st [] qs v w = w
  valids-append st (r ∷ rs) qs v w = (v.0, valids-append (next layout r st) rs qs v.1 w)

  unfoldable pub splits-append : (a b : List ℕ) → Splits layout a → Splits layout b → Splits layout (a ++ b)
  splits-append a b s t =
      (s.0 ++ t.0, valids-append no_table s.0 t.0 s.1 (valids_below no_table (nexts layout s.0 no_table) t.0 (inl tt) t.1), rw (writes-append, s.2, t.2))

  -- ---- what a loop at offset at of the dump uses

  pub walk_end : (st : St) (d : List ℕ) → walk_from layout st (length d) (drop (length d) d) ≡ stop 0 (length d)
  unfolding walk_from walk
  walk_end st d = rw drop-length

  pub walk_bad : (st : St) (at : ℕ) (d : List ℕ) (n p : ℕ) → Octets d → at < length d → read_rec layout st at (drop at d) ≡ bad n p
      → walk_from layout st at (drop at d) ≡ stop n p
  walk_bad st at d n p oc h e = rw (walk_on st at (drop at d) (octets-drop at d oc) (rw length-drop (omega arith)), e)

  -- what a record leaves of the dump
  left_is : (st : St) (at : ℕ) (d : List ℕ) (r : Rec) (q : List ℕ) (o : Out Rec) → Right (Valid layout st) write (drop at d) o → o ≡ good r q → q ≡ drop (at + size r) d
  left_is st at d r q o h e =
      let k : Right (Valid layout st) write (drop at d) (good r q) = rw e at h in
      sym (rw (← (drop-drop (size r) at d), ← k.1) (drop_at (write r) q (size r) (length-write r)))

  pub walk_good : (st : St) (at : ℕ) (d : List ℕ) (r : Rec) (q : List ℕ) → Octets d → at < length d → read_rec layout st at (drop at d) ≡ good r q
      → walk_from layout st at (drop at d) ≡ before r (walk_from layout (next layout r st) (at + size r) (drop (at + size r) d))
  walk_good st at d r q oc h e =
      rw (walk_on st at (drop at d) (octets-drop at d oc) (rw length-drop (omega arith)), e, left_is st at d r q (read_rec layout st at (drop at d)) (sound_rec layout st at (drop at d) (octets-drop at d oc)) e)

  good_size : (st : St) (x : List ℕ) (r : Rec) (q : List ℕ) (o : Out Rec) → Right (Valid layout st) write x o → o ≡ good r q → size r ≤ length x
  good_size st x r q o h e =
      let k : Right (Valid layout st) write x (good r q) = rw e at h in
      rw (← k.1, length-append, length-write) (omega arith)

  -- a record that is there ends in the dump
  pub good_fits : (st : St) (at : ℕ) (d : List ℕ) (r : Rec) (q : List ℕ) → Octets d → at ≤ length d → read_rec layout st at (drop at d) ≡ good r q → at + size r ≤ length d
  good_fits st at d r q oc h e =
      let s : size r ≤ length (drop at d) = good_size st (drop at d) r q (read_rec layout st at (drop at d)) (sound_rec layout st at (drop at d) (octets-drop at d oc)) e in
      omega (arith, length-drop at d)

  -- a dump splits in one way only
  pub unique : (rs qs : List Rec) → Valids layout no_table rs → Valids layout no_table qs → writes rs ≡ writes qs → rs ≡ qs
  unique rs qs v w e =
      ap (λ (x : Walk). x.recs) (sym (shows (writes qs) rs v e) ∙ shows (writes qs) qs w refl)
