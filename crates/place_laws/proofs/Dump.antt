-- Where a dump has a fault, whole records stand before the faulty one, and its octets are as the fault and its place say.
use mathlib.Core.Path.{◌≡◌, refl, sym, ap, ◌∙◌, subst}
use mathlib.Core.List.{List, [], ◌∷◌, ◌++◌, append_assoc}
use Prim.Native.Nat.{ℕ, zero, suc, ◌+◌, ◌-◌, ◌≤◌, ◌<◌}
use native.Mathlib.Omega.{arith}
use native.Mathlib.Nat.{add-zero}
use lib.ListN.{length, take, drop, length-append}
use lib.Seq.{take_at, drop_at}
use Rattle.form_spec.specs.Octets.{Octets}
use Rattle.form_spec.specs.Fmt.{Out, bad, good}
use Rattle.form_spec.specs.Shape.{St, no_table}
use Rattle.form_spec.specs.Record.{Rec, size, write, read_rec, Valid, next}
use Rattle.form_spec.specs.Dump.{Walk, step, writes, walk, walk_from, walk_all, Valids, Splits, nexts}
use Rattle.form_laws.proofs.Octets.{octets_right}
use Rattle.form_laws.proofs.Fmt.{Right}
use Rattle.form_laws.proofs.Record.{length-write, sound_rec}
use Rattle.form_laws.proofs.Moved.{moved, moved_record}
use Rattle.page_spec.specs.Layout.{layout}
use Rattle.page_laws.proofs.Inside.{inside}
use Rattle.record_spec.specs.Table.{Table}
use Rattle.record_spec.specs.One.{read_one}
use Rattle.record_spec.specs.Tells.{Tells}
use Rattle.record_laws.proofs.One.{one_record}
use Rattle.place_spec.specs.Faulty.{record_end, FaultyDump}
use Rattle.place_laws.proofs.Record.{faulty_record, faulty_exactly, faulty_some, place_in}
use Rattle.form_spec.specs.Refusal.{refused}

module _ (longest : ℕ) where
  -- the walk w over d from offset at, where st is the table in force, went over whole records up to a fault
  record Until (st : St) (at : ℕ) (d : List ℕ) (w : Walk) : Type 0 where
    pub rest : List ℕ
    pub some : 0 < length rest
    pub octets : writes w.recs ++ rest ≡ d
    pub valid : Valids (layout longest) st w.recs
    pub own : ℕ
    pub place : w.place ≡ at + length (writes w.recs) + own
    pub read : read_rec (layout longest) (nexts (layout longest) w.recs st) 0 rest ≡ bad w.fault own

  -- a record that is not read where it stands is not read by itself, with its own place
  alone : (st : St) (at : ℕ) (d : List ℕ) (n p : ℕ) → read_rec (layout longest) st at d ≡ bad n p → (q : ℕ) × (p ≡ at + q) × (read_rec (layout longest) st 0 d ≡ bad n q)
  alone st at d n p e = go (read_rec (layout longest) st 0 d) refl (sym e ∙ rw add-zero at (moved_record (layout longest) (inside longest) st at 0 d))
    where
      go : (o : Out Rec) → read_rec (layout longest) st 0 d ≡ o → bad n p ≡ moved at o → (q : ℕ) × (p ≡ at + q) × (read_rec (layout longest) st 0 d ≡ bad n q)
      go (bad m q) h z = let a : n ≡ m = cc in let b : p ≡ at + q = cc in (q, b, rw a h)
      go (good r q) h z = let x : ◌≡◌ {A = ℕ} 0 1 = cc in absurd (omega arith)

  until : (k : ℕ) (st : St) (at : ℕ) (d : List ℕ) → Octets d → length d ≤ k → ((walk (layout longest) k st at d).fault ≡ 0 → ⊥) → Until st at d (walk (layout longest) k st at d)
  unfolding walk
  until zero st at d oc h f = absurd (f refl)
  until (suc k) st at [] oc h f = absurd (f refl)
  until (suc k) st at (x ∷ xs) oc h f =
      go (read_rec (layout longest) st at (x ∷ xs)) refl (sound_rec (layout longest) st at (x ∷ xs) oc) f
      (λ r q e. until k (next (layout longest) r st) (at + size r) q (octets_right (write r) q (subst Octets (sym e) oc))
      (let l : length (write r) + length q ≡ suc (length xs) = sym (length-append (write r) q) ∙ ap length e in omega (arith, length-write r)))
    where
      on : Rec → List ℕ → Walk
      on r q = walk (layout longest) k (next (layout longest) r st) (at + size r) q

      go : (o : Out Rec) → read_rec (layout longest) st at (x ∷ xs) ≡ o → Right (Valid (layout longest) st) write (x ∷ xs) o → ((step on o).fault ≡ 0 → ⊥)
          → ((r : Rec) (q : List ℕ) → write r ++ q ≡ x ∷ xs → ((on r q).fault ≡ 0 → ⊥) → Until (next (layout longest) r st) (at + size r) q (on r q)) → Until st at (x ∷ xs) (step on o)
      go (bad n p) e s f ih =
          let a = alone st at (x ∷ xs) n p e in
          record { rest = x ∷ xs; some = omega arith; octets = refl; valid = tt; own = a.0; place = omega (arith, a.1); read = a.2 }
      go (good r q) e s f ih =
          let u = ih r q s.1 f in
          record {
            rest = u.rest;
            some = u.some;
            octets = append_assoc (write r) _ _ ∙ rw u.octets s.1;
            valid = (s.0, u.valid);
            own = u.own;
            place = rw (length-append, length-write) (omega (arith, u.place));
            read = u.read;
          }

  pub faulty_dump : (d : List ℕ) → Octets d → let w = walk_all (layout longest) d in (w.fault ≡ 0 → ⊥) → FaultyDump longest d w.fault w.place (length (writes w.recs))
  unfolding walk_all walk_from
  faulty_dump d oc f =
      let w : Walk = walk_all (layout longest) d in
      let u = until (length d) no_table 0 d oc (omega arith) f in
      let o : Octets u.rest = octets_right (writes w.recs) u.rest (subst Octets (sym u.octets) oc) in
      let q : w.place - length (writes w.recs) ≡ u.own = omega (arith, u.place) in
      record {
        recs = w.recs;
        rest = u.rest;
        octets = u.octets;
        valid = u.valid;
        starts = refl;
        after = omega (arith, u.place);
        faulty = rw q (faulty_record longest _ u.rest o u.some _ u.own u.read);
      }

  module _ (d : List ℕ) (n p start : ℕ) (h : FaultyDump longest d n p start) where
    abbrev st : St
    st = nexts (layout longest) h.recs no_table

    -- the place is in the dump, and in the faulty record or where it ends
    pub place_in_dump : (start ≤ p) × (p ≤ length d) × (start + record_end h.rest ≤ length d → p ≤ start + record_end h.rest)
    place_in_dump =
        let e : length (writes h.recs) + length h.rest ≡ length d = sym (length-append (writes h.recs) h.rest) ∙ ap length h.octets in
        let i = place_in longest st h.rest n (p - start) h.faulty in
        (h.after, omega (arith, h.after, h.starts, i.0), λ k. omega (arith, h.after, i.1 (omega (arith, h.starts))))

    -- the octets before the faulty record are whole records
    pub taken_before : take start d ≡ writes h.recs
    taken_before = rw (← h.octets, h.starts) (take_at (writes h.recs) h.rest (length (writes h.recs)) refl)

    pub splits_before : Splits (layout longest) (take start d)
    splits_before = (h.recs, h.valid, sym taken_before)

    -- the faulty record is the rest
    pub rest_is : drop start d ≡ h.rest
    rest_is = rw (← h.octets, h.starts) (drop_at (writes h.recs) h.rest (length (writes h.recs)) refl)

    -- read by itself, it has the same fault, its place less the offset where it starts
    pub read_alone : Octets d → read_rec (layout longest) st 0 h.rest ≡ bad n (p - start)
    read_alone oc =
        let o : Octets h.rest = octets_right (writes h.recs) h.rest (subst Octets (sym h.octets) oc) in
        (faulty_exactly longest st h.rest o (faulty_some longest st h.rest n (p - start) h.faulty) n (p - start)).0 h.faulty

    -- and so it is shown, where the table in force is told
    pub shown_alone : Octets d → (t : Table) → Tells t st → read_one longest t (drop start d) ≡ refused n (p - start)
    shown_alone oc t told =
        let o : Octets h.rest = octets_right (writes h.recs) h.rest (subst Octets (sym h.octets) oc) in
        rw rest_is (rw (read_alone oc) at (one_record longest t st told h.rest o (faulty_some longest st h.rest n (p - start) h.faulty)))
