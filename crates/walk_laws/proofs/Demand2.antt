-- The walk, in the terms of its promise: no fault exactly where a dump splits into whole records; one dump after another.
use mathlib.Core.Path.{◌≡◌, refl, sym, ap, ◌∙◌, subst}
use mathlib.Core.Logic.{◌↔◌}
use mathlib.Core.List.{List, [], ◌∷◌, ◌++◌, append_assoc}
use Prim.Native.Nat.{ℕ, ◌+◌, ◌-◌}
use native.Mathlib.Omega.{arith}
use native.Mathlib.Nat.{add-zero, zero-add}
use lib.ListN.{length, take, length-append}
use Rattle.form_spec.specs.Octets.{Octets}
use Rattle.form_spec.specs.Shape.{St, no_table}
use Rattle.form_spec.specs.Fmt.{bad}
use Rattle.form_spec.specs.Record.{Rec, write, size, read_rec, next}
use Rattle.form_spec.specs.Dump.{stop, writes, walk_from, walk_all, Valids, Splits, nexts}
use Rattle.form_laws.proofs.Octets.{octets-append, octets_right, octets-take}
use Rattle.form_laws.proofs.Record.{length-write, complete_rec}
use Rattle.form_laws.proofs.Moved.{moved_record}
use Rattle.form_laws.proofs.Dump.{walk_on, accepts, shows, unique, splits-append, writes-append}
use Rattle.page_spec.specs.Layout.{layout}
use Rattle.page_laws.proofs.Inside.{inside}
use Rattle.place_spec.specs.Faulty.{FaultyDump}
use Rattle.place_laws.proofs.Record.{faulty_some}
use Rattle.place_laws.proofs.Dump.{taken_before, splits_before, read_alone}
use Rattle.walk_spec.specs.Walked.{befores, walked_of, walked}

module _ (longest : ℕ) where
  -- ---- no fault exactly where the dump splits

  pub accepts_dump : (d : List ℕ) → Octets d → ((walked longest d).fault ≡ 0) ↔ Splits (layout longest) d
  unfolding walked
  accepts_dump d oc = accepts (layout longest) d oc

  -- then the place is the dump's length, where no faulty record starts, and the records are those of the split
  pub shows_dump : (d : List ℕ) (s : Splits (layout longest) d) → walked longest d ≡ record { fault = 0; place = length d; start = length d; records = length s.0 }
  unfolding walked
  shows_dump d s = ap walked_of (shows (layout longest) d s.0 s.1 s.2) ∙ rw s.2

  -- a dump splits in one way only
  pub one_split : (d : List ℕ) (s u : Splits (layout longest) d) → s.0 ≡ u.0
  one_split d s u = unique (layout longest) s.0 u.0 s.1 u.1 (s.2 ∙ sym u.2)

  -- what stands before a faulty record is accepted
  pub accepted_before : (d : List ℕ) → Octets d → (n p start : ℕ) → FaultyDump longest d n p start → (walked longest (take start d)).fault ≡ 0
  accepted_before d oc n p start h = (accepts_dump (take start d) (octets-take start d oc)).1 (splits_before longest d n p start h)

  -- ---- one dump after another

  -- two that have no fault have none together
  pub both_accepted : (a b : List ℕ) → Octets a → Octets b → (walked longest a).fault ≡ 0 → (walked longest b).fault ≡ 0
      → walked longest (a ++ b) ≡ record { fault = 0; place = length (a ++ b); start = length (a ++ b); records = (walked longest a).records + (walked longest b).records }
  unfolding splits-append
  both_accepted a b p q e f =
      let s = (accepts_dump a p).0 e in
      let u = (accepts_dump b q).0 f in
      rw (shows_dump a s, shows_dump b u, shows_dump (a ++ b) (splits-append (layout longest) a b s u), length-append s.0 u.0)

  -- whatever stands behind whole records: the walk goes on in it, from the table that they leave
  past_records : (rs : List Rec) (st : St) (at : ℕ) (b : List ℕ) → Valids (layout longest) st rs → Octets (writes rs ++ b)
      → walk_from (layout longest) st at (writes rs ++ b) ≡ befores rs (walk_from (layout longest) (nexts (layout longest) rs st) (at + length (writes rs)) b)
  past_records [] st at b v oc = rw add-zero
  past_records (r ∷ rs) st at b v oc =
      let e : (write r ++ writes rs) ++ b ≡ write r ++ (writes rs ++ b) = append_assoc (write r) (writes rs) b in
      let o : Octets (write r ++ (writes rs ++ b)) = subst Octets e oc in
      let l : length (write r) ≡ size r = length-write r in
      let n : at + size r + length (writes rs) ≡ at + length (write r ++ writes rs) = rw (length-append, l) (omega arith) in
      rw (
        e,
        walk_on (layout longest) st at (write r ++ (writes rs ++ b)) o (rw (length-append, l) (omega arith)),
        complete_rec (layout longest) st at r (writes rs ++ b) v.0,
        past_records rs (next (layout longest) r st) (at + size r) b v.1 (octets_right (write r) (writes rs ++ b) o),
        n,
      )

  pub past_accepted : (a b : List ℕ) → Octets a → Octets b → (s : Splits (layout longest) a)
      → let w = walk_from (layout longest) (nexts (layout longest) s.0 no_table) (length a) b in
      walked longest (a ++ b) ≡ record { fault = w.fault; place = w.place; start = length a + length (writes w.recs); records = length s.0 + length w.recs }
  unfolding walked walk_all
  past_accepted a b p q s =
      let o : Octets (writes s.0 ++ b) = subst (λ (x : List ℕ). Octets (x ++ b)) (sym s.2) (octets-append a b p q) in
      ap walked_of (rw (s.2, zero-add) at (past_records s.0 no_table 0 b s.1 o)) ∙ rw (writes-append, length-append, length-append, s.2)

  -- ---- a faulty dump: octets that are as a fault and its place say are answered with them

  pub faulty-answer : (d : List ℕ) → Octets d → (n p start : ℕ) (h : FaultyDump longest d n p start)
      → walked longest d ≡ record { fault = n; place = p; start = start; records = length h.recs }
  faulty-answer d oc n p start h =
      let a : List ℕ = writes h.recs in
      let b : List ℕ = h.rest in
      let oa : Octets a = subst Octets (taken_before longest d n p start h) (octets-take start d oc) in
      let ob : Octets b = octets_right a b (subst Octets (sym h.octets) oc) in
      let st : St = nexts (layout longest) h.recs no_table in
      let q : start + (p - start) ≡ p = omega (arith, h.after) in
      let r : read_rec (layout longest) st (length a) b ≡ bad n p = rw (← h.starts) (rw (add-zero, read_alone longest d n p start h oc, q) at (moved_record (layout longest) (inside longest) st start 0 b)) in
      let w : walk_from (layout longest) st (length a) b ≡ stop n p = rw (walk_on (layout longest) st (length a) b ob (faulty_some longest st b n (p - start) h.faulty), r) in
      rw (← h.octets) (past_accepted a b oa ob (h.recs, h.valid, refl) ∙ rw (w, add-zero, add-zero, ← h.starts))
