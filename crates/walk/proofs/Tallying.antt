-- The loop over a dump that counts: its numbers are those of the records behind it.
use mathlib.Core.Path.{◌≡◌, refl, sym, ◌∙◌}
use mathlib.Core.Bool.{Bool}
use mathlib.Core.List.{List, [], ◌∷◌, ◌++◌, map, map-append}
use Prim.Native.Nat.{ℕ, ◌+◌}
use native.Mathlib.Omega.{arith}
use native.Mathlib.Nat.{add-zero}
use lib.ListN.{length, get_or, replicate, length-append, length-map}
use Rattle.form_spec.specs.Record.{Rec}
use Rattle.form_spec.specs.Dump.{writes, walk_all}
use Rattle.page_spec.specs.Layout.{layout}
use Rattle.record_spec.specs.Table.{Table, Absent}
use Rattle.walk_spec.specs.declared.Walked.{Walked}
use Rattle.walk_spec.specs.Walked.{walked}
use Rattle.walk_laws.proofs.Ahead.{Ahead, ahead_all}
use Rattle.report_spec.specs.declared.Notice.{Notice}
use Rattle.report_spec.specs.declared.Notice.TheVariants.{Plain, Change, Sequence}
use Rattle.report_spec.specs.Notice.{InStates}
use Rattle.report_spec.specs.Last as last
use Rattle.report_spec.specs.declared.Tallied.{Tallied}
use Rattle.report_spec.specs.Own.{changes, cells, broken, last_behind, breaks_behind, numbers, own}
use Rattle.report_spec.specs.Tally.{bumped, heeded, tally_of, tallied}
use Rattle.report_laws.proofs.Own.{changes-append, last_append, breaks_append, cells_none, cells_plain, cells-sequence, cells-change}

-- at offset at, where t is told: what is counted
pub record Tallying (heed : Bool) (longest : ℕ) (d : List ℕ) (at : ℕ) (t : Table) (records changed broke : ℕ) (l : last.Last) (table : List (List ℕ)) : Type 0 where
  pub recs : List Rec
  pub ahead : Ahead longest d at t recs
  pub notices : List Notice
  pub noticed : notices ≡ map (heeded heed longest) recs
  pub numbered : records ≡ length notices
  pub changes : changed ≡ changes notices
  pub breaks : broke ≡ breaks_behind last.Absent notices
  pub lasts : l ≡ last_behind last.Absent notices
  pub cells : table ≡ cells notices

module _ (heed : Bool) (longest : ℕ) (d : List ℕ) where
  pub starts : Tallying heed longest d 0 Absent 0 0 0 last.Absent (replicate 6 (replicate 6 0))
  starts = record { recs = []; ahead = ahead_all longest d; notices = []; noticed = refl; numbered = refl; changes = refl; breaks = refl; lasts = refl; cells = sym cells_none }

  -- the walk stops with fault n at p
  pub stops : (at : ℕ) (t : Table) (r c b : ℕ) (l : last.Last) (table : List (List ℕ)) (k : Tallying heed longest d at t r c b l table) (n p : ℕ) (x : Tallied)
      → walk_all (layout longest) d ≡ record { fault = n; place = p; recs = k.recs } → x.fault ≡ n → x.place ≡ p → x.start ≡ at → x.own ≡ numbers r c b table → x ≡ tallied heed longest d
  unfolding tallied tally_of own
  stops at t r c b l table k n p x w f q s o =
      let y : x.own ≡ own (map (heeded heed longest) k.recs) = rw (← k.noticed) (o ∙ rw (k.numbered, k.changes, k.breaks, k.cells)) in
      let i : x.start ≡ length (writes k.recs) = s ∙ sym k.ahead.ended in
      let z : x ≡ record { fault = n; place = p; start = length (writes k.recs); own = own (map (heeded heed longest) k.recs) } = rw (← f, ← q, ← i, ← y) in
      z ∙ rw w

  -- ---- one record further

  module _ (at : ℕ) (t : Table) (r c b : ℕ) (l : last.Last) (table : List (List ℕ)) (k : Tallying heed longest d at t r c b l table) (e : ℕ) (u : Table) (rec : Rec)
      (a : Ahead longest d e u (k.recs ++ (rec ∷ []))) where
    -- the record gives notice of n
    on : (n : Notice) → n ≡ heeded heed longest rec → (table' : List (List ℕ)) → table' ≡ cells (k.notices ++ (n ∷ []))
        → Tallying heed longest d e u (r + 1) (c + changes (n ∷ [])) (b + breaks_behind l (n ∷ [])) (last_behind l (n ∷ [])) table'
    on n h table' o =
        let y : r ≡ length k.notices = k.numbered in
        record {
          recs = k.recs ++ (rec ∷ []);
          ahead = a;
          notices = k.notices ++ (n ∷ []);
          noticed = rw (map-append, k.noticed, h);
          numbered = rw length-append (omega arith);
          changes = rw (changes-append, k.changes);
          breaks = rw (breaks_append, k.lasts, k.breaks);
          lasts = rw (last_append, k.lasts);
          cells = o;
        }

    pub on_plain : Plain ≡ heeded heed longest rec → Tallying heed longest d e u (r + 1) c b l table
    on_plain h = simp add-zero at (on Plain h table (k.cells ∙ sym (cells_plain k.notices)))

    pub on_change : (o n : ℕ) → Change o n ≡ heeded heed longest rec → InStates (Change o n) → Tallying heed longest d e u (r + 1) (c + 1) b l (bumped table o n)
    on_change o n h i = simp add-zero at (on (Change o n) h (bumped table o n) (rw k.cells (sym (cells-change k.notices o n i))))

    pub on_sequence : (s : ℕ) → Sequence s ≡ heeded heed longest rec → Tallying heed longest d e u (r + 1) c (b + broken l s) (last.Was s) table
    on_sequence s h = simp add-zero at (on (Sequence s) h table (k.cells ∙ sym (cells-sequence k.notices s)))

-- the walk's answer is a part of it: the first number counts the records, heeded or not
pub walked-tallied : (heed : Bool) (longest : ℕ) (d : List ℕ)
    → let k = tallied heed longest d in
    ◌≡◌ {A = Walked} (record { fault = k.fault; place = k.place; start = k.start; records = get_or k.own 0 0 }) (walked longest d)
unfolding tallied tally_of own walked
walked-tallied heed longest d = rw (length-map (walk_all (layout longest) d).recs (heeded heed longest))
