-- What adding a dump to a report answers and leaves: the three ways, and which is taken.
use mathlib.Core.Path.{◌≡◌, refl, sym, ◌∙◌}
use mathlib.Core.Bool.{Bool, true, false}
use mathlib.Core.Logic.{◌↔◌}
use mathlib.Core.List.{List, [], ◌∷◌, map}
use Prim.Native.Nat.{ℕ, ◌+◌, ◌*◌, ◌-◌}
use native.Mathlib.Omega.{arith}
use lib.Dec.{eqb}
use lib.ListN.{length, take, get_or, length-map}
use borrow.Author.Tests.{eqb-true, eqb-false, ne_eqb}
use Rattle.form_spec.specs.Octets.{Octets}
use Rattle.form_spec.specs.Words.{choose}
use Rattle.form_spec.specs.Dump.{walk_all, Splits}
use Rattle.form_laws.proofs.Dump.{accepts, shows}
use Rattle.page_spec.specs.Layout.{layout}
use Rattle.report_spec.specs.declared.Added.{Added}
use Rattle.report_spec.specs.declared.Notice.{Notice}
use Rattle.report_spec.specs.declared.Notice.TheVariants.{Change}
use Rattle.report_spec.specs.Last.{Absent}
use Rattle.report_spec.specs.Notice.{notice, InStates}
use Rattle.report_spec.specs.Own.{changes, times, cells, breaks_behind, own}
use Rattle.report_spec.specs.Sum.{sums, fit}
use Rattle.report_spec.specs.Answer.{report_answer, report_leaves, report_of}
use Rattle.report_laws.proofs.Own.{cell_at}
use Rattle.report_laws.proofs.Faults.{no_sixteen}
use Rattle.report_laws.proofs.Adding.{length-sums}

abbrev answer : (fault place : ℕ) → Added
answer n p = record { fault = n; place = p }

-- ---- a dump's own report

-- of the records that it splits into
pub report_of_split : (longest : ℕ) (d : List ℕ) (s : Splits (layout longest) d) → report_of longest d ≡ own (map (notice longest) s.0)
report_of_split longest d s = rw (shows (layout longest) d s.0 s.1 s.2)

first_three : (ns : List Notice) → take 3 (own ns) ≡ length ns ∷ changes ns ∷ breaks_behind Absent ns ∷ []
unfolding own
first_three ns = refl

-- records, state changes and breaks, and how often each old state went to each new one
pub report_counts : (longest : ℕ) (d : List ℕ) (s : Splits (layout longest) d)
    → let ns = map (notice longest) s.0 in
    (take 3 (report_of longest d) ≡ length s.0 ∷ changes ns ∷ breaks_behind Absent ns ∷ [])
    × ((old new : ℕ) → InStates (Change old new) → get_or (report_of longest d) (3 + 6 * (old - 1) + (new - 1)) 0 ≡ times old new ns)
report_counts longest d s = (
  rw (report_of_split longest d s, ← (length-map s.0 (notice longest))) (first_three (map (notice longest) s.0)),
  λ old new h. rw (report_of_split longest d s) (cell_at (map (notice longest) s.0) old new h),
)

pub length_own : (ns : List Notice) → length (own ns) ≡ 39
unfolding own cells
length_own ns = refl

pub length_report : (longest : ℕ) (d : List ℕ) → length (report_of longest d) ≡ 39
length_report longest d = length_own (map (notice longest) (walk_all (layout longest) d).recs)

-- ---- the three ways

module _ (longest : ℕ) (report d : List ℕ) where
  -- a faulty dump
  pub refused : ((walk_all (layout longest) d).fault ≡ 0 → ⊥)
      → (report_answer longest report d ≡ answer (walk_all (layout longest) d).fault (walk_all (layout longest) d).place) × (report_leaves longest report d ≡ report)
  unfolding report_answer report_leaves choose
  refused h = let e = ne_eqb (walk_all (layout longest) d).fault 0 h in (rw e, rw e)

  -- a sum that passes 64 bits
  pub passed : Splits (layout longest) d → fit (sums report (report_of longest d)) ≡ false → (report_answer longest report d ≡ answer 16 0) × (report_leaves longest report d ≡ report)
  unfolding report_answer report_leaves choose
  passed s f = let w = shows (layout longest) d s.0 s.1 s.2 in let g = rw w at f in (rw (w, g), rw (w, g))

  pub added : Splits (layout longest) d → fit (sums report (report_of longest d)) ≡ true
      → (report_answer longest report d ≡ answer 0 (length d)) × (report_leaves longest report d ≡ sums report (report_of longest d))
  unfolding report_answer report_leaves choose
  added s f = let w = shows (layout longest) d s.0 s.1 s.2 in let g = rw w at f in (rw (w, g), rw (w, g))

  -- one of them is taken
  pub ways : Octets d → (Z : Added → List ℕ → Type 0)
      → (((walk_all (layout longest) d).fault ≡ 0 → ⊥) → Z (answer (walk_all (layout longest) d).fault (walk_all (layout longest) d).place) report)
      → (Splits (layout longest) d → fit (sums report (report_of longest d)) ≡ false → Z (answer 16 0) report)
      → (Splits (layout longest) d → fit (sums report (report_of longest d)) ≡ true → Z (answer 0 (length d)) (sums report (report_of longest d)))
      → Z (report_answer longest report d) (report_leaves longest report d)
  ways oc Z a b c = go (eqb (walk_all (layout longest) d).fault 0) refl (fit (sums report (report_of longest d))) refl
    where
      go : (t : Bool) → eqb (walk_all (layout longest) d).fault 0 ≡ t → (u : Bool) → fit (sums report (report_of longest d)) ≡ u → Z (report_answer longest report d) (report_leaves longest report d)
      go false e u f = let h = eqb-false (walk_all (layout longest) d).fault 0 e in rw ((refused h).0, (refused h).1) (a h)
      go true e false f = let s = (accepts (layout longest) d oc).0 (eqb-true (walk_all (layout longest) d).fault 0 e) in rw ((passed s f).0, (passed s f).1) (b s f)
      go true e true f = let s = (accepts (layout longest) d oc).0 (eqb-true (walk_all (layout longest) d).fault 0 e) in rw ((added s f).0, (added s f).1) (c s f)

  -- ---- what follows

  -- no fault exactly where the dump splits into whole records and no sum passes 64 bits
  pub no_fault : Octets d → ((report_answer longest report d).fault ≡ 0) ↔ (Splits (layout longest) d × (fit (sums report (report_of longest d)) ≡ true))
  no_fault oc = (
    ways oc (λ x r. x.fault ≡ 0 → Splits (layout longest) d × (fit (sums report (report_of longest d)) ≡ true)) (λ h e. absurd (h e)) (λ s f e. absurd (omega arith)) (λ s f e. (s, f)),
    λ h. rw (added h.0 h.1).0,
  )

  -- 16 exactly where the dump splits and a sum does: no dump has such a fault of its own
  pub sixteen : Octets d → ((report_answer longest report d).fault ≡ 16) ↔ (Splits (layout longest) d × (fit (sums report (report_of longest d)) ≡ false))
  sixteen oc = (
    ways oc (λ x r. x.fault ≡ 16 → Splits (layout longest) d × (fit (sums report (report_of longest d)) ≡ false))
        (λ h e. absurd (no_sixteen longest d e)) (λ s f e. (s, f)) (λ s f e. absurd (omega arith)),
    λ h. rw (passed h.0 h.1).0,
  )

  pub faulty_unchanged : Octets d → ((report_answer longest report d).fault ≡ 0 → ⊥) → report_leaves longest report d ≡ report
  faulty_unchanged oc = ways oc (λ x r. (x.fault ≡ 0 → ⊥) → r ≡ report) (λ h e. refl) (λ s f e. refl) (λ s f e. absurd (e refl))

  -- a report stays one of 39 numbers, each of 64 bits
  pub stays_report : Octets d → length report ≡ 39 → fit report ≡ true → (length (report_leaves longest report d) ≡ 39) × (fit (report_leaves longest report d) ≡ true)
  stays_report oc l g =
      ways oc (λ x r. (length r ≡ 39) × (fit r ≡ true)) (λ h. (l, g)) (λ s f. (l, g))
      (λ s f. (length-sums report (report_of longest d) (l ∙ sym (length_report longest d)) ∙ l, f))
