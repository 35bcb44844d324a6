-- The answer of adding, from what going through the dump has told.
use mathlib.Core.Path.{◌≡◌}
use mathlib.Core.Bool.{true}
use mathlib.Core.List.{List}
use Prim.Native.Nat.{ℕ}
use borrow.Author.Tests.{ne_eqb}
use Rattle.form_spec.specs.Words.{choose}
use Rattle.report_spec.specs.declared.Tallied.{Tallied}
use Rattle.report_spec.specs.Tally.{tally_of, tallied}
use Rattle.report_spec.specs.Sum.{sums, fit}
use Rattle.report_spec.specs.Answer.{added, report_answer, report_leaves}

module _ (longest : ℕ) (report d : List ℕ) where
  abbrev k : Tallied
  k = tallied true longest d

  -- the dump has a fault
  pub refused : (k.fault ≡ 0 → ⊥) → (added k.fault k.place ≡ report_answer longest report d) × (report ≡ report_leaves longest report d)
  unfolding tallied tally_of report_answer report_leaves choose
  refused h = let e = ne_eqb k.fault 0 h in (rw e, rw e)

  -- it has none
  pub accepted : k.fault ≡ 0
      → (choose (fit (sums report k.own)) (added 0 k.place) (added 16 0) ≡ report_answer longest report d) × (choose (fit (sums report k.own)) (sums report k.own) report ≡ report_leaves longest report d)
  unfolding tallied tally_of report_answer report_leaves choose
  accepted h = (rw h, rw h)
