-- Facts that show a slip in what is counted and added: where the chain of type 12 begins, wraps and goes on, which cell a change stands in, when
-- nothing is added.
use mathlib.Core.Path.{◌≡◌, refl}
use mathlib.Core.Bool.{true, false}
use mathlib.Core.List.{List, [], ◌∷◌}
use Prim.Native.Nat.{ℕ, ◌+◌, ◌*◌, ◌-◌, ◌^◌}
use lib.ListN.{get_or, take}
use borrow.Author.Tests.{ne_eqb}
use Rattle.form_spec.specs.Words.{choose}
use Rattle.form_spec.specs.Dump.{Walk}
use Rattle.report_spec.specs.declared.Notice.TheVariants.{Plain, Change, Sequence}
use Rattle.report_spec.specs.Last.{Absent, Was}
use Rattle.report_spec.specs.Own.{cells, broken, breaks_behind, own}
use Rattle.report_spec.specs.Sum.{fit}
use Rattle.report_spec.specs.Answer.{total, answer_of, leaves_of}

-- ---- breaks

pub first_is_none : (s : ℕ) → breaks_behind Absent (Sequence s ∷ []) ≡ 0
first_is_none s = refl

pub wraps_to_zero : (broken (Was 65535) 0 ≡ 0) × (broken (Was 65534) 65535 ≡ 0) × (broken (Was 65535) 65535 ≡ 1)
wraps_to_zero = (refl, refl, refl)

-- others may stand between
pub chain_goes_on : (p s o n : ℕ) → breaks_behind (Was p) (Plain ∷ Change o n ∷ Sequence s ∷ []) ≡ breaks_behind (Was p) (Sequence s ∷ [])
chain_goes_on p s o n = refl

-- ---- document 02's example: 3 to 4 twice, 4 to 6 once

abbrev example : List ℕ
example = own (Change 3 4 ∷ Change 4 6 ∷ Change 3 4 ∷ [])

pub example_counts : (take 3 example ≡ 3 ∷ 3 ∷ 0 ∷ []) × (get_or example (3 + 6 * (3 - 1) + (4 - 1)) 0 ≡ 2) × (get_or example (3 + 6 * (4 - 1) + (6 - 1)) 0 ≡ 1)
unfolding own cells
example_counts = (refl, refl, refl)

-- ---- nothing is added

module _ (longest : ℕ) (report : List ℕ) (w : Walk) where
  -- of a faulty dump, however large the sums
  pub fault_first : (w.fault ≡ 0 → ⊥) → (answer_of longest report w ≡ record { fault = w.fault; place = w.place }) × (leaves_of longest report w ≡ report)
  unfolding choose
  fault_first h = let e = ne_eqb w.fault 0 h in (rw e, rw e)

  -- where a sum passes 64 bits
  pub past_64_bits : w.fault ≡ 0 → fit (total longest report w) ≡ false → (answer_of longest report w ≡ record { fault = 16; place = 0 }) × (leaves_of longest report w ≡ report)
  unfolding choose
  past_64_bits e f = (rw (e, f), rw (e, f))

pub below_2_to_64 : (fit ((2 ^ 64 - 1) ∷ []) ≡ true) × (fit ((2 ^ 64) ∷ []) ≡ false)
below_2_to_64 = (refl, refl)
