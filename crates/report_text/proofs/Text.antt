-- What the text is of each dump: too large, or the first fault, or its own report.
use mathlib.Core.Path.{◌≡◌}
use mathlib.Core.Bool.{true}
use mathlib.Core.List.{List}
use Prim.Native.Nat.{ℕ, ◌≤◌, ◌<◌}
use lib.ListN.{length}
use borrow.Author.Tests.{lt-ltb, le-ltb, ne_eqb}
use Rattle.form_spec.specs.Words.{choose}
use Rattle.report_spec.specs.Tally.{tally_of, tallied}
use Rattle.report_spec.specs.declared.Tallied.{Tallied}
use Rattle.listing_spec.specs.Text.{fault_line, too_large}
use Rattle.report_text_spec.specs.Text.{report_lines, answer_lines, report_text}

pub answer-fault : (n p : ℕ) (own : List ℕ) → (n ≡ 0 → ⊥) → answer_lines n p own ≡ fault_line n p
unfolding answer_lines choose
answer-fault n p own h = rw (ne_eqb n 0 h)

pub answer_own : (n p : ℕ) (own : List ℕ) → n ≡ 0 → answer_lines n p own ≡ report_lines own
unfolding answer_lines choose
answer_own n p own e = rw e

module _ (longest : ℕ) (d : List ℕ) where
  pub all_large : 65536 < length d → report_text longest d ≡ too_large
  unfolding report_text choose
  all_large h = rw (lt-ltb 65536 (length d) h)

  -- by what going through it answers
  pub all_tallied : length d ≤ 65536 → (t : Tallied) → t ≡ tallied true longest d → report_text longest d ≡ answer_lines t.fault t.place t.own
  unfolding report_text choose tallied tally_of
  all_tallied h t e = rw (le-ltb 65536 (length d) h, e)
