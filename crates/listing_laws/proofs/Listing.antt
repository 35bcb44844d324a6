-- What a listing is of each dump: too large, or a line for each record before the first fault, then the fault; of an accepted one, all its records.
use mathlib.Core.Path.{◌≡◌, ap, ◌∙◌}
use mathlib.Core.List.{List, ◌++◌}
use Prim.Native.Nat.{ℕ, ◌≤◌, ◌<◌}
use lib.ListN.{length}
use borrow.Author.Tests.{lt-ltb, le-ltb}
use Rattle.form_spec.specs.Words.{choose}
use Rattle.form_spec.specs.Dump.{walk_all, Splits}
use Rattle.form_laws.proofs.Dump.{shows}
use Rattle.page_spec.specs.Layout.{layout}
use Rattle.listing_spec.specs.Text.{fault_line, too_large, lines, walk_text, listing}

module _ (longest : ℕ) (d : List ℕ) where
  pub all_large : 65536 < length d → listing longest d ≡ too_large
  unfolding listing choose
  all_large h = rw (lt-ltb 65536 (length d) h)

  pub all_walked : length d ≤ 65536 → listing longest d ≡ walk_text longest 0 (walk_all (layout longest) d)
  unfolding listing choose
  all_walked h = rw (le-ltb 65536 (length d) h)

  pub all_accepted : length d ≤ 65536 → (s : Splits (layout longest) d) → listing longest d ≡ lines longest 0 s.0 ++ fault_line 0 (length d)
  unfolding walk_text
  all_accepted h s = all_walked h ∙ ap (walk_text longest 0) (shows (layout longest) d s.0 s.1 s.2)
