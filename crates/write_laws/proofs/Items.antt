-- Items that a writer is given laid out, judged by the reader.
use mathlib.Core.Path.{◌≡◌, refl, ap, ◌∙◌}
use mathlib.Core.List.{List, [], ◌∷◌}
use Prim.Native.Nat.{ℕ, ◌+◌, ◌-◌}
use native.Mathlib.Omega.{arith}
use lib.ListN.{length}
use Rattle.form_spec.specs.Fmt.{Out, bad, good, bind, Fmt, join, over_at}
use Rattle.form_spec.specs.Body.{plain, ended, read_body, read_n}
use Rattle.form_spec.specs.Pass.{whole, times}
use Rattle.form_spec.specs.Put.{fault_of, large, items, items_refusal}
use Rattle.write_spec.specs.Judged.{judged, unplaced}
use Rattle.write_laws.proofs.Judged.{then_ok, whole_strict, by_number}
use Rattle.form_laws.proofs.Then.{flatly, read-times}
use Rattle.form_laws.proofs.Whole.{outcome_body, whole_body}
use Rattle.form_spec.specs.Refusal.{refused, number_in}
use Rattle.form_spec.specs.declared.Fault.{Fault}
use Rattle.std.specs.Prelude.{Result, Ok, ⊤}

-- items that are good have nothing to show
abbrev pub none : Result ⊤ Fault
none = Ok tt

-- reading n items and nothing behind them gives the items' fault
items-fault : (g : Fmt) (n : ℕ) (raw : List ℕ) → number_in (whole (λ fs. none) refused (times n g) raw 0) ≡ fault_of (read_n g n 0 raw)
unfolding read_body outcome_body
items-fault g n raw = ap number_in (whole_body (λ fs. none) refused (times n g) raw 0 (omega arith)) ∙ rw (read-times n g 0 raw) (go (read_n g n 0 raw))
  where
    go : (o : Out (List (List (List ℕ)))) → number_in (outcome_body (λ fs. none) refused (times n g) 0 (bind (flatly o) (λ cs r. ended (0 + length (join cs) - over_at (times n g) cs) (plain cs) r))) ≡ fault_of o
    go (bad m p) = refl
    go (good its []) = refl
    go (good its (x ∷ r)) = refl

-- the count fits, and the reader answers r of the items
pub items_read : (g : Fmt) (n : ℕ) (raw : List ℕ) (u : ⊤) (r : Result ⊤ Fault) → Ok u ≡ judged (large 2 n) → r ≡ whole (λ fs. none) refused (times n g) raw 0 → unplaced r ≡ judged (items_refusal g (items n raw))
items_read g n raw u r e h =
    let s : unplaced r ≡ judged (fault_of (read_n g n 0 raw)) = rw h (by_number (whole (λ fs. none) refused (times n g) raw 0) (whole_strict (λ fs. tt) (times n g) raw 0) ∙ ap judged (items-fault g n raw)) in
    then_ok (large 2 n) (fault_of (read_n g n 0 raw)) u (unplaced r) e s
