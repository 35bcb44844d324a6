-- Which numbers a dump's fault can have: none of those that belong to calls.
use mathlib.Core.Path.{◌≡◌, refl}
use mathlib.Core.Logic.{◌⊎◌, inl, inr, ⊎_elim}
use mathlib.Core.List.{List, [], ◌∷◌}
use Prim.Native.Nat.{ℕ, zero, suc, ◌+◌, ◌≤◌}
use native.Mathlib.Omega.{arith}
use lib.ListN.{length}
use Rattle.form_spec.specs.Fmt.{Out, bad, good}
use Rattle.form_spec.specs.Shape.{St, no_table}
use Rattle.form_spec.specs.Record.{Rec, read_rec, size, next}
use Rattle.form_spec.specs.Found.{fault_number}
use Rattle.form_spec.specs.Dump.{Walk, step, walk, walk_from, walk_all}
use Rattle.page_spec.specs.Layout.{layout}
use Rattle.record_laws.proofs.Faults.{found_record}

-- no fault, or one of a header or a message
abbrev pub OfDump : ℕ → Type 0
OfDump n = (n ≤ 13) ⊎ (n ≡ 17)

found_step : (k : Rec → List ℕ → Walk) (o : Out Rec) → OfDump (fault_number o) → ((r : Rec) (d : List ℕ) → OfDump (k r d).fault) → OfDump (step k o).fault
found_step k (bad n p) h g = h
found_step k (good r d) h g = g r d

found_walk : (longest n : ℕ) (st : St) (at : ℕ) (d : List ℕ) → OfDump (walk (layout longest) n st at d).fault
unfolding walk
found_walk longest zero st at d = inl (omega arith)
found_walk longest (suc n) st at [] = inl (omega arith)
found_walk longest (suc n) st at (x ∷ xs) =
    found_step _ (read_rec (layout longest) st at (x ∷ xs)) (found_record OfDump (λ k h. inl h) longest st at (x ∷ xs) (λ w e. inr refl)) (λ r d. found_walk longest n (next (layout longest) r st) (at + size r) d)

faults : (longest : ℕ) (d : List ℕ) → OfDump (walk_all (layout longest) d).fault
unfolding walk_all walk_from
faults longest d = found_walk longest (length d) no_table 0 d

-- 16 is a report's alone
pub no_sixteen : (longest : ℕ) (d : List ℕ) → (walk_all (layout longest) d).fault ≡ 16 → ⊥
no_sixteen longest d e = ⊎_elim (λ h. omega arith) (λ h. omega arith) (faults longest d)
