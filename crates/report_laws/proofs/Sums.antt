-- The 36 cells of a report sum to its state changes, in a dump's own report and behind any dumps.
use mathlib.Core.Path.{◌≡◌, refl, sym, ap, fun_ext, ◌∙◌}
use mathlib.Core.Bool.{Bool, true, false, cond, ◌&&◌}
use mathlib.Core.List.{List, [], ◌∷◌, map}
use Prim.Native.Nat.{ℕ, zero, suc, ◌+◌, ◌≤◌}
use native.Mathlib.Omega.{arith}
use lib.Dec.{eqb}
use lib.ListN.{length, drop, length-drop}
use Rattle.form_spec.specs.Octets.{Octets}
use Rattle.form_spec.specs.Shape.{St, no_table}
use Rattle.form_spec.specs.Record.{Rec, next}
use Rattle.form_spec.specs.Dump.{Valids, Splits}
use Rattle.page_spec.specs.Layout.{layout}
use Rattle.report_spec.specs.declared.Notice.{Notice}
use Rattle.report_spec.specs.declared.Notice.TheVariants.{Plain, Change, Sequence}
use Rattle.report_spec.specs.Notice.{notice, AllInStates}
use Rattle.report_spec.specs.Own.{changes, times, states, cells, joined, own}
use Rattle.report_spec.specs.Sum.{empty, sums, sum_of, Balanced}
use Rattle.report_spec.specs.Answer.{report_of, report_leaves}
use Rattle.report_spec.specs.Dumps.{reports_leave, AllOctets}
use Rattle.report_laws.proofs.Own.{row}
use Rattle.report_laws.proofs.Shown.{states-valid}
use Rattle.report_laws.proofs.Answers.{report_of_split, ways}
use Rattle.report_laws.proofs.Adding.{sum-joined, length-sums, drop-sums, at_sums, sum-sums}

-- over the six states
sum-states : (f g : ℕ → ℕ) → sum_of (map (λ s. f s + g s) states) ≡ sum_of (map f states) + sum_of (map g states)
sum-states f g = omega arith

-- ---- a state change stands in one cell of the 36

one_state : (o : ℕ) → 1 ≤ o → o ≤ 6 → sum_of (map (λ s. cond (eqb o s) 1 0) states) ≡ 1
one_state zero a b = absurd (omega arith)
one_state (suc zero) a b = refl
one_state (suc (suc zero)) a b = refl
one_state (suc (suc (suc zero))) a b = refl
one_state (suc (suc (suc (suc zero)))) a b = refl
one_state (suc (suc (suc (suc (suc zero))))) a b = refl
one_state (suc (suc (suc (suc (suc (suc zero)))))) a b = refl
one_state (suc (suc (suc (suc (suc (suc (suc o))))))) a b = absurd (omega arith)

-- in the row of its old state, and in no other
one_row : (t : Bool) (n : ℕ) → 1 ≤ n → n ≤ 6 → sum_of (map (λ new. cond (t && eqb n new) 1 0) states) ≡ cond t 1 0
one_row true n a b = one_state n a b
one_row false n a b = refl

row-change : (o n : ℕ) (ns : List Notice) (old : ℕ) → 1 ≤ n → n ≤ 6 → sum_of (row (Change o n ∷ ns) old) ≡ cond (eqb o old) 1 0 + sum_of (row ns old)
row-change o n ns old a b = sum-states (λ new. cond (eqb o old && eqb n new) 1 0) (λ new. times old new ns) ∙ rw (one_row (eqb o old) n a b)

-- ---- the cells sum to the changes

rows_sum : (ns : List Notice) → AllInStates ns → sum_of (map (λ old. sum_of (row ns old)) states) ≡ changes ns
rows_sum [] h = refl
rows_sum (Plain ∷ ns) h = rows_sum ns h.1
rows_sum (Sequence s ∷ ns) h = rows_sum ns h.1
rows_sum (Change o n ∷ ns) h =
    let e : (old : ℕ) → sum_of (row (Change o n ∷ ns) old) ≡ cond (eqb o old) 1 0 + sum_of (row ns old) = λ old. row-change o n ns old h.0.2 h.0.3 in
    ap (λ (f : ℕ → ℕ). sum_of (map f states)) (fun_ext e)
    ∙ sum-states (λ old. cond (eqb o old) 1 0) (λ old. sum_of (row ns old))
    ∙ rw (one_state o h.0.0 h.0.1, rows_sum ns h.1)

pub cells-sum : (ns : List Notice) → AllInStates ns → sum_of (joined (cells ns)) ≡ changes ns
unfolding cells
cells-sum ns h = sum-joined (cells ns) ∙ rows_sum ns h

-- ---- a dump's own report is balanced, and so is the sum of two that are

pub own_balanced : (ns : List Notice) → AllInStates ns → Balanced (own ns)
unfolding own cells
own_balanced ns h = (refl, cells-sum ns h)

pub sums-balanced : (ns ms : List ℕ) → Balanced ns → Balanced ms → Balanced (sums ns ms)
sums-balanced ns ms a b =
    let e : length ns ≡ length ms = a.0 ∙ sym b.0 in
    let f : length (drop 3 ns) ≡ length (drop 3 ms) = rw (length-drop 3 ns, length-drop 3 ms, e) in
    (length-sums ns ms e ∙ a.0, rw (drop-sums 3 ns ms, sum-sums (drop 3 ns) (drop 3 ms) f, at_sums 1 ns ms e, a.1, b.1))

-- ---- behind any dumps

pub balanced-empty : Balanced empty
balanced-empty = (refl, refl)

module _ (longest : ℕ) where
  all_in_states : (st : St) (rs : List Rec) → Valids (layout longest) st rs → AllInStates (map (notice longest) rs)
  all_in_states st [] v = tt
  all_in_states st (r ∷ rs) v = (states-valid longest st r v.0, all_in_states (next (layout longest) r st) rs v.1)

  pub report_balanced : (d : List ℕ) → Splits (layout longest) d → Balanced (report_of longest d)
  report_balanced d s = rw (report_of_split longest d s) (own_balanced (map (notice longest) s.0) (all_in_states no_table s.0 s.1))

  pub balanced_after : (report d : List ℕ) → Octets d → Balanced report → Balanced (report_leaves longest report d)
  balanced_after report d oc h =
      ways longest report d oc (λ x r. Balanced r) (λ n. h) (λ s f. h) (λ s f. sums-balanced report (report_of longest d) h (report_balanced d s))

  pub balanced_behind : (report : List ℕ) (ds : List (List ℕ)) → AllOctets ds → Balanced report → Balanced (reports_leave longest report ds)
  balanced_behind report [] oc h = h
  balanced_behind report (d ∷ ds) oc h = balanced_behind (report_leaves longest report d) ds oc.1 (balanced_after report d oc.0 h)

  -- from the empty report on
  pub always_balanced : (ds : List (List ℕ)) → AllOctets ds → Balanced (reports_leave longest empty ds)
  always_balanced ds oc = balanced_behind empty ds oc balanced-empty
