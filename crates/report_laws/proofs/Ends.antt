-- Two dumps laid end to end: their reports are added, but for a break at the seam.
use mathlib.Core.Path.{◌≡◌, refl, sym, ap, fun_ext, ◌∙◌}
use mathlib.Core.Bool.{true}
use mathlib.Core.List.{List, [], ◌∷◌, ◌++◌, map, map-append}
use Prim.Native.Nat.{ℕ, ◌+◌, ◌≤◌}
use native.Mathlib.Omega.{arith}
use lib.ListN.{length, length-append, replicate}
use Rattle.form_spec.specs.Dump.{Splits}
use Rattle.form_laws.proofs.Dump.{shows, splits-append}
use Rattle.page_spec.specs.Layout.{layout}
use Rattle.report_spec.specs.declared.Notice.{Notice}
use Rattle.report_spec.specs.declared.Notice.TheVariants.{Plain, Change, Sequence}
use Rattle.report_spec.specs.Last.{Last, Absent}
use Rattle.report_spec.specs.Notice.{notice}
use Rattle.report_spec.specs.Own.{changes, states, cells, joined, last_behind, breaks_behind, broken_first, seam, own}
use Rattle.report_spec.specs.Sum.{breaks_alone, sums, fit}
use Rattle.report_spec.specs.Answer.{report_of, report_leaves}
use Rattle.report_spec.specs.Dumps.{seam_of}
use Rattle.report_laws.proofs.Own.{broken_once, changes-append, times-append, breaks_append}
use Rattle.report_laws.proofs.Adding.{sums-zero, sums_both, length-sums, fit_less}
use Rattle.report_laws.proofs.Answers.{length_report, added}

-- ---- of what records give notice of

-- what stands before counts only where it does not lead to the first one
breaks_behind_lem : (l : Last) (ns : List Notice) → breaks_behind l ns ≡ breaks_behind Absent ns + broken_first l ns
breaks_behind_lem l [] = refl
breaks_behind_lem l (Plain ∷ ns) = breaks_behind_lem l ns
breaks_behind_lem l (Change o n ∷ ns) = breaks_behind_lem l ns
breaks_behind_lem l (Sequence s ∷ ns) = omega arith

first_once : (l : Last) (ns : List Notice) → broken_first l ns ≤ 1
first_once l [] = omega arith
first_once l (Plain ∷ ns) = first_once l ns
first_once l (Change o n ∷ ns) = first_once l ns
first_once l (Sequence s ∷ ns) = broken_once l s

module _ (ms ns : List Notice) where
  -- one break at most
  pub seam_once : seam ms ns ≤ 1
  seam_once = first_once (last_behind Absent ms) ns

  pub breaks_ends : breaks_behind Absent (ms ++ ns) ≡ breaks_behind Absent ms + breaks_behind Absent ns + seam ms ns
  breaks_ends = omega (arith, breaks_append Absent ms ns, breaks_behind_lem (last_behind Absent ms) ns)

  abbrev cells_of_both : List ℕ
  cells_of_both = sums (joined (cells ms)) (joined (cells ns))

  cells-ends : joined (cells (ms ++ ns)) ≡ cells_of_both
  unfolding cells
  cells-ends =
      ap (λ (f : ℕ → ℕ → ℕ). joined (map (λ old. map (f old) states) states)) (fun_ext (λ old. fun_ext (λ new. times-append old new ms ns)))

  cells_36 : length cells_of_both ≡ 36
  unfolding cells
  cells_36 = refl

  pub own_ends : own (ms ++ ns) ≡ sums (sums (own ms) (own ns)) (breaks_alone (seam ms ns))
  unfolding own
  own_ends =
      let r : length (ms ++ ns) ≡ length ms + length ns + 0 = omega (arith, length-append ms ns) in
      let c : changes (ms ++ ns) ≡ changes ms + changes ns + 0 = omega (arith, changes-append ms ns) in
      let t : joined (cells (ms ++ ns)) ≡ sums cells_of_both (replicate 36 0) = cells-ends ∙ sym (sums-zero cells_of_both 36 cells_36) in
      rw (r, c, breaks_ends, t)

-- ---- of dumps

module _ (longest : ℕ) (a b : List ℕ) (s : Splits (layout longest) a) (t : Splits (layout longest) b) where
  abbrev both : Splits (layout longest) (a ++ b)
  both = splits-append (layout longest) a b s t

  pub report_ends : report_of longest (a ++ b) ≡ sums (sums (report_of longest a) (report_of longest b)) (breaks_alone (seam_of longest a b))
  unfolding splits-append
  report_ends =
      rw (
        shows (layout longest) a s.0 s.1 s.2,
        shows (layout longest) b t.0 t.1 t.2,
        shows (layout longest) (a ++ b) both.0 both.1 both.2,
        map-append (notice longest) s.0 t.0,
      )
      (own_ends (map (notice longest) s.0) (map (notice longest) t.0))

  -- added as one, they leave what they leave one after the other, and the seam
  pub leaves_ends : (report : List ℕ) → length report ≡ 39 → fit (sums report (report_of longest (a ++ b))) ≡ true
      → report_leaves longest report (a ++ b) ≡ sums (report_leaves longest (report_leaves longest report a) b) (breaks_alone (seam_of longest a b))
  leaves_ends report l f =
      let x : List ℕ = sums report (report_of longest a) in
      let y : List ℕ = sums x (report_of longest b) in
      let z : List ℕ = breaks_alone (seam_of longest a b) in
      let m : length x ≡ 39 = length-sums report (report_of longest a) (l ∙ sym (length_report longest a)) ∙ l in
      let n : length y ≡ 39 = length-sums x (report_of longest b) (m ∙ sym (length_report longest b)) ∙ m in
      let e : sums report (report_of longest (a ++ b)) ≡ sums y z = rw report_ends (simp sums_both) in
      let g : fit y ≡ true = fit_less y z n (rw e at f) in
      let h : fit x ≡ true = fit_less x (report_of longest b) (m ∙ sym (length_report longest b)) g in
      rw ((added longest report (a ++ b) both f).1, (added longest report a s h).1, (added longest x b t g).1) e
