-- The order in which dumps are added means nothing, where no sum passes 64 bits.
use mathlib.Core.Path.{◌≡◌, refl, sym, ap, ◌∙◌}
use mathlib.Core.Bool.{Bool, true, false, false≢true}
use mathlib.Core.HLevel.{hedberg}
use mathlib.Core.List.Perm
use mathlib.Core.List.{List, [], ◌∷◌, Perm, is_set}
use Prim.Native.Nat.{ℕ}
use native.Mathlib.Decide.{ℕ_discrete}
use native.Mathlib.Omega.{arith}
use lib.Dec.{eqb}
use lib.ListN.{length}
use borrow.Author.Tests.{ne_eqb}
use Rattle.form_spec.specs.Octets.{Octets}
use Rattle.form_spec.specs.Words.{choose}
use Rattle.form_spec.specs.Dump.{walk_all}
use Rattle.form_laws.proofs.Dump.{accepts}
use Rattle.page_spec.specs.Layout.{layout}
use Rattle.report_spec.specs.Sum.{sums, fit}
use Rattle.report_spec.specs.Answer.{report_answer, report_leaves, report_of}
use Rattle.report_spec.specs.Dumps.{reports_leave, NonePasses, plus, together, AllOctets}
use Rattle.report_laws.proofs.Faults.{no_sixteen}
use Rattle.report_laws.proofs.Adding.{sums_both, sums_swap, length-sums, fit_less}
use Rattle.report_laws.proofs.Answers.{length_report, ways}

-- ---- sums of any size

adds_swap : (t u : Bool) (r a b : List ℕ) → choose t (sums (choose u (sums r b) r) a) (choose u (sums r b) r) ≡ choose u (sums (choose t (sums r a) r) b) (choose t (sums r a) r)
unfolding choose
adds_swap true true r a b = sums_both r b a ∙ rw (sums_swap b a) (sym (sums_both r a b))
adds_swap true false r a b = refl
adds_swap false true r a b = refl
adds_swap false false r a b = refl

sets : IsSet (List ℕ)
sets = is_set (hedberg ℕ_discrete)

module _ (longest : ℕ) where
  plus_swap : (d e report : List ℕ) → plus longest d (plus longest e report) ≡ plus longest e (plus longest d report)
  plus_swap d e report = adds_swap _ _ report (report_of longest d) (report_of longest e)

  pub any_order : (report : List ℕ) (ds es : List (List ℕ)) → Perm ds es → together longest report ds ≡ together longest report es
  any_order report ds es p = Perm.foldr-eq sets (plus longest) plus_swap p report

  -- the first dump added first
  first : (report d : List ℕ) (ds : List (List ℕ)) → together longest (plus longest d report) ds ≡ together longest report (d ∷ ds)
  first report d [] = refl
  first report d (e ∷ ds) = ap (plus longest e) (first report d ds) ∙ plus_swap e d (together longest report ds)

  -- ---- a dump added, where the sums fit

  plus_refused : (d report : List ℕ) → ((walk_all (layout longest) d).fault ≡ 0 → ⊥) → plus longest d report ≡ report
  unfolding choose
  plus_refused d report h = rw (ne_eqb (walk_all (layout longest) d).fault 0 h)

  plus_split : (d report : List ℕ) → (walk_all (layout longest) d).fault ≡ 0 → plus longest d report ≡ sums report (report_of longest d)
  unfolding choose
  plus_split d report e = rw e

  length-plus : (d report : List ℕ) → length report ≡ 39 → length (plus longest d report) ≡ 39
  unfolding choose
  length-plus d report l = go (eqb (walk_all (layout longest) d).fault 0)
    where
      go : (t : Bool) → length (choose t (sums report (report_of longest d)) report) ≡ 39
      go true = length-sums report (report_of longest d) (l ∙ sym (length_report longest d)) ∙ l
      go false = l

  less_plus : (d report : List ℕ) → length report ≡ 39 → fit (plus longest d report) ≡ true → fit report ≡ true
  unfolding choose
  less_plus d report l = go (eqb (walk_all (layout longest) d).fault 0)
    where
      go : (t : Bool) → fit (choose t (sums report (report_of longest d)) report) ≡ true → fit report ≡ true
      go true = fit_less report (report_of longest d) (l ∙ sym (length_report longest d))
      go false = λ f. f

  less_together : (report : List ℕ) (ds : List (List ℕ)) → length report ≡ 39 → fit (together longest report ds) ≡ true → fit report ≡ true
  less_together report [] l f = f
  less_together report (d ∷ ds) l f = less_plus d report l (less_together (plus longest d report) ds (length-plus d report l) (rw (first report d ds) f))

  leaves_plus : (report d : List ℕ) → Octets d → fit (plus longest d report) ≡ true
      → ((report_answer longest report d).fault ≡ 16 → ⊥) × (report_leaves longest report d ≡ plus longest d report)
  leaves_plus report d oc =
      ways longest report d oc (λ x r. fit (plus longest d report) ≡ true → (x.fault ≡ 16 → ⊥) × (r ≡ plus longest d report))
      (λ h f. (λ e. no_sixteen longest d e, sym (plus_refused d report h)))
      (λ s f g. let e = plus_split d report ((accepts (layout longest) d oc).1 s) in absurd (false≢true (sym f ∙ rw e at g)))
      (λ s f g. (λ e. omega arith, sym (plus_split d report ((accepts (layout longest) d oc).1 s))))

  pub in_turn : (report : List ℕ) (ds : List (List ℕ)) → AllOctets ds → length report ≡ 39 → fit (together longest report ds) ≡ true
      → (reports_leave longest report ds ≡ together longest report ds) × NonePasses longest report ds
  in_turn report [] oc l f = (refl, tt)
  in_turn report (d ∷ ds) oc l f =
      let g : fit (together longest (plus longest d report) ds) ≡ true = rw (first report d ds) f in
      let m : length (plus longest d report) ≡ 39 = length-plus d report l in
      let a = leaves_plus report d oc.0 (less_together (plus longest d report) ds m g) in
      let b = in_turn (plus longest d report) ds oc.1 m g in
      (rw a.1 b.0 ∙ first report d ds, (a.0, rw a.1 b.1))

  -- ---- that they fit can be told from the answers

  leaves_fit : (report d : List ℕ) → Octets d → ((report_answer longest report d).fault ≡ 16 → ⊥) → fit report ≡ true
      → (report_leaves longest report d ≡ plus longest d report) × (fit (report_leaves longest report d) ≡ true)
  leaves_fit report d oc =
      ways longest report d oc (λ x r. (x.fault ≡ 16 → ⊥) → fit report ≡ true → (r ≡ plus longest d report) × (fit r ≡ true)) (λ h e g. (sym (plus_refused d report h), g))
      (λ s f e g. absurd (e refl)) (λ s f e g. (sym (plus_split d report ((accepts (layout longest) d oc).1 s)), f))

  pub none_passes_fit : (report : List ℕ) (ds : List (List ℕ)) → AllOctets ds → fit report ≡ true → NonePasses longest report ds → fit (together longest report ds) ≡ true
  none_passes_fit report [] oc g n = g
  none_passes_fit report (d ∷ ds) oc g n =
      let a = leaves_fit report d oc.0 n.0 g in
      let b = none_passes_fit (report_leaves longest report d) ds oc.1 a.1 n.1 in
      rw (← (first report d ds)) (rw a.0 at b)

  -- if no sum passes 64 bits in one order, none does in another, and both leave the same
  pub order_means_nothing : (report : List ℕ) (ds es : List (List ℕ)) → AllOctets ds → AllOctets es → length report ≡ 39 → fit report ≡ true → Perm ds es
      → NonePasses longest report ds → NonePasses longest report es × (reports_leave longest report es ≡ reports_leave longest report ds)
  order_means_nothing report ds es od oe l g p n =
      let f : fit (together longest report ds) ≡ true = none_passes_fit report ds od g n in
      let o = any_order report ds es p in
      let a = in_turn report ds od l f in
      let b = in_turn report es oe l (rw o at f) in
      (b.1, b.0 ∙ sym o ∙ sym a.0)
