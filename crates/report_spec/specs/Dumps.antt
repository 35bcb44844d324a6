-- Several dumps: the break between two that are laid end to end, and what dumps leave of a report, each added in turn or all of them summed.
use Rattle.std.specs.Prelude.{◌≡◌, ℕ, eqb}
use mathlib.Core.List.{List, [], ◌∷◌, map, foldr}
use Rattle.form_spec.specs.Octets.{Octets}
use Rattle.form_spec.specs.Words.{choose}
use Rattle.form_spec.specs.Dump.{walk_all}
use Rattle.page_spec.specs.Layout.{layout}
use Rattle.report_spec.specs.Notice.{notice}
use Rattle.report_spec.specs.Own.{seam}
use Rattle.report_spec.specs.Sum.{sums}
use Rattle.report_spec.specs.Answer.{report_of, report_answer, report_leaves}

-- each of them is octets
abbrev pub AllOctets : List (List ℕ) → Type 0
AllOctets [] = Unit
AllOctets (d ∷ ds) = Octets d × AllOctets ds

-- `longest` counts the octets of the longest BGP message
module _ (longest : ℕ) where
  -- the break between two dumps, laid end to end
  abbrev pub seam_of : (a b : List ℕ) → ℕ
  seam_of a b = seam (map (notice longest) (walk_all (layout longest) a).recs) (map (notice longest) (walk_all (layout longest) b).recs)

  -- behind dumps, each added in turn
  abbrev pub reports_leave : (report : List ℕ) (ds : List (List ℕ)) → List ℕ
  reports_leave report [] = report
  reports_leave report (d ∷ ds) = reports_leave (report_leaves longest report d) ds

  -- no call answers 16
  abbrev pub NonePasses : (report : List ℕ) (ds : List (List ℕ)) → Type 0
  NonePasses report [] = Unit
  NonePasses report (d ∷ ds) = ((report_answer longest report d).fault ≡ 16 → ⊥) × NonePasses (report_leaves longest report d) ds

  -- with a dump's own report added, however large the sums; a faulty dump adds nothing
  abbrev pub plus : (d report : List ℕ) → List ℕ
  plus d report = choose (eqb (walk_all (layout longest) d).fault 0) (sums report (report_of longest d)) report

  abbrev pub together : (report : List ℕ) (ds : List (List ℕ)) → List ℕ
  together report ds = foldr plus report ds
