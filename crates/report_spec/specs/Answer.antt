-- What adding a dump to a report answers and leaves there: the dump's fault first, then 16 where a sum passes 64 bits, and with either the
-- report as it was.
use Rattle.std.specs.Prelude.{◌≡◌, List, map, ℕ, eqb}
use Rattle.form_spec.specs.Words.{choose}
use Rattle.form_spec.specs.Dump.{Walk, walk_all}
use Rattle.page_spec.specs.Layout.{layout}
use Rattle.report_spec.specs.declared.Added.{Added}
use Rattle.report_spec.specs.Notice.{notice}
use Rattle.report_spec.specs.Own.{own}
use Rattle.report_spec.specs.Sum.{sums, fit}

abbrev pub added : (fault place : ℕ) → Added
added n p = record { fault = n; place = p }

-- `longest` counts the octets of the longest BGP message
module _ (longest : ℕ) where
  -- the report of the records that a walk went over
  abbrev pub own_of : Walk → List ℕ
  own_of w = own (map (notice longest) w.recs)

  -- the 39 numbers of `report` with the dump's added
  abbrev pub total : (report : List ℕ) → Walk → List ℕ
  total report w = sums report (own_of w)

  abbrev pub answer_of : (report : List ℕ) → Walk → Added
  answer_of report w =
      choose (eqb w.fault 0) (choose (fit (total report w)) (added 0 w.place) (added 16 0)) (added w.fault w.place)

  abbrev pub leaves_of : (report : List ℕ) → Walk → List ℕ
  leaves_of report w = choose (eqb w.fault 0) (choose (fit (total report w)) (total report w) report) report

  unfoldable pub report_answer : (report d : List ℕ) → Added
  report_answer report d = answer_of report (walk_all (layout longest) d)

  unfoldable pub report_leaves : (report d : List ℕ) → List ℕ
  report_leaves report d = leaves_of report (walk_all (layout longest) d)

  -- the promise of adding: r is answered, and the report is held then
  abbrev pub Adds : (report d : List ℕ) (r : Added) (held : List ℕ) → Type 0
  Adds report d r held = (r ≡ report_answer report d) × (held ≡ report_leaves report d)

  -- a dump's own report
  abbrev pub report_of : (d : List ℕ) → List ℕ
  report_of d = own_of (walk_all (layout longest) d)
