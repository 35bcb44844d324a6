-- A report counted as a dump is gone through; records that are not heeded are only numbered.
use Rattle.std.specs.Prelude.{Bool, cond, List, [], map, ℕ, ◌+◌, ◌-◌, length, get_or, set}
use Rattle.form_spec.specs.Record.{Rec}
use Rattle.form_spec.specs.Dump.{Walk, writes, walk_all}
use Rattle.page_spec.specs.Layout.{layout}
use Rattle.report_spec.specs.declared.Notice.{Notice}
use Rattle.report_spec.specs.declared.Notice.TheVariants.{Plain}
use Rattle.report_spec.specs.declared.Tallied.{Tallied}
use Rattle.report_spec.specs.Notice.{notice}
use Rattle.report_spec.specs.Own.{own}

-- one more where the old state went to the new one
abbrev pub bumped : List (List ℕ) → (old new : ℕ) → List (List ℕ)
bumped t o n = set t (o - 1) (set (get_or t (o - 1) []) (n - 1) (get_or (get_or t (o - 1) []) (n - 1) 0 + 1))

-- `longest` counts the octets of the longest BGP message
module _ (heed : Bool) (longest : ℕ) where
  abbrev pub heeded : Rec → Notice
  heeded r = cond heed (notice longest r) Plain

  unfoldable pub tally_of : Walk → Tallied
  tally_of w = record { fault = w.fault; place = w.place; start = length (writes w.recs); own = own (map heeded w.recs) }

  unfoldable pub tallied : (d : List ℕ) → Tallied
  tallied d = tally_of (walk_all (layout longest) d)
