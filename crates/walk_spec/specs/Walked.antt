-- What the walk over a dump answers: the first fault or none, its place, where the faulty record starts, and the number of records before it.
use Rattle.std.specs.Prelude.{List, ◌++◌, ℕ, length}
use Rattle.form_spec.specs.Record.{Rec}
use Rattle.form_spec.specs.Dump.{Walk, writes, walk_all}
use Rattle.page_spec.specs.Layout.{layout}
use Rattle.walk_spec.specs.declared.Walked.{Walked}

-- a walk behind records that it has passed
abbrev pub befores : List Rec → Walk → Walk
befores rs w = record { fault = w.fault; place = w.place; recs = rs ++ w.recs }

-- the faulty record starts where the records before it end; where there is no fault, that is the dump's length
abbrev pub walked_of : Walk → Walked
walked_of w = record { fault = w.fault; place = w.place; start = length (writes w.recs); records = length w.recs }

unfoldable pub walked : (longest : ℕ) → List ℕ → Walked
walked longest d = walked_of (walk_all (layout longest) d)
