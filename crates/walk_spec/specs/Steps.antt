-- One step over a dump: the record that starts at an offset, where a table is told (document 01, "Number and place of a fault").
use Rattle.std.specs.Prelude.{List, ℕ, ◌+◌, drop, Err}
use Rattle.record_spec.specs.declared.Header.{Header}
use Rattle.record_spec.specs.Table.{Table}
use Rattle.record_spec.specs.Shown.{Shown, Nothing, Good}
use Rattle.record_spec.specs.One.{read_one}
use Rattle.record_spec.specs.Answer.{end, time, table_behind}
use Rattle.walk_spec.specs.Step.{Step, End, Record}
use Rattle.form_spec.specs.Refusal.{refused}

-- a record at `at`, and the table in force behind it
abbrev pub stepped : (at : ℕ) → Header → Table → Step
stepped at h t = Record (record { at = at; time = time h; ty = h.ty; subtype = h.subtype; length = h.length; next = at + end h }) t

-- reading one record counts places from its start
abbrev pub step_of : Table → (at : ℕ) → Shown → Step
step_of t at Nothing = End
step_of t at (Err why) = refused why.number (at + why.place)
step_of t at (Good h b) = stepped at h (table_behind t b)

-- `longest` counts the octets of the longest BGP message
unfoldable pub step_at : (longest : ℕ) → Table → List ℕ → (at : ℕ) → Step
step_at longest t d at = step_of t at (read_one longest t (drop at d))
