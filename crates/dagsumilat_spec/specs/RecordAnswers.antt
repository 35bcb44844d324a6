-- A record of a dump as the calls tell it: offsets and numbers, and none of a thing is the largest number of 64 bits.
use Rattle.std.specs.Prelude.{List, ℕ, eqb, drop, Err}
use Rattle.form_spec.specs.Words.{choose}
use Rattle.record_spec.specs.Table.{Table, Absent, Holds}
use Rattle.record_spec.specs.Shown.{Shown}
use Rattle.record_spec.specs.One.{read_one}
use Rattle.walk_spec.specs.Steps.{step_at}
use Rattle.walk_spec.specs.declared.Item.{Item}
use Rattle.walk_spec.specs.Step.{Step}
use Rattle.walk_spec.specs.Step as step
use Rattle.look_spec.specs.Field.{peer_of, items_at, count_of}
use Rattle.look_spec.specs.Sort.{Sort, unread, of_peer, table, rib, sort_of}
use Rattle.dagsumilat_spec.specs.declared.RecordAnswer.{RecordAnswer}

abbrev pub none : ℕ
none = 18446744073709551615

-- the table in force: none, or one of so many peers
abbrev pub table_by_count : ℕ → Table
table_by_count n = choose (eqb n none) Absent (Holds n)

abbrev pub count_of_table : Table → ℕ
count_of_table Absent = none
count_of_table (Holds n) = n

-- no record: none is left at `at`, or there is a fault
abbrev pub no_record : (fault at table : ℕ) → RecordAnswer
no_record n at t = record { fault = n; place = at; table = t; time = 0; ty = 0; subtype = 0; length = 0; peer = none; items = 0; count = 0 }

-- a good one, the table behind it, its peer AS, where its items start, counted from its header, and how many they are
abbrev pub good : Item → (table peer items count : ℕ) → RecordAnswer
good i t p o n = record { fault = 0; place = i.next; table = t; time = i.time; ty = i.ty; subtype = i.subtype; length = i.length; peer = p; items = o; count = n }

-- what is shown of it, by its sort
abbrev pub by_sort : Item → (table : ℕ) → Shown → Sort → RecordAnswer
by_sort i t x unread = good i t none 0 0
by_sort i t x of_peer = good i t (peer_of x) 0 0
by_sort i t x table = good i t none (items_at x) (count_of x)
by_sort i t x rib = good i t none (items_at x) (count_of x)

abbrev pub answer_of : (table at : ℕ) → Step → Shown → RecordAnswer
answer_of t at step.End x = no_record 0 at t
answer_of t at (Err why) x = no_record why.number why.place t
answer_of t at (step.Record i u) x = by_sort i (count_of_table u) x (sort_of x)

-- the record that starts at `at`; `longest` counts the octets of the longest BGP message
unfoldable pub answer_at : (longest table : ℕ) (d : List ℕ) (at : ℕ) → RecordAnswer
answer_at longest t d at = answer_of t at (step_at longest (table_by_count t) d at) (read_one longest (table_by_count t) (drop at d))
