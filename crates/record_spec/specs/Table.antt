-- The table in force that a reader or a writer is told: of its peers only their number counts.
use Rattle.form_spec.specs.Shape.{St, no_table, with_peers}
use Rattle.std.specs.Prelude.{ℕ, replicate, Option, Some, None}

abbrev pub Table : Type 0
Table = Option ℕ

pattern abbrev pub Absent : Table
Absent = None

pattern abbrev pub Holds : (peers : ℕ) → Table
Holds n = Some n

abbrev pub state_of : Table → St
state_of Absent = no_table
state_of (Holds n) = with_peers (replicate n 0)
