-- The sequence of the last record of type 12, if there was one.
use Rattle.std.specs.Prelude.{ℕ, Option, Some, None}

abbrev pub Last : Type 0
Last = Option ℕ

pattern abbrev pub Absent : Last
Absent = None

pattern abbrev pub Was : (sequence : ℕ) → Last
Was s = Some s
