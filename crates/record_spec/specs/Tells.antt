-- A table as a reader or writer is told it stands for a table in force: none, or one of so many peers.
use Rattle.std.specs.Prelude.{◌≡◌, length}
use Rattle.form_spec.specs.Shape.{St, no_table, with_peers}
use Rattle.record_spec.specs.Table.{Table, Absent, Holds}

abbrev pub Tells : Table → St → Type 0
Tells Absent no_table = Unit
Tells Absent (with_peers ns) = ⊥
Tells (Holds n) no_table = ⊥
Tells (Holds n) (with_peers ns) = n ≡ length ns
