-- One step through a dump: the end; a fault and its place; or a record, and the table in force behind it.
use Rattle.std.specs.Prelude.{Option, Some, None, Result, Ok}
use Rattle.form_spec.specs.declared.Fault.{Fault}
use Rattle.record_spec.specs.Table.{Table}
use Rattle.walk_spec.specs.declared.Item.{Item}

abbrev pub Step : Type 0
Step = Result (Option (Item × Table)) Fault

pattern abbrev pub End : Step
End = Ok None

pattern abbrev pub Record : Item → Table → Step
Record i t = Ok (Some (i, t))
