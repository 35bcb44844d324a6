-- What reading one record shows: nothing, where there are no octets at all; a refusal; or a record's header and body.
use Rattle.std.specs.Prelude.{Option, Some, None, Result, Ok}
use Rattle.form_spec.specs.declared.Fault.{Fault}
use Rattle.record_spec.specs.declared.Header.{Header}
use Rattle.record_spec.specs.declared.Body.{Body}

abbrev pub Shown : Type 0
Shown = Result (Option (Header × Body)) Fault

pattern abbrev pub Nothing : Shown
Nothing = Ok None

pattern abbrev pub Good : Header → Body → Shown
Good h b = Ok (Some (h, b))
