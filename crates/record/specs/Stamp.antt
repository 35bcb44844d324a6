-- A header with the microseconds that were read behind it, and the place behind them.
use Rattle.std.specs.Prelude.{List, ℕ, Result, Ok, Err}
use Rattle.form_spec.specs.declared.Fault.{Fault}
use Rattle.octets_spec.specs.Field.{Num}
use Rattle.record_spec.specs.One.{header}
use Rattle.record_spec.specs.declared.Header.{Header}

abbrev pub stamp_of : List ℕ → Result (ℕ × ℕ) Fault → Result (Header × ℕ) Fault
stamp_of m (Num u at) = Ok (header m u, at)
stamp_of m (Err why) = Err why
