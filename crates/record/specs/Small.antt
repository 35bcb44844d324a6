-- A number of at most 4 octets.
use Rattle.std.specs.Prelude.{ℕ, ◌^◌, ◌<◌, Result, Err}
use Rattle.form_spec.specs.declared.Fault.{Fault}
use Rattle.octets_spec.specs.Field.{Num}

abbrev pub Small : Result (ℕ × ℕ) Fault → Type 0
Small (Num v a) = v < 2 ^ 32
Small (Err why) = Unit
