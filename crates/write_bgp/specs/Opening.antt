-- What every message of types 16 and 17 opens with: the microseconds, where there are any, and the session; an AS number has `width` octets.
use Rattle.std.specs.Prelude.{List, [], ◌++◌, ℕ, ◌+◌, length}
use Rattle.form_spec.specs.Put.{Value}
use Rattle.write_spec.specs.Times.{micro_size, micros}
use Rattle.write_spec.specs.Givens.{session_values}
use Rattle.write_spec.specs.declared.Time.{Time}

abbrev pub opening_values : (time : Time) (width peer local interface family : ℕ) (theirs ours : List ℕ) → List Value
opening_values t w p l i f theirs ours = micros t ++ session_values w p l i f theirs ours []

-- their octets
abbrev pub opening_size : (time : Time) (width : ℕ) (theirs ours : List ℕ) → ℕ
opening_size t w theirs ours = micro_size t + (w + (w + (4 + (length theirs + length ours))))
