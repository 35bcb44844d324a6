-- A record's time, as a writer is given it.
use Rattle.std.specs.Prelude.{ℕ, List, [], ◌∷◌}
use Rattle.form_spec.specs.Put.{Value, digits}
use Rattle.write_spec.specs.declared.Time.{Time}
use Rattle.write_spec.specs.declared.Time.TheVariants.{Seconds, Micro}

abbrev pub stamp_of : Time → ℕ
stamp_of (Seconds t) = t
stamp_of (Micro t u) = t

-- octets of the microseconds, and their field
abbrev pub micro_size : Time → ℕ
micro_size (Seconds t) = 0
micro_size (Micro t u) = 4

abbrev pub micros : Time → List Value
micros (Seconds t) = []
micros (Micro t u) = digits 4 u ∷ []

-- state changes and BGP messages have type 16, or 17 with microseconds
abbrev pub bgp4mp : Time → ℕ
bgp4mp (Seconds t) = 16
bgp4mp (Micro t u) = 17
