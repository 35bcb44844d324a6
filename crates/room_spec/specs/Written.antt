-- What a call answers that writes into lent room: how many octets were written, or the refusal.
use Rattle.std.specs.Prelude.{ℕ, Result, Ok}
use Rattle.form_spec.specs.declared.Fault.{Fault}

abbrev pub Written : Type 0
Written = Result ℕ Fault

pattern abbrev pub Octets : ℕ → Written
Octets k = Ok k
