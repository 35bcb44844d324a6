-- A session that was read, and the place behind it.
use Rattle.std.specs.Prelude.{ℕ, List, Result, Ok}
use Rattle.form_spec.specs.Pass.{Seen}
use Rattle.form_spec.specs.declared.Fault.{Fault}
use Rattle.record_spec.specs.Fields.{session}
use Rattle.record_spec.specs.declared.Session.{Session}

pattern abbrev pub With : Session → (next : ℕ) → Result (Session × ℕ) Fault
With s a = Ok (s, a)

abbrev pub met : List Seen → (a p : ℕ) → Result (Session × ℕ) Fault
met fs a p = With (session fs) a
