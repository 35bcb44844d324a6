-- A fault as what a call answers: document 01's number of it, and its place.
use Rattle.std.specs.Prelude.{ℕ, Result, Ok, Err}
use Rattle.form_spec.specs.declared.Fault.{Fault}

abbrev pub refused : {A : Type 0} → (number place : ℕ) → Result A Fault
refused n p = Err (record { number = n; place = p })

-- the number of an answer's fault, or 0
abbrev pub number_in : {A : Type 0} → Result A Fault → ℕ
number_in (Ok x) = 0
number_in (Err why) = why.number
