-- What a writer's checks answer: nothing, or the fault with which the writer refuses.
use Rattle.std.specs.Prelude.{ℕ, zero, suc, ⊤, Result, Ok, Err}
use Rattle.form_spec.specs.Refusal.{refused}
use Rattle.form_spec.specs.declared.Fault.{Fault}

-- by number; 0 is none
abbrev pub judged : ℕ → Result ⊤ Fault
judged zero = Ok tt
judged (suc n) = refused (suc n) 0

-- a reader's fault has the reader's place, which means nothing to a writer
abbrev pub unplaced : Result ⊤ Fault → Result ⊤ Fault
unplaced (Ok x) = Ok x
unplaced (Err why) = refused why.number 0
