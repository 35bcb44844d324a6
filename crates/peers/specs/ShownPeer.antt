-- A peer as it is shown, by its fields.
use Rattle.std.specs.Prelude.{ℕ, Result, Ok}
use Rattle.form_spec.specs.declared.Fault.{Fault}
use Rattle.record_spec.specs.declared.Part.{Part}
use Rattle.record_spec.specs.declared.Peer.{Peer}

abbrev pub shown_peer : (kind id : ℕ) → (address : Part) → (as_number next : ℕ) → Result Peer Fault
shown_peer k i a n q = Ok (record { kind = k; id = i; address = a; as_number = n; next = q })
