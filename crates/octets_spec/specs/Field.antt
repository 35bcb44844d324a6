-- A field of a message: its number and the place after it; where its octets are not all there, 5, at its first octet.
use Rattle.std.specs.Prelude.{ℕ, ◌+◌, List, length, ltb, Result, Ok}
use Rattle.form_spec.specs.Words.{choose}
use Rattle.form_spec.specs.Refusal.{refused}
use Rattle.form_spec.specs.declared.Fault.{Fault}
use Rattle.octets_spec.specs.Be.{num_at}

-- a number that was read, and the place after it
pattern abbrev pub Num : (number next : ℕ) → Result (ℕ × ℕ) Fault
Num v a = Ok (v, a)

-- the w octets at `at`
unfoldable pub field_at : List ℕ → ℕ → ℕ → Result (ℕ × ℕ) Fault
field_at m at w = choose (ltb (length m) (at + w)) (refused 5 at) (Num (num_at m at w) (at + w))

-- past n octets
unfoldable pub room_at : List ℕ → ℕ → ℕ → Result ℕ Fault
room_at m at n = choose (ltb (length m) (at + n)) (refused 5 at) (Ok (at + n))
