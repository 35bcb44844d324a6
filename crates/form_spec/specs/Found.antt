-- What reading found, where it is accepted.
use Rattle.std.specs.Prelude.{List, [], ℕ}
use Rattle.form_spec.specs.Fmt.{Out, bad, good, Fmt, read}
use Rattle.form_spec.specs.Body.{read_n}

-- a fault's number, or 0, whatever is left
abbrev pub fault_number : {A : Type 0} → Out A → ℕ
fault_number (bad n p) = n
fault_number (good a r) = 0

-- no fault
abbrev pub Accepted : {A : Type 0} → Out A → Type 0
Accepted (bad n p) = ⊥
Accepted (good a r) = Unit

abbrev pub found : {A : Type 0} → Out (List A) → List A
found (bad n p) = []
found (good a r) = a

-- n items of a format at the front of bs; one
unfoldable pub Lie : Fmt → ℕ → List ℕ → Type 0
Lie f n bs = Accepted (read_n f n 0 bs)

unfoldable pub items : Fmt → ℕ → List ℕ → List (List (List ℕ))
items f n bs = found (read_n f n 0 bs)

unfoldable pub Lies : Fmt → List ℕ → Type 0
Lies f bs = Accepted (read f 0 bs)

unfoldable pub item : Fmt → List ℕ → List (List ℕ)
item f bs = found (read f 0 bs)
