-- The form of a writer's values: numbers of so many octets, or octets.
use Rattle.std.specs.Prelude.{Bool, true, false, ◌≡◌, ◌⊎◌, List, [], ◌∷◌, ◌++◌, ℕ, ◌<◌, eqb, ltb}
use Rattle.std.proofs.Math.Option.{Option, none, some}
use Rattle.form_spec.specs.Words.{◌$◌, choose}
use Rattle.form_spec.specs.Octets.{Octets}
use Rattle.form_spec.specs.Put.{Value, digits, bytes, Tail, nothing, carried, items, Given}
use Rattle.page_spec.specs.Layout.{kind, finer}
use Rattle.write_spec.specs.Only.{table_dumps, peer_tables, ribs, generic_ribs, changes, messages, unreads, as_octets}

abbrev pub form_of : Value → Option ℕ
form_of (digits w n) = some w
form_of (bytes c) = none

abbrev pub forms : List Value → List (Option ℕ)
forms [] = []
forms (v ∷ vs) = form_of v ∷ forms vs

abbrev pub micro_forms : (fine : Bool) → List (Option ℕ)
micro_forms true = some 4 ∷ []
micro_forms false = []

abbrev pub session_forms : (width : ℕ) → List (Option ℕ) → List (Option ℕ)
session_forms w fs = some w ∷ some w ∷ some 2 ∷ some 2 ∷ none ∷ none ∷ fs

-- the values that each writer is given; those of unread contents are the microseconds
unfoldable pub forms_for : (writer : ℕ) (fine : Bool) (width : ℕ) → List (Option ℕ)
forms_for n fine w =
    choose (eqb n table_dumps) (some 2 ∷ some 2 ∷ none ∷ some 1 ∷ some 1 ∷ some 4 ∷ none ∷ some 2 ∷ some 2 ∷ none ∷ [])
    $ choose (eqb n peer_tables) (some 4 ∷ some 2 ∷ none ∷ [])
    $ choose (eqb n ribs) (some 4 ∷ some 1 ∷ none ∷ [])
    $ choose (eqb n generic_ribs) (some 4 ∷ some 2 ∷ some 1 ∷ some 1 ∷ none ∷ [])
    $ choose (eqb n changes) (micro_forms fine ++ session_forms w (some 2 ∷ some 2 ∷ []))
    $ choose (eqb n messages) (micro_forms fine ++ session_forms w (none ∷ none ∷ none ∷ none ∷ []))
    $ micro_forms (ltb (unreads 0) n)

-- what a writer is given has the form of its own records' values
abbrev pub Formed : (writer : ℕ) → Given → List (Option ℕ)
Formed n g = forms_for n (finer g.type) (as_octets (kind g.type g.sub))

-- and so has what follows them: nothing, contents or items
abbrev pub TailFor : (writer : ℕ) → Tail → Type 0
TailFor n nothing = (n ≡ table_dumps) ⊎ ((n ≡ changes) ⊎ (n ≡ messages))
TailFor n (carried r) = Octets r × (messages < n)
TailFor n (items c raw) = Octets raw × (table_dumps < n) × (n < changes)
