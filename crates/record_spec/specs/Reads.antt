-- What reading one record promises: all that is shown, and the number and place that the record's grammar gives (document 01, "Record layouts":
-- no octets answer 0 and place 0, a good record 0 and the place where it ends, and a fault's place counts from the header).
use Rattle.std.specs.Prelude.{◌≡◌, List, [], ◌∷◌, ℕ}
use Rattle.form_spec.specs.Fmt.{Out, bad, good}
use Rattle.form_spec.specs.Found.{fault_number}
use Rattle.form_spec.specs.Record.{Rec, size, read_rec}
use Rattle.page_spec.specs.Layout.{layout}
use Rattle.record_spec.specs.Table.{Table, state_of}
use Rattle.record_spec.specs.Shown.{Shown}
use Rattle.record_spec.specs.One.{read_one}
use Rattle.record_spec.specs.Answer.{fault, place}

abbrev pub place_in : Out Rec → ℕ
place_in (bad n p) = p
place_in (good r q) = size r

module _ (longest : ℕ) (t : Table) where
  -- the number and the place of the record that starts s
  abbrev pub number_at : (s : List ℕ) → ℕ
  number_at [] = 0
  number_at (x ∷ s) = fault_number (read_rec (layout longest) (state_of t) 0 (x ∷ s))

  abbrev pub place_at : (s : List ℕ) → ℕ
  place_at [] = 0
  place_at (x ∷ s) = place_in (read_rec (layout longest) (state_of t) 0 (x ∷ s))

  abbrev pub Reads : (s : List ℕ) → Shown → Type 0
  Reads s x = (x ≡ read_one longest t s) × (fault x ≡ number_at s) × (place x ≡ place_at s)
