-- Document 01's number and place for each answer of a step, and what a step promises: all of its answer, and these two as the record's grammar
-- gives them.
use Rattle.std.specs.Prelude.{◌≡◌, List, ℕ, ◌+◌, drop, Err}
use Rattle.record_spec.specs.Table.{Table}
use Rattle.record_spec.specs.Reads.{number_at, place_at}
use Rattle.walk_spec.specs.Step.{Step, End, Record}
use Rattle.walk_spec.specs.Steps.{step_at}

abbrev pub fault : Step → ℕ
fault End = 0
fault (Err why) = why.number
fault (Record i t) = 0

-- of a step from `at`; behind a record, where it ends
abbrev pub place : (at : ℕ) → Step → ℕ
place at End = at
place at (Err why) = why.place
place at (Record i t) = i.next

abbrev pub Steps : (longest : ℕ) → Table → List ℕ → (at : ℕ) → Step → Type 0
Steps longest t d at r = (r ≡ step_at longest t d at) × (fault r ≡ number_at longest t (drop at d)) × (place at r ≡ at + place_at longest t (drop at d))
