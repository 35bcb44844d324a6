-- What a writer answers, and what its buffer holds then (document 01, "Number and place of a fault" and the writer's paragraph).
use Rattle.std.specs.Prelude.{◌≡◌, ℕ, zero, suc, ◌+◌, min, List, ltb}
use Rattle.form_spec.specs.Put.{Given, octets, record_refusal}
use Rattle.form_spec.specs.Shape.{Layout, St}
use Rattle.form_spec.specs.Words.{choose}
use Rattle.room_spec.specs.Room.{written, holds, Answers}
use Rattle.room_spec.specs.Written.{Written, Octets}
use Rattle.form_spec.specs.Refusal.{refused}

-- the promises of every writer: a record's refusal has the place 0
abbrev pub writer_answer : (layout : ℕ → ℕ → Layout) (st : St) (g : Given) (out : List ℕ) → Written
writer_answer layout st g out = written (record_refusal layout st g) 0 (octets g) out

abbrev pub writer_leaves : (layout : ℕ → ℕ → Layout) (st : St) (g : Given) (out : List ℕ) → List ℕ
writer_leaves layout st g out = holds (record_refusal layout st g) (octets g) out

-- a writer's answer r, what its buffer, which was out, holds then, and the answer's number, place and count
abbrev pub Writes : (layout : ℕ → ℕ → Layout) (st : St) (g : Given) (out : List ℕ) (r : Written) (holding : List ℕ) → Type 0
Writes layout st g out r holding = (r ≡ writer_answer layout st g out) × (holding ≡ writer_leaves layout st g out) × Answers (record_refusal layout st g) 0 (octets g) out r

-- ---- the same by numbers, as code has them

-- the largest number that a `usize` holds stands for any larger one
abbrev pub capped : ℕ → ℕ
capped n = min n 18446744073709551615

unfoldable pub verdict_of : (refused size room : ℕ) → Written
verdict_of zero size room =
    choose (ltb 4294967295 size) (refused 6 0)
    (choose (ltb room (12 + size)) (refused 15 0) (Octets (12 + size)))
verdict_of (suc n) size room = refused (suc n) 0
