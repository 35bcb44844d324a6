-- What a call that writes one record is given for a time, and what it tells.
use Rattle.std.specs.Prelude.{◌≡◌, List, [], ◌∷◌, ℕ, eqb}
use Rattle.form_spec.specs.Put.{Given}
use Rattle.form_spec.specs.Shape.{Layout, St}
use Rattle.form_spec.specs.Words.{choose}
use Rattle.room_spec.specs.Written.{Written}
use Rattle.room_spec.specs.Answer as written
use Rattle.write_spec.specs.declared.Time.{Time}
use Rattle.write_spec.specs.declared.Time.TheVariants.{Seconds, Micro}
use Rattle.write_spec.specs.Verdict.{writer_answer, writer_leaves}
use Rattle.dagsumilat_spec.specs.Answers.{words}

-- `micro` is 0 where there are no microseconds
abbrev pub time_by : (timestamp micro microseconds : ℕ) → Time
time_by t m u = choose (eqb m 0) (Seconds t) (Micro t u)

-- fault, octets written
abbrev pub write_words : (array : List ℕ) → Written → List ℕ
write_words a w = words a (written.fault w ∷ written.count w ∷ [])

-- what the answer array and the buffer hold after a call, where they were `array` and `out`
abbrev pub Reports : (layout : ℕ → ℕ → Layout) (st : St) (g : Given) (out array : List ℕ) (telling holding : List ℕ) → Type 0
Reports layout st g out array telling holding = (telling ≡ write_words array (writer_answer layout st g out)) × (holding ≡ writer_leaves layout st g out)
