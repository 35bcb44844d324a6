-- What holds where the loop over the dump stands before a record, and behind it.
use Rattle.std.specs.Prelude.{◌≡◌, false, List, ℕ, ◌<◌, length, Option}
use Rattle.record_spec.specs.Answer.{fault}
use Rattle.record_spec.specs.Tells.{Tells}
use Rattle.cut_spec.specs.Keep.{kept}
use Rattle.cut_spec.specs.Cut.{mem, numbers}
use Rattle.cut_spec.specs.One.{Ranked}
use Rattle.cut.specs.State.{state_told, table_told, loses, shown_at}
use Rattle.cut.specs.declared.InForce.{InForce}

-- f is told to the reader, new_indexes are its peers' new indexes, and unless it says that some are lost none is
pub record InStep (ms new_indexes d : List ℕ) (f : Option InForce) : Type 0 where
  pub tells : Tells (table_told f) (state_told d f)
  pub ranked : Ranked (λ n. mem n ms) new_indexes (state_told d f)
  pub none : loses f ≡ false → length (kept (λ n. mem n ms) (numbers (state_told d f))) ≡ length (numbers (state_told d f))

-- a good record stands at `at`, before which f is in force
pub record Stands (longest : ℕ) (ms new_indexes d : List ℕ) (at : ℕ) (f : Option InForce) : Type 0 where
  pub before : at < length d
  pub good : fault (shown_at longest d f at) ≡ 0
  pub step : InStep ms new_indexes d f
