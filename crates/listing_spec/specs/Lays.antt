-- What a function that lays text into a lent buffer answers and leaves.
use Rattle.std.specs.Prelude.{◌≡◌, List, ℕ, ◌+◌, length}
use Rattle.octets_spec.specs.Over.{over}

-- the text s over out from `at` on: where it ends, and what the buffer holds then
pub record Lays (out : List ℕ) (at : ℕ) (s : List ℕ) (end : ℕ) (left : List ℕ) : Type 0 where
  pub ends : end ≡ at + length s
  pub holds : left ≡ over out at s
