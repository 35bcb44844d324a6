-- The number that stands at a place.
use Rattle.std.specs.Prelude.{ℕ, List, take, drop}
use Rattle.form_spec.specs.Octets.{be}

-- the number in the w octets of s from `at` on
unfoldable pub num_at : List ℕ → ℕ → ℕ → ℕ
num_at s at w = be (take w (drop at s))
