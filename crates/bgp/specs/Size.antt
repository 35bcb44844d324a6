-- How many octets an address of a family has.
use Rattle.std.specs.Prelude.{ℕ, eqb, Option, Some, None}
use Rattle.form_spec.specs.Words.{◌$◌, choose}

unfoldable pub address_size : ℕ → Option ℕ
address_size family = choose (eqb family 1) (Some 4) $ choose (eqb family 2) (Some 16) None
