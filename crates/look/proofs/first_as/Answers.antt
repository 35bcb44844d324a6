-- `look::first_as` meets its contract.
use native.Mathlib.Omega.{arith}
use Rattle.look_laws.proofs.Width.{first_number}
use Rattle.look.proofs.first_as.Goals as goal

pub returns : goal.returns
returns c = rw (c.number.ensures.0, c.behind_width.ensures.0, c.as_width.ensures.0) (first_number _ _ _ (λ n. omega (arith, c.shared_slice_known-1.given n)) c.requires)
