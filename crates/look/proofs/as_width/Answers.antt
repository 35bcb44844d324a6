-- `look::as_width` meets its contract.
use native.Mathlib.Omega.{arith}
use Rattle.look_laws.proofs.Width.{width_seven, width_four, width_other}
use Rattle.look.proofs.as_width.Goals as goal

pub returns-in_default : goal.returns-in_default
returns-in_default c = (width_other _ (λ e. omega arith) (λ e. omega arith) (λ e. omega arith), omega arith)

pub returns-in_default-2 : goal.returns-in_default-2
returns-in_default-2 c = (width_other _ (λ e. omega arith) (λ e. omega arith) (λ e. omega arith), omega arith)

pub returns-in-4 : goal.returns-in-4
returns-in-4 c = (width_seven _ c.in-4.is, omega arith)

pub returns-in-4-2 : goal.returns-in-4-2
returns-in-4-2 c = (width_four _ (omega arith) (omega arith), omega arith)
