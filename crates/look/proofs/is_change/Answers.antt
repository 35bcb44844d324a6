-- `look::is_change` meets its contract.
use native.Mathlib.Omega.{arith}
use mathlib.Core.Logic.{inl, inr}
use Rattle.look_laws.proofs.Sort.{change_first, change_other, no_change}
use Rattle.look.proofs.is_change.Goals as goal

pub returns-in-0 : goal.returns-in-0
returns-in-0 c = change_first _ _ (omega arith) (omega arith) c.in-0.is

pub returns-in_default-subtype : goal.returns-in_default-subtype
returns-in_default-subtype c = change_other _ _ (λ e. c.in_default-subtype.in_default-subtype-own.rest.1 (inl e)) (λ e. c.in_default-subtype.in_default-subtype-own.rest.1 (inr e))

pub returns-in_default : goal.returns-in_default
returns-in_default c = no_change _ _ (λ e. omega arith) (λ e. omega arith)

pub returns-in_default-2 : goal.returns-in_default-2
returns-in_default-2 c = no_change _ _ (λ e. omega arith) (λ e. omega arith)
