-- `accept::rib_generic` meets its contract.
use native.Mathlib.Omega.{arith}
use mathlib.Core.Path.{sym, ◌∙◌}
use Rattle.accept_laws.proofs.Runs.{never}
use Rattle.accept_laws.proofs.Fields.{generic_first, generic_second}
use Rattle.accept_laws.proofs.Leaves.{with_table_on}
use Rattle.accept.proofs.rib_generic.Goals as goal

pub returns-then-m-lt19 : goal.returns-then-m-lt19
returns-then-m-lt19 c = never

pub returns-in-1-number : goal.returns-in-1-number
returns-in-1-number c =
    let s = c.number.ensures.0 in
    let f = sym c.number-in-1.ensures.0 ∙ c.in-1-number.is in
    λ e. with_table_on c.args.t _ _ (λ n p. generic_first _ n (omega arith) f (omega arith) (omega arith) p) (c.rib.ensures e)

pub returns-in-2 : goal.returns-in-2
returns-in-2 c =
    let s = c.number.ensures.0 in
    let f = sym c.number-in-1.ensures.0 ∙ c.in-2.is in
    λ e. with_table_on c.args.t _ _ (λ n p. generic_second _ n (omega arith) f (omega arith) (omega arith) p) (c.rib-in-2.ensures e)

pub returns-in_default-number : goal.returns-in_default-number
returns-in_default-number c = never

pub returns-in_default : goal.returns-in_default
returns-in_default c = never

pub returns-in_default-2 : goal.returns-in_default-2
returns-in_default-2 c = never
