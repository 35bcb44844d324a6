-- `accept::table_dump` meets its contract.
use mathlib.Core.Path.{refl, sym, ◌∙◌}
use native.Mathlib.Omega.{arith}
use Rattle.accept_laws.proofs.Runs.{never}
use Rattle.accept_laws.proofs.Fields.{route_runs}
use Rattle.accept.proofs.table_dump.Goals as goal

pub returns-then-m-first : goal.returns-then-m-first
returns-then-m-first c = never

pub returns-then-size-number : goal.returns-then-size-number
returns-then-size-number c = never

pub returns-then-number-m : goal.returns-then-number-m
returns-then-number-m c = never

pub returns : goal.returns
returns c =
    let bits = c.number.ensures.0 in
    let size = c.number-2.ensures.0 in
    λ e. route_runs _ _ _ (omega arith) (omega arith) (omega arith) refl (sym c.tile.ensures ∙ e)
