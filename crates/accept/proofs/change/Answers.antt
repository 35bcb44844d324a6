-- `accept::change` meets its contract.
use native.Mathlib.Omega.{arith}
use Rattle.page_spec.specs.Bgp4mp.{state_change}
use Rattle.accept_laws.proofs.Fields.{change-runs}
use Rattle.accept.proofs.change.Goals as goal

pub returns-then-state : goal.returns-then-state
returns-then-state c =
    let session = c.in-Some.ensures.1 in
    let old = rw c.number.ensures.0 at (c.state.ensures c.if-state.true) in
    λ e.
    let new = rw c.number-then-state.ensures.0 at (c.state-then-state.ensures e) in
    session (omega arith) state_change (change-runs _ _ (omega arith) old new)
