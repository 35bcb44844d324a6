-- `accept::prefix` meets its contract.
use native.Mathlib.Omega.{arith}
use Rattle.accept_laws.proofs.Runs.{never}
use Rattle.accept_laws.proofs.Fields.{prefix-runs}
use Rattle.accept.proofs.prefix.Goals as goal

pub returns-then-m-at : goal.returns-then-m-at
returns-then-m-at c = never

pub returns-then-most-bits : goal.returns-then-most-bits
returns-then-most-bits c = never

pub returns-then-m-counted : goal.returns-then-m-counted
returns-then-m-counted c = never

pub returns : goal.returns
returns c =
    let n = c.number-bits.ensures.0 in
    λ e. prefix-runs _ _ _ _ _ (omega arith) (omega arith) (rw n) (omega arith) (rw c.count.ensures.0 at (c.entries.ensures e))
