-- `accept::peers` meets its contract.
use mathlib.Core.Path.{◌≡◌}
use Prim.Native.Nat.{◌-◌}
use native.Mathlib.Omega.{arith}
use borrow.Author.Tests.{eqb-true}
use Rattle.accept_laws.proofs.Runs.{forward, no_items, one_item}
use Rattle.accept_laws.proofs.Fields.{peer-runs}
use Rattle.accept.proofs.peers.Goals as goal

pub loop-preserved : goal.loop-preserved
loop-preserved c =
    let e = c.peer_end-at.ensures.0 in (
      omega arith,
      λ h.
          let l = forward _ _ _ _ h in
          c.loop.invariant.1 (one_item _ _ _ _ _ _ (omega arith) (rw e (peer-runs _ c.loop.at (rw e at l))) h),
    )

pub returns : goal.returns
returns c =
    let k = c.loop in
    let z : c.args.peer_count - k.counter ≡ 0 = omega arith in
    λ e. k.invariant.1 (rw z (no_items _ _ _ (eqb-true _ _ e)))
