-- `look::peer_end` meets its contract.
use Prim.Native.Nat.{ℕ}
use lib.ListN.{get_or}
use native.Mathlib.Omega.{arith}
use lib.ListN.{drop}
use Rattle.form_laws.proofs.Octets.{octets_of_lem}
use Rattle.page_spec.specs.Peers.{peer}
use Rattle.form_spec.specs.Found.{Lies, item}
use Rattle.look_laws.proofs.Items.{PeerAt, peer_at_lem, wide-size, narrow_size, small_address}
use Rattle.look.proofs.peer_end.Goals.{After-shared_slice_known-1}
use Rattle.look.proofs.peer_end.Goals as goal

-- its type octet
abbrev kind : After-shared_slice_known-1 → ℕ
kind c =
    let a = c.args in get_or a.d.now a.at 0

there : (c : After-shared_slice_known-1) → let a = c.args in Lies peer (drop a.at a.d.now) → PeerAt a.d.now a.at (item peer (drop a.at a.d.now))
there c h =
    let a = c.args in peer_at_lem a.d.now a.at (octets_of_lem a.d.now (λ k. omega (arith, c.shared_slice_known-1.given k))) h

pub overflow_add-result : goal.overflow_add-result
overflow_add-result c = omega (arith, c.peer_as_at-from.ensures, small_address (kind (goal.at.overflow_add-result c).After-shared_slice_known-1))

pub returns-then-wide_as : goal.returns-then-wide_as
returns-then-wide_as c =
    let s = wide-size (kind (goal.at.returns-then-wide_as c).After-shared_slice_known-1) _ c.wide_as.ensures c.if-wide_as.true in
    rw c.peer_as_at-from.ensures (rw s, λ h. let e = there (goal.at.returns-then-wide_as c).After-shared_slice_known-1 h in (rw s at e.end, rw s at e.room))

pub overflow_add-result-2 : goal.overflow_add-result-2
overflow_add-result-2 c = omega (arith, c.peer_as_at-from.ensures, small_address (kind (goal.at.overflow_add-result-2 c).After-shared_slice_known-1))

pub returns : goal.returns
returns c =
    let s = narrow_size (kind (goal.at.returns c).After-shared_slice_known-1) _ c.wide_as.ensures c.if-wide_as.false in
    rw c.peer_as_at-from.ensures (rw s, λ h. let e = there (goal.at.returns c).After-shared_slice_known-1 h in (rw s at e.end, rw s at e.room))
