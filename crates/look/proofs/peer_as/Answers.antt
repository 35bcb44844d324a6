-- `look::peer_as` meets its contract.
use Prim.Native.Nat.{ℕ}
use lib.ListN.{get_or}
use Rattle.look_laws.proofs.Items.{wide-size, narrow_size}
use mathlib.Core.Path.{◌∙◌}
use native.Mathlib.Omega.{arith}
use lib.ListN.{drop}
use Rattle.form_laws.proofs.Octets.{octets_of_lem}
use Rattle.page_spec.specs.Peers.{peer}
use Rattle.form_spec.specs.Found.{item}
use Rattle.look_laws.proofs.Items.{PeerAt, peer_at_lem}
use borrow.Author.Rules.{rules}
use Rattle.look.proofs.peer_as.Goals.{After-shared_slice_known-1}
use Rattle.look.proofs.peer_as.Goals as goal

-- its type octet
abbrev kind : After-shared_slice_known-1 → ℕ
kind c =
    let a = c.args in get_or a.d.now a.at 0

there : (c : After-shared_slice_known-1) → let a = c.args in PeerAt a.d.now a.at (item peer (drop a.at a.d.now))
there c =
    let a = c.args in peer_at_lem a.d.now a.at (octets_of_lem a.d.now (λ k. omega (arith, c.shared_slice_known-1.given k))) c.requires

pub peer_as_at-from-requires : goal.peer_as_at-from-requires
peer_as_at-from-requires c = omega (arith, (there (goal.at.peer_as_at-from-requires c).After-shared_slice_known-1).room)

pub bounds-d-at : goal.bounds-d-at
bounds-d-at c = omega (arith, (there (goal.at.bounds-d-at c).After-shared_slice_known-1).room)

pub number-requires : goal.number-requires
number-requires c =
    let e = there (goal.at.number-requires c).After-shared_slice_known-1 in
    let s = wide-size (kind (goal.at.number-requires c).After-shared_slice_known-1) _ c.wide_as.ensures c.if-wide_as.true in record { width_bound = search rules; width_in_bounds = omega (arith, e.room, c.peer_as_at-from.ensures) }

pub returns-then-wide_as : goal.returns-then-wide_as
returns-then-wide_as c =
    let e = there (goal.at.returns-then-wide_as c).After-shared_slice_known-1 in
    let s = wide-size (kind (goal.at.returns-then-wide_as c).After-shared_slice_known-1) _ c.wide_as.ensures c.if-wide_as.true in
    c.number.ensures.0 ∙ rw c.peer_as_at-from.ensures (rw s at e.number)

pub number-requires-2 : goal.number-requires-2
number-requires-2 c =
    let e = there (goal.at.number-requires-2 c).After-shared_slice_known-1 in
    let s = narrow_size (kind (goal.at.number-requires-2 c).After-shared_slice_known-1) _ c.wide_as.ensures c.if-wide_as.false in record { width_bound = search rules; width_in_bounds = omega (arith, e.room, c.peer_as_at-from.ensures) }

pub returns : goal.returns
returns c =
    let e = there (goal.at.returns c).After-shared_slice_known-1 in
    let s = narrow_size (kind (goal.at.returns c).After-shared_slice_known-1) _ c.wide_as.ensures c.if-wide_as.false in
    c.number-2.ensures.0 ∙ rw c.peer_as_at-from.ensures (rw s at e.number)
