-- `cut_items::lay_peers` meets its contract.
use Rattle.std.proofs.Common.{◌≡◌, refl, ap, ◌∙◌, ◌-◌, ◌<◌, length, take, drop, get_or, arith}
use Rattle.std.proofs.lemmas.List.{get_or-take, length-take}
use borrow.Author.Tests.{lt-leb, le-leb}
use Rattle.form_laws.proofs.Octets.{octets_of_lem, octets-drop}
use Rattle.form_laws.proofs.Found.{item-octets}
use Rattle.form_spec.specs.Octets.{Octets}
use Rattle.form_spec.specs.Fmt.{join}
use Rattle.form_spec.specs.Found.{Lies, item}
use Rattle.page_spec.specs.Peers.{peer}
use Rattle.cut_spec.specs.Laid.{laid}
use Rattle.cut_spec.specs.Moved.{sieved}
use Rattle.look_laws.proofs.Items.{peer_at_lem, small_peer}
use Rattle.cut_items.proofs.Loop.{keeps, ahead, lay-starts, lay-room, lay_stays, lay_goes, lay_done}
use Rattle.cut_items.proofs.lay_peers.Goals.{In-loop-new, then-stays, else-stays}
use Rattle.cut_items.proofs.lay_peers.Goals as goal

pub loop-new-init : goal.loop-new-init
loop-new-init c =
    let a = c.args in
    lay-starts peer (sieved a.new_indexes.now) a.lays a.m.now a.from a.count 0 (a.count - 0) a.out.now a.put
    (octets_of_lem _ (λ k. omega (arith, c.type_inv.m k))) c.requires.lie c.requires.count_bound.1 refl (omega arith)

octets : (c : In-loop-new) → Octets c.args.m.now
octets c = octets_of_lem _ (λ k. omega (arith, c.type_inv.m k))

-- some are left, the next of them at `at`
more : (c : In-loop-new) → 0 < c.args.count - c.loop-new.new-index
more c = omega (arith, c.loop-new-test.true, length-take c.args.count c.args.new_indexes.now)

lies : (c : In-loop-new) → Lies peer (drop c.loop-new.at c.args.m.now)
lies c = (ahead (keeps peer c.args.new_indexes.now) c.loop-new.invariant (more c)).lies

-- its new index
new : (c : In-loop-new) → get_or (take c.args.count c.args.new_indexes.now) c.loop-new.new-index 0 ≡ get_or c.args.new_indexes.now c.loop-new.new-index 0
new c = let lt : c.loop-new.new-index < c.args.count = omega (arith, more c) in get_or-take _ _ _ _ lt

pub peer_end-next-requires : goal.peer_end-next-requires
peer_end-next-requires c = let h = (goal.at.peer_end-next-requires c).In-loop-new in let e = peer_at_lem _ _ (octets h) (lies h) in omega (arith, e.end, e.room)

pub lay_peer-requires-clause-size_bound : goal.lay_peer-requires-clause-size_bound
lay_peer-requires-clause-size_bound c =
    let e = c.peer_end-next.ensures in
    let s = e.1 (lies (goal.at.lay_peer-requires-clause-size_bound c).In-loop-new) in
    (omega (arith, e.0, small_peer c.args.m.now c.loop-new.at), omega (arith, s.0, s.1))

pub lay_peer-requires-clause-room : goal.lay_peer-requires-clause-room
lay_peer-requires-clause-room c =
    let h = (goal.at.lay_peer-requires-clause-room c).In-loop-new in
    let s = c.peer_end-next.ensures.1 (lies h) in
    lay-room (keeps peer c.args.new_indexes.now) c.loop-new.invariant (more h) c.requires.roomy (omega (arith, s.0)) (lt-leb 65535 _ (omega (arith, new h, c.if-stays.true)))

pub loop-new-preserved : goal.loop-new-preserved
loop-new-preserved c =
    let l = c.loop-new in
    let h = (goal.at.loop-new-preserved c).In-loop-new in
    let v = keeps peer c.args.new_indexes.now in
    let e = c.peer_end-next.ensures.1 (lies h) in
    let s : c.peer_end-next.result - l.at ≡ length (join (item peer (drop l.at c.args.m.now))) = omega (arith, e.0) in
    let o = item-octets peer (drop l.at c.args.m.now) (octets-drop _ _ (octets h)) (lies h) in
    elim c.if-stays.branch [
      | then-stays w ↦ lay_stays v l.invariant (more h) c.requires.roomy s (omega (arith, w.at-is, e.0)) (omega arith) (lt-leb 65535 _ (omega (arith, new h, w.if-stays.true)))
          w.kept-is w.end-is (w.out-is ∙ w.lay_peer.ensures ∙ ap (laid c.args.lays l.out l.end) (rw s o))
      | else-stays w ↦ lay_goes v l.invariant (more h) c.requires.roomy s (omega (arith, w.at-is, e.0)) (omega arith) (le-leb 65535 _ (omega (arith, new h, w.if-stays.false)))
          w.kept-is w.end-is w.out-is
    ]

pub returns : goal.returns
returns c = lay_done (keeps peer c.args.new_indexes.now) c.loop-new.invariant (omega (arith, c.loop-new-test.false, length-take c.args.count c.args.new_indexes.now, c.requires.count_bound.0))
