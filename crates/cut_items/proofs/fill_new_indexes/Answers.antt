-- `cut_items::fill_new_indexes` meets its contract.
use Rattle.std.proofs.Common.{refl, sym, ap, ◌∙◌, ◌-◌, drop, true, false, arith}
use Rattle.form_laws.proofs.Octets.{octets_of_lem}
use Rattle.form_spec.specs.Found.{Lies}
use Rattle.form_laws.proofs.Found.{next}
use Rattle.page_spec.specs.Peers.{peer}
use Rattle.look_laws.proofs.Items.{peer_at_lem}
use Rattle.cut_items.proofs.NewIndexes.{fill_starts, fill_turn, fill_done}
use Rattle.cut_items.proofs.fill_new_indexes.Goals.{In-loop-i, then-listed, else-listed}
use Rattle.cut_items.proofs.fill_new_indexes.Invariants.{gone}
use Rattle.cut_items.proofs.fill_new_indexes.Goals as goal

pub loop-i-init : goal.loop-i-init
loop-i-init c =
    let a = c.args in
    fill_starts a.m.now (gone a.mutes.now) a.new_indexes.now a.from a.count (octets_of_lem _ (λ k. omega (arith, c.type_inv.m k))) c.requires.lie

-- the next peer lies at `at`
lies : (c : In-loop-i) → Lies peer (drop c.loop-i.at c.args.m.now)
lies c =
    let l = c.loop-i in
    (next peer c.args.m.now l.at (c.args.count - l.i) l.invariant.its l.invariant.rest l.invariant.here (omega (arith, c.loop-i-test.true))).lies

pub peer_as-requires : goal.peer_as-requires
peer_as-requires c = lies (goal.at.peer_as-requires c).In-loop-i

pub peer_end-at-requires : goal.peer_end-at-requires
peer_end-at-requires c =
    let e = peer_at_lem c.args.m.now c.loop-i.at (octets_of_lem _ (λ k. omega (arith, c.type_inv.m k))) (lies (goal.at.peer_end-at-requires c).In-loop-i) in
    omega (arith, e.end, e.room)

pub loop-i-preserved : goal.loop-i-preserved
loop-i-preserved c =
    let l = c.loop-i in
    let a = c.args in
    let ends = (c.peer_end-at.ensures.1 (lies (goal.at.loop-i-preserved c).In-loop-i)).0 in
    let muted = c.listed.ensures ∙ ap (gone a.mutes.now) c.peer_as.ensures in
    let turn = fill_turn a.m.now (gone a.mutes.now) _ a.new_indexes.now l.new_indexes a.count l.at l.i l.kept in
    elim c.if-listed.branch [
      | then-listed w ↦ rw w.new_indexes-is (turn _ _ _ true l.invariant c.loop-i-test.true (omega (arith, c.requires.count_bound)) ends (sym w.if-listed.true ∙ muted) refl w.kept-is)
      | else-listed w ↦ rw w.new_indexes-is (turn _ _ _ false l.invariant c.loop-i-test.true (omega (arith, c.requires.count_bound)) ends (sym w.if-listed.false ∙ muted) refl w.kept-is)
    ]

pub returns : goal.returns
returns c =
    let l = c.loop-i in
    let a = c.args in
    let d = fill_done a.m.now (gone a.mutes.now) _ a.new_indexes.now l.new_indexes a.count l.at l.i l.kept l.invariant (omega (arith, c.loop-i-test.false)) (omega (arith, c.requires.count_bound)) in
    (c.from.ensures ∙ d.0, d.1)
