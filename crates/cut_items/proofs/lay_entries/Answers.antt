-- `cut_items::lay_entries` meets its contract.
use Rattle.std.proofs.Common.{refl, ap, ◌∙◌, ℕ, ◌-◌, ◌<◌, drop, get_or, arith}
use borrow.Author.Tests.{lt-leb, le-leb}
use Rattle.form_laws.proofs.Octets.{octets_of_lem}
use Rattle.form_spec.specs.Fmt.{join}
use Rattle.form_spec.specs.Found.{Lies, item}
use Rattle.page_spec.specs.Rib.{entry}
use Rattle.cut_spec.specs.Cut.{renumber}
use Rattle.cut_spec.specs.Laid.{laid}
use Rattle.cut_spec.specs.Moved.{moved}
use Rattle.cut_items.proofs.Loop.{moves, ahead, lay-starts, lay-room, lay_stays, lay_goes, lay_done}
use Rattle.cut_items.proofs.lay_entries.Goals.{In-loop-entry, then-stays, else-stays}
use Rattle.cut_items.proofs.lay_entries.Goals as goal

pub loop-entry-init : goal.loop-entry-init
loop-entry-init c =
    let a = c.args in
    lay-starts (entry a.peers) (λ (i : ℕ). moved a.new_indexes.now) a.lays a.m.now a.from a.count 0 (a.count - 0) a.out.now a.put
    (octets_of_lem _ (λ k. omega (arith, c.type_inv.m k))) c.requires.lie c.requires.put_le_from refl (omega arith)

-- some are left, the next of them at `at`
more : (c : In-loop-entry) → 0 < c.args.count - c.loop-entry._entry
more c = omega (arith, c.loop-entry-test.true)

lies : (c : In-loop-entry) → Lies (entry c.args.peers) (drop c.loop-entry.at c.args.m.now)
lies c = (ahead (moves c.args.peers c.args.new_indexes.now) c.loop-entry.invariant (more c)).lies

pub entry_size-size-requires : goal.entry_size-size-requires
entry_size-size-requires c = (_, lies (goal.at.entry_size-size-requires c).In-loop-entry)

pub entry_index-requires : goal.entry_index-requires
entry_index-requires c = (_, lies (goal.at.entry_index-requires c).In-loop-entry)

pub lay_entry-requires-clause-lies : goal.lay_entry-requires-clause-lies
lay_entry-requires-clause-lies c = lies (goal.at.lay_entry-requires-clause-lies c).In-loop-entry

pub lay_entry-requires-clause-size_value : goal.lay_entry-requires-clause-size_value
lay_entry-requires-clause-size_value c =
    let s = c.entry_size-size.ensures.2 _ (lies (goal.at.lay_entry-requires-clause-size_value c).In-loop-entry) in
    (s.0, omega (arith, c.entry_size-size.ensures.0), omega (arith, c.entry_size-size.ensures.1), s.1)

pub lay_entry-requires-clause-room : goal.lay_entry-requires-clause-room
lay_entry-requires-clause-room c =
    let new = λ (i : ℕ). get_or c.args.new_indexes.now i 0 in
    let h = (goal.at.lay_entry-requires-clause-room c).In-loop-entry in
    let s = c.entry_size-size.ensures.2 _ (lies h) in
    let e = ap new (c.entry_index.ensures.1 _ (lies h)) in
    lay-room (moves c.args.peers c.args.new_indexes.now) c.loop-entry.invariant (more h) c.requires.roomy s.0 (lt-leb 65535 _ (omega (arith, e, c.if-stays.true)))

pub overflow_add-end : goal.overflow_add-end
overflow_add-end c = let s = c.entry_size-size.ensures.2 _ (lies (goal.at.overflow_add-end c).In-loop-entry) in omega (arith, s.1, c.loop-entry.invariant.used)

pub overflow_add-at : goal.overflow_add-at
overflow_add-at c = let s = c.entry_size-size.ensures.2 _ (lies (goal.at.overflow_add-at c).In-loop-entry) in omega (arith, s.1)

pub loop-entry-preserved : goal.loop-entry-preserved
loop-entry-preserved c =
    let l = c.loop-entry in
    let new = λ (i : ℕ). get_or c.args.new_indexes.now i 0 in
    let h = (goal.at.loop-entry-preserved c).In-loop-entry in
    let v = moves c.args.peers c.args.new_indexes.now in
    let s = c.entry_size-size.ensures.2 _ (lies h) in
    let e = ap new (c.entry_index.ensures.1 _ (lies h)) in
    elim c.if-stays.branch [
      | then-stays w ↦ lay_stays v l.invariant (more h) c.requires.roomy s.0 refl (omega arith) (lt-leb 65535 _ (omega (arith, e, w.if-stays.true))) w.kept-is w.end-is (w.out-is ∙ w.lay_entry.ensures ∙ ap (λ (i : ℕ). laid c.args.lays l.out l.end (join (renumber i (item (entry c.args.peers) (drop l.at c.args.m.now))))) e)
      | else-stays w ↦ lay_goes v l.invariant (more h) c.requires.roomy s.0 refl (omega arith) (le-leb 65535 _ (omega (arith, e, w.if-stays.false))) w.kept-is w.end-is w.out-is
    ]

pub returns : goal.returns
returns c = lay_done (moves c.args.peers c.args.new_indexes.now) c.loop-entry.invariant (omega (arith, c.loop-entry-test.false))
