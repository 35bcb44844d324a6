-- `cut_lay::lay_rib` meets its contract: nothing is laid of a record that lost all its entries.
use Rattle.std.proofs.Common.{refl, sym, ap, ◌∙◌, List, ℕ, ◌+◌, ◌-◌, drop, arith}
use Rattle.form_spec.specs.Body.{joins}
use Rattle.page_spec.specs.Rib.{entry}
use Rattle.form_spec.specs.Found.{items}
use Rattle.cut_spec.specs.Moved.{moved}
use Rattle.cut_spec.specs.One.{items_left}
use Rattle.cut_spec.specs.Laid.{laid}
use Rattle.cut_laws.proofs.Laid.{laid_nothing}
use Rattle.cut_lay.proofs.Laws.{items-room, front-room, laid-items, some_left, rib-stays, rib_goes}
use Rattle.cut_lay.proofs.lay_rib.Goals.{Start}
use Rattle.cut_lay.proofs.lay_rib.Goals as goal

-- the entries that stay, and the record with them
abbrev its : (c : Start) → List (List (List ℕ))
its c = let a = c.args in moved a.new_indexes.now (items (entry a.peers) a.count (drop (a.at + a.off) a.d.now))

abbrev all : (c : Start) → List ℕ
all c = let a = c.args in items_left a.d.now a.at (a.off - 14) (its c)

pub lay_entries-items-requires-clause-roomy : goal.lay_entries-items-requires-clause-roomy
lay_entries-items-requires-clause-roomy c =
    let a = c.args in
    let p = c.requires.le_off in
    let s = (goal.at.lay_entries-items-requires-clause-roomy c).Start in
    λ q h. items-room a.d.now a.at a.off (its s) p.0 p.1 a.lays a.out.now a.put (rw (some_left a.count (its s) (all s) h) at c.requires.room) q

pub lay_front-requires-clause-room : goal.lay_front-requires-clause-room
lay_front-requires-clause-room c =
    let a = c.args in
    let p = c.requires.le_off in
    let s = (goal.at.lay_front-requires-clause-room c).Start in
    let e = c.lay_entries-items.ensures in
    let z = rib-stays a.count (its s) (all s) c.remains.ensures e.0 c.if-not-remains.false in
    front-room a.d.now a.at a.off (its s) p.0 p.1 a.lays a.out.now a.put (rw z at c.requires.room) e.2 e.0 e.1 refl

pub returns-then-not-remains : goal.returns-then-not-remains
returns-then-not-remains c =
    let a = c.args in
    let s = (goal.at.returns-then-not-remains c).Start in
    let e = c.lay_entries-items.ensures in
    let z = rib_goes a.count (its s) (all s) c.remains.ensures e.0 c.if-not-remains.true in
    rw z.0
    (omega arith, e.2 ∙ ap (λ (js : List (List (List ℕ))). laid a.lays a.out.now (a.put + a.off) (joins js)) z.1 ∙ laid_nothing a.lays a.out.now (a.put + a.off) ∙ sym (laid_nothing a.lays a.out.now a.put))

pub returns : goal.returns
returns c =
    let a = c.args in
    let p = c.requires.le_off in
    let s = (goal.at.returns c).Start in
    let e = c.lay_entries-items.ensures in
    let z = rib-stays a.count (its s) (all s) c.remains.ensures e.0 c.if-not-remains.false in
    rw z (laid-items a.d.now a.at a.off (its s) p.0 p.1 a.lays a.out.now a.put (rw z at c.requires.room) e.2 e.0 e.1 refl c.lay_front.ensures)
