-- `cut_lay::lay_table` meets its contract.
use Rattle.std.proofs.Common.{refl, List, ℕ, ◌+◌, drop}
use Rattle.page_spec.specs.Peers.{peer}
use Rattle.form_spec.specs.Found.{items}
use Rattle.cut_spec.specs.Moved.{sieved}
use Rattle.cut_lay.proofs.Laws.{items-room, front-room, laid-items}
use Rattle.cut_lay.proofs.lay_table.Goals.{Start}
use Rattle.cut_lay.proofs.lay_table.Goals as goal

-- the peers that stay
abbrev its : (c : Start) → List (List (List ℕ))
its c = let a = c.args in sieved a.new_indexes.now 0 (items peer a.count (drop (a.at + a.off) a.d.now))

pub lay_peers-items-requires-clause-roomy : goal.lay_peers-items-requires-clause-roomy
lay_peers-items-requires-clause-roomy c =
    let a = c.args in
    let p = c.requires.le_off in
    λ q h. items-room a.d.now a.at a.off (its (goal.at.lay_peers-items-requires-clause-roomy c).Start) p.0 p.1 a.lays a.out.now a.put c.requires.room q

pub lay_front-requires-clause-room : goal.lay_front-requires-clause-room
lay_front-requires-clause-room c =
    let a = c.args in
    let p = c.requires.le_off in
    let e = c.lay_peers-items.ensures in
    front-room a.d.now a.at a.off (its (goal.at.lay_front-requires-clause-room c).Start) p.0 p.1 a.lays a.out.now a.put c.requires.room e.2 e.0 e.1 refl

pub returns : goal.returns
returns c =
    let a = c.args in
    let p = c.requires.le_off in
    let e = c.lay_peers-items.ensures in
    laid-items a.d.now a.at a.off (its (goal.at.returns c).Start) p.0 p.1 a.lays a.out.now a.put c.requires.room e.2 e.0 e.1 refl c.lay_front.ensures
