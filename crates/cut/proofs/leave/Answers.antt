-- `cut::leave` meets its contract.
use Rattle.std.proofs.Common.{◌≡◌, sym, ap, ap₂, ◌∙◌, arith}
use Rattle.form_spec.specs.Octets.{Octets}
use Rattle.form_laws.proofs.Octets.{octets_of_lem}
use Rattle.look_spec.specs.Sort.{sort_by, is_table}
use Rattle.look_spec.specs.Field.{Good}
use Rattle.look_laws.proofs.There.{sorted}
use Rattle.cut.proofs.One.{Is, goes_on, fate_is}
use Rattle.cut.proofs.Turn.{told_of, turn_starts, turn_stands, turn_good, turn_done, turn_room, turn_on}
use Rattle.cut.specs.State.{peers_of, loses}
use borrow.Author.Rules.{rules}
use Rattle.cut.proofs.leave.Goals.{In-loop-at, After-map_or-peers, After-fate_of-fate}
use Rattle.cut.proofs.leave.Goals as goal

octets : (c : In-loop-at) → Octets c.args.d.now
octets c = octets_of_lem _ (λ k. omega (arith, c.type_inv.d k))

-- a good record stands there
good : (c : In-loop-at) → Good (told_of c.args.longest c.loop-at.in_force) c.args.d.now c.loop-at.at
good c = turn_good c.loop-at.invariant (octets c) c.loop-at-test.true

pub loop-at-init : goal.loop-at-init
loop-at-init c =
    let a = c.args in
    turn_starts a.longest a.window.start a.window.end a.mutes.now a.d.now a.lays a.new_indexes.now a.out.now c.requires.splits

pub type_of-ty-requires : goal.type_of-ty-requires
type_of-ty-requires c = (_, good (goal.at.type_of-ty-requires c).In-loop-at)

pub subtype_of-subtype-requires : goal.subtype_of-subtype-requires
subtype_of-subtype-requires c = (_, good (goal.at.subtype_of-subtype-requires c).In-loop-at)

pub table_behind-in_force-requires-clause-stands : goal.table_behind-in_force-requires-clause-stands
table_behind-in_force-requires-clause-stands c =
    let h = (goal.at.table_behind-in_force-requires-clause-stands c).In-loop-at in turn_stands c.loop-at.invariant (octets h) c.loop-at-test.true

pub table_behind-in_force-requires-clause-table_value : goal.table_behind-in_force-requires-clause-table_value
table_behind-in_force-requires-clause-table_value c =
    let g = good (goal.at.table_behind-in_force-requires-clause-table_value c).In-loop-at in
    c.is_peer_table-peer_table.ensures ∙ ap is_table (ap₂ sort_by (c.type_of-ty.ensures _ g) (c.subtype_of-subtype.ensures _ g) ∙ sym (sorted _ _ _ g))

pub end_at-next-requires : goal.end_at-next-requires
end_at-next-requires c = (_, good (goal.at.end_at-next-requires c).In-loop-at)

pub fate_of-fate-requires : goal.fate_of-fate-requires
fate_of-fate-requires c =
    let g = good (goal.at.fate_of-fate-requires c).In-loop-at in (_, g, (sym (c.type_of-ty.ensures _ g), sym (c.subtype_of-subtype.ensures _ g)))

-- what becomes of it
is : (c : After-fate_of-fate) → let a = c.args in
    let l = c.loop-at in
    Is a.longest a.window.start a.window.end a.mutes.now a.d.now l.at l.in_force c.table_behind-in_force.new.new_indexes c.table_behind-in_force.result c.end_at-next.result c.fate_of-fate.result
is c =
    let lost : c.is_some_and-lost.result ≡ loses c.table_behind-in_force.result = search rules in
    let a = c.args in
    let i = c.loop-at.invariant in
    let oc = octets_of_lem _ (λ k. omega (arith, c.type_inv.d k)) in
    let g = turn_good i oc c.loop-at-test.true in
    let t = c.table_behind-in_force.ensures in
    fate_is oc (turn_stands i oc c.loop-at-test.true) a.window.start a.window.end (c.end_at-next.ensures _ g).is t.0 t.1 lost _ (c.fate_of-fate.ensures _ g)

peers : (c : After-map_or-peers) → c.map_or-peers.result ≡ peers_of c.table_behind-in_force.result
peers c = search rules

pub pass-far-requires-clause-put_le_run : goal.pass-far-requires-clause-put_le_run
pass-far-requires-clause-put_le_run c =
    let i = c.loop-at.invariant in
    let h = (goal.at.pass-far-requires-clause-put_le_run c).In-loop-at in
    let e = (c.end_at-next.ensures _ (good h)).is in
    (i.leaves.used, i.leaves.runs, omega (arith, e), omega (arith, e, goes_on (octets h) (turn_stands i (octets h) c.loop-at-test.true)))

pub pass-far-requires-clause-sound : goal.pass-far-requires-clause-sound
pass-far-requires-clause-sound c =
    rw (peers (goal.at.pass-far-requires-clause-sound c).After-map_or-peers) (is (goal.at.pass-far-requires-clause-sound c).After-fate_of-fate).1

pub pass-far-requires-clause-room : goal.pass-far-requires-clause-room
pass-far-requires-clause-room c =
    let i = c.loop-at.invariant in
    let h = (goal.at.pass-far-requires-clause-room c).In-loop-at in
    let t = c.table_behind-in_force.ensures in
    let r = turn_room i c.requires.d_in_bounds (octets h) (turn_stands i (octets h) c.loop-at-test.true) (c.end_at-next.ensures _ (good h)).is t.0 t.1 _ (is (goal.at.pass-far-requires-clause-room c).After-fate_of-fate) in
    rw (peers (goal.at.pass-far-requires-clause-room c).After-map_or-peers) r

pub loop-at-smaller : goal.loop-at-smaller
loop-at-smaller c =
    let i = c.loop-at.invariant in
    let h = (goal.at.loop-at-smaller c).In-loop-at in
    let e = (c.end_at-next.ensures _ (good h)).is in
    let g = goes_on (octets h) (turn_stands i (octets h) c.loop-at-test.true) in
    search rules

pub loop-at-preserved : goal.loop-at-preserved
loop-at-preserved c =
    let i = c.loop-at.invariant in
    let h = (goal.at.loop-at-preserved c).In-loop-at in
    let t = c.table_behind-in_force.ensures in
    let p = rw (peers (goal.at.loop-at-preserved c).After-map_or-peers) at c.pass-far.ensures in
    turn_on i c.requires.d_in_bounds (octets h) (turn_stands i (octets h) c.loop-at-test.true) (c.end_at-next.ensures _ (good h)).is t.0 t.1 _ (is (goal.at.loop-at-preserved c).After-fate_of-fate) p

pub returns : goal.returns
returns c = turn_done c.loop-at.invariant c.requires.d_in_bounds c.loop-at-test.false c.lay.ensures.0 c.lay.ensures.1
