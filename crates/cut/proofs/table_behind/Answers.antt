-- `cut::table_behind` meets its contract.
use Rattle.std.proofs.Common.{◌≡◌, sym, ◌∙◌, true, arith}
use Rattle.form_laws.proofs.Octets.{octets_of_lem}
use Rattle.look_spec.specs.Field.{Good, shown}
use Rattle.look_spec.specs.Sort.{sort_of, is_table}
use Rattle.look_laws.proofs.Sort.{table_sort}
use Rattle.cut.proofs.One.{peered, table_stays}
use Rattle.cut.proofs.Turn.{told_of, none_lost}
use Rattle.cut.proofs.table_behind.Goals.{Start, Else-not-peer_table}
use Rattle.cut.proofs.table_behind.Goals as goal

good : (q : Start) → Good (told_of q.args.longest q.args.before) q.args.d.now q.args.at
good q = (q.requires.stands.before, q.requires.stands.good)

-- the record is a peer table
is : (c : Else-not-peer_table) → is_table (sort_of (shown (told_of c.args.longest c.args.before) c.args.d.now c.args.at)) ≡ true
is c = sym c.requires.table_value ∙ c.if-not-peer_table.false

pub returns-then-not-peer_table : goal.returns-then-not-peer_table
returns-then-not-peer_table c = (table_stays (octets_of_lem _ (λ k. omega (arith, c.type_inv.d k))) c.requires.stands (sym c.requires.table_value ∙ c.if-not-peer_table.true), c.requires.stands.step)

pub peer_count_at-counted-requires : goal.peer_count_at-counted-requires
peer_count_at-counted-requires c = (_, good (goal.at.peer_count_at-counted-requires c).Start, table_sort _ (is (goal.at.peer_count_at-counted-requires c).Else-not-peer_table))

pub overflow_add-from : goal.overflow_add-from
overflow_add-from c = let k = c.peer_count_at-counted.ensures _ (good (goal.at.overflow_add-from c).Start) in omega (arith, k.inside)

pub count-peers-requires : goal.count-peers-requires
count-peers-requires c = let k = c.peer_count_at-counted.ensures _ (good (goal.at.count-peers-requires c).Start) in omega (arith, k.inside)

pub fill_new_indexes-kept-requires-clause-lie : goal.fill_new_indexes-kept-requires-clause-lie
fill_new_indexes-kept-requires-clause-lie c =
    let s = (goal.at.fill_new_indexes-kept-requires-clause-lie c).Start in
    let k = c.peer_count_at-counted.ensures _ (good s) in
    (peered (octets_of_lem _ (λ k. omega (arith, c.type_inv.d k))) c.requires.stands k c.count-peers.ensures.0 (is (goal.at.fill_new_indexes-kept-requires-clause-lie c).Else-not-peer_table)).lie

pub returns : goal.returns
returns c =
    let a = c.args in
    let s = (goal.at.returns c).Start in
    let k = c.peer_count_at-counted.ensures _ (good s) in
    let p = peered (octets_of_lem _ (λ k. omega (arith, c.type_inv.d k))) c.requires.stands k c.count-peers.ensures.0 (is (goal.at.returns c).Else-not-peer_table) in
    let e = c.fill_new_indexes-kept.ensures in
    let few = p.few in (
      sym p.next,
      record { tells = p.tells; ranked = rw e.1 (p.ranked a.new_indexes.now (omega arith)); none = λ z. none_lost a.mutes.now a.d.now _ _ _ e.0 p.many z },
    )
