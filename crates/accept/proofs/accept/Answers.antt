-- `accept::accept` meets its contract.
use mathlib.Core.Path.{◌≡◌}
use Rattle.page_spec.specs.Layout.{kind}
use Rattle.page_spec.specs.Chosen.{Chosen}
use Rattle.record_spec.specs.One.{shown_as, whole_record}
use Rattle.accept_spec.specs.Sure.{Sure, micro_octets}
use Rattle.accept_spec.specs.declared.Accepted.{Accepted}
use Rattle.accept_spec.specs.declared.Accepted.TheVariants.{Record}
use native.Mathlib.Omega.{arith}
use borrow.Author.Tests.{leb-true}
use Rattle.accept_laws.proofs.Leaves.{by_kind, kind_12, kind_13, kind-session, kind_unread, kind_late, if_sure, unread_leaves}
use Rattle.accept.proofs.accept.Goals.{After-number-subtype}
use Rattle.accept.proofs.accept.Goals as goal

-- the answer for the layout that type and subtype choose is the record's
leaf : (c : After-number-subtype) (k : Chosen) (r : Accepted) → let a = c.args in
    kind c.number-ty.result c.number-subtype.result ≡ k
    → Sure a.m.now a.t (shown_as a.longest a.t a.m.now k) r
    → Sure a.m.now a.t (whole_record a.longest a.t a.m.now) r
leaf c k r e s =
    let a = c.args in by_kind a.longest a.m.now a.t _ _ k r c.number-ty.ensures.0 c.number-subtype.ensures.0 e s

pub returns-in-13 : goal.returns-in-13
returns-in-13 c = leaf (goal.at.returns-in-13 c).After-number-subtype _ c.table_or_rib.result (kind_13 _ _ c.in-13.is) (c.table_or_rib.ensures c.args.longest)

pub returns-in-12 : goal.returns-in-12
returns-in-12 c =
    let a = c.args in
    let sure = if_sure _ a.t _ _ (c.route.ensures a.longest a.t) in
    leaf (goal.at.returns-in-12 c).After-number-subtype _ c.record_if.result (kind_12 _ _ c.in-12.is) (rw c.record_if.ensures sure)

pub returns-in-11 : goal.returns-in-11
returns-in-11 c =
    let a = c.args in
    leaf (goal.at.returns-in-11 c).After-number-subtype _ Record (kind_unread _ _ c.in-11.is) (unread_leaves a.longest a.m.now a.t 0 c.requires)

pub returns-in-33 : goal.returns-in-33
returns-in-33 c =
    let a = c.args in
    let sure = if_sure a.m.now a.t _ _ (λ e. unread_leaves a.longest a.m.now a.t 4 (leb-true 16 _ e)) in
    leaf (goal.at.returns-in-33 c).After-number-subtype _ c.record_if-in-33.result (kind_late _ _ c.in-33.is) (rw c.record_if-in-33.ensures sure)

pub returns-in-16-to-17 : goal.returns-in-16-to-17
returns-in-16-to-17 c =
    let a = c.args in
    let micro = c.micro_of.ensures.0 in
    let sure = if_sure a.m.now a.t _ _ (c.session.ensures a.t (micro_octets c.number-ty.result) (omega arith)) in
    leaf (goal.at.returns-in-16-to-17 c).After-number-subtype _ c.record_if-in-16-to-17.result (kind-session c.number-ty.result _ (omega arith) (omega arith)) (rw c.record_if-in-16-to-17.ensures sure)
