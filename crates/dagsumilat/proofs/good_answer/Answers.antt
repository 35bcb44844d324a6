-- `dagsumilat::good_answer` meets its contract.
use mathlib.Core.Path.{◌≡◌, sym, ◌∙◌}
use mathlib.Core.Logic.{◌⊎◌, inl, inr}
use Prim.Native.Nat.{ℕ}
use Rattle.look_spec.specs.Sort.{sort_of}
use Rattle.look_spec.specs.Field.{type_of, subtype_of, peer_of, Is, Shows}
use Rattle.dagsumilat_spec.specs.RecordAnswers.{good, by_sort}
use Rattle.dagsumilat_spec.specs.declared.RecordAnswer.{RecordAnswer}
use Rattle.dagsumilat.proofs.Laws.{answer-peer, answer-items, answer_unread}
use Rattle.dagsumilat.proofs.good_answer.Goals.{After-type_of}
use Rattle.dagsumilat.proofs.good_answer.Goals as goal

-- its type is y
is : (c : After-type_of) (y : ℕ) → c.type_of.result ≡ y → let a = c.args in Is a.d.now a.at (λ x. (type_of x ≡ y) × (subtype_of x ≡ c.subtype_of-subtype.result))
is c y e =
    let k = c.requires in
    (k.0, k.1, (sym (c.type_of.ensures k.0 k.1) ∙ e, sym (c.subtype_of-subtype.ensures k.0 k.1)))

-- z, which the code has told of a record with a peer, is right
by_peer : (c : After-type_of) (p : ℕ) (z : RecordAnswer) → let a = c.args in
    let y = c.type_of.result in
    (y ≡ 12) ⊎ ((y ≡ 16) ⊎ (y ≡ 17)) → Shows a.d.now a.at (λ x. p ≡ peer_of x) → z ≡ good a.i a.table p 0 0
    → Shows a.d.now a.at (λ x. z ≡ by_sort a.i a.table x (sort_of x))
by_peer c p z k q h t g =
    let a = c.args in answer-peer t a.d.now a.at g a.i a.table z _ p (c.type_of.ensures t g) k (q t g) h

pub route_peer-requires : goal.route_peer-requires
route_peer-requires c = is (goal.at.route_peer-requires c).After-type_of 12 c.in-12.is

pub items_answer-requires : goal.items_answer-requires
items_answer-requires c = is (goal.at.items_answer-requires c).After-type_of 13 c.in-13.is

pub session_peer-requires : goal.session_peer-requires
session_peer-requires c = is (goal.at.session_peer-requires c).After-type_of 16 c.in-16.is

pub late_session_peer-requires : goal.late_session_peer-requires
late_session_peer-requires c = is (goal.at.late_session_peer-requires c).After-type_of 17 c.in-17.is

pub returns-in-12 : goal.returns-in-12
returns-in-12 c = by_peer (goal.at.returns-in-12 c).After-type_of _ _ (inl c.in-12.is) c.route_peer.ensures c.good.ensures

pub returns-in-13 : goal.returns-in-13
returns-in-13 c =
    let a = c.args in
    λ t g. answer-items t a.d.now a.at g a.i a.table _ _ (c.type_of.ensures t g) c.in-13.is (c.items_answer.ensures t g)

pub returns-in-16 : goal.returns-in-16
returns-in-16 c = by_peer (goal.at.returns-in-16 c).After-type_of _ _ (inr (inl c.in-16.is)) c.session_peer.ensures c.good-in-16.ensures

pub returns-in-17 : goal.returns-in-17
returns-in-17 c = by_peer (goal.at.returns-in-17 c).After-type_of _ _ (inr (inr c.in-17.is)) c.late_session_peer.ensures c.good-in-17.ensures

pub returns-in_default : goal.returns-in_default
returns-in_default c =
    let a = c.args in
    let n = c.in_default.in_default-own.rest in
    λ t g. answer_unread t a.d.now a.at g a.i a.table _ _ (c.type_of.ensures t g) n.0.0.0.1 n.0.0.1 n.0.1 n.1 c.good-in_default.ensures
