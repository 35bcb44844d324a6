-- `look::route_peer` meets its contract.
use mathlib.Core.Path.{◌≡◌, ◌∙◌}
use Prim.Native.Nat.{◌+◌}
use Rattle.octets_spec.specs.Be.{num_at}
use Rattle.look_laws.proofs.There.{type-shown, subtype_shown, route_shown, long_route_shown}
use borrow.Author.Rules.{rules}
use Rattle.look.proofs.route_peer.Goals.{After-shared_slice_known-1}
use Rattle.look.proofs.route_peer.Goals as goal

-- the type and the subtype that the octets say
kind : (c : After-shared_slice_known-1) → let a = c.args in (num_at a.d.now (a.at + 4) 2 ≡ 12) × (num_at a.d.now (a.at + 6) 2 ≡ a.subtype)
kind c =
    let k = c.requires in (type-shown k.0 _ _ k.1 ∙ k.2.0, subtype_shown k.0 _ _ k.1 ∙ k.2.1)

pub number-requires : goal.number-requires
number-requires c = let k = c.requires in let e = kind (goal.at.number-requires c).After-shared_slice_known-1 in record { width_bound = search rules; width_in_bounds = (route_shown k.0 _ _ k.1 e.0 (e.1 ∙ c.if-subtype-eq1.true)).inside }

pub returns-then-subtype-eq1 : goal.returns-then-subtype-eq1
returns-then-subtype-eq1 c = let e = kind (goal.at.returns-then-subtype-eq1 c).After-shared_slice_known-1 in λ t g. c.number.ensures.0 ∙ (route_shown t _ _ g e.0 (e.1 ∙ c.if-subtype-eq1.true)).peer

pub number-requires-2 : goal.number-requires-2
number-requires-2 c = let k = c.requires in let e = kind (goal.at.number-requires-2 c).After-shared_slice_known-1 in record { width_bound = search rules; width_in_bounds = (long_route_shown k.0 _ _ k.1 _ e.0 e.1 c.if-subtype-eq1.false).inside }

pub returns : goal.returns
returns c = let e = kind (goal.at.returns c).After-shared_slice_known-1 in λ t g. c.number-2.ensures.0 ∙ (long_route_shown t _ _ g _ e.0 e.1 c.if-subtype-eq1.false).peer
