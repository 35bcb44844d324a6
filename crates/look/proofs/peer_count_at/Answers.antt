-- `look::peer_count_at` meets its contract.
use mathlib.Core.Path.{◌≡◌, sym, ◌∙◌}
use Prim.Native.Nat.{◌+◌}
use Rattle.octets_spec.specs.Be.{num_at}
use Rattle.look_laws.proofs.Sort.{is_table_lem}
use Rattle.look_laws.proofs.There.{type-shown, subtype_shown, sorted, peers_inside, peers_shown}
use Rattle.look.proofs.peer_count_at.Goals.{After-shared_slice_known-1}
use Rattle.look.proofs.peer_count_at.Goals as goal

-- the type and the subtype that the octets say
kind : (c : After-shared_slice_known-1) → let a = c.args in (num_at a.d.now (a.at + 4) 2 ≡ 13) × (num_at a.d.now (a.at + 6) 2 ≡ 1)
kind c =
    let k = c.requires in
    let s = is_table_lem _ _ (sym (sorted k.0 _ _ k.1) ∙ k.2) in
    (type-shown k.0 _ _ k.1 ∙ s.0, subtype_shown k.0 _ _ k.1 ∙ s.1)

pub name_end-requires : goal.name_end-requires
name_end-requires c = let k = c.requires in let e = kind (goal.at.name_end-requires c).After-shared_slice_known-1 in peers_inside k.0 _ _ k.1 e.0 e.1

pub returns : goal.returns
returns c = let e = kind (goal.at.returns c).After-shared_slice_known-1 in λ t g. rw c.name_end.ensures.0 (peers_shown t _ _ g e.0 e.1)
