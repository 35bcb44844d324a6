-- `look::entry_count_at` meets its contract.
use mathlib.Core.Path.{◌≡◌, sym, ◌∙◌}
use Prim.Native.Nat.{◌+◌}
use Rattle.octets_spec.specs.Be.{num_at}
use Rattle.look_laws.proofs.Sort.{is_rib}
use Rattle.look_laws.proofs.There.{type-shown, subtype_shown, sorted, generic_entries_shown, entries_shown}
use Rattle.look.proofs.entry_count_at.Goals.{After-shared_slice_known-1}
use Rattle.look.proofs.entry_count_at.Goals as goal

-- the type and the subtype that the octets say
kind : (c : After-shared_slice_known-1) → let a = c.args in (num_at a.d.now (a.at + 4) 2 ≡ 13) × (num_at a.d.now (a.at + 6) 2 ≡ a.subtype) × (a.subtype ≡ 1 → ⊥)
kind c =
    let k = c.requires in
    let s = is_rib _ _ (sym (sorted k.0 _ _ k.1) ∙ k.2.0) in
    (type-shown k.0 _ _ k.1 ∙ s.0, subtype_shown k.0 _ _ k.1 ∙ k.2.1, λ e. s.1 (k.2.1 ∙ e))

pub behind_prefix-requires : goal.behind_prefix-requires
behind_prefix-requires c = let k = c.requires in let e = kind (goal.at.behind_prefix-requires c).After-shared_slice_known-1 in (generic_entries_shown k.0 _ _ k.1 e.0 (e.1 ∙ c.if-subtype-eq6.true)).0

pub returns-then-subtype-eq6 : goal.returns-then-subtype-eq6
returns-then-subtype-eq6 c = let e = kind (goal.at.returns-then-subtype-eq6 c).After-shared_slice_known-1 in λ t g. rw c.behind_prefix.ensures (generic_entries_shown t _ _ g e.0 (e.1 ∙ c.if-subtype-eq6.true)).1

pub behind_prefix-requires-2 : goal.behind_prefix-requires-2
behind_prefix-requires-2 c = let k = c.requires in let e = kind (goal.at.behind_prefix-requires-2 c).After-shared_slice_known-1 in (entries_shown k.0 _ _ k.1 _ e.0 e.1 e.2 c.if-subtype-eq6.false).0

pub returns : goal.returns
returns c =
    let e = kind (goal.at.returns c).After-shared_slice_known-1 in
    λ t g. rw c.behind_prefix-2.ensures (entries_shown t _ _ g _ e.0 e.1 e.2 c.if-subtype-eq6.false).1
