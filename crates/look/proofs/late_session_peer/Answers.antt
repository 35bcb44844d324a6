-- `look::late_session_peer` meets its contract.
use mathlib.Core.Path.{◌∙◌}
use Prim.Native.Nat.{◌+◌}
use native.Mathlib.Omega.{arith}
use Rattle.look_laws.proofs.There.{type-shown, subtype_shown, Speaks, late_session_shown}
use Rattle.look_spec.specs.Field.{Told, Good}
use Rattle.look.proofs.late_session_peer.Goals.{After-shared_slice_known-1}
use Rattle.look.proofs.late_session_peer.Goals as goal

-- where the session lies, whatever table the record is good with
there : (c : After-shared_slice_known-1) → let a = c.args in (t : Told) (g : Good t a.d.now a.at) → Speaks t a.d.now a.at g (a.at + 16) a.subtype
there c t g =
    let k = c.requires in late_session_shown t _ _ g _ (type-shown k.0 _ _ k.1 ∙ k.2.0) (subtype_shown k.0 _ _ k.1 ∙ k.2.1)

pub first_as-requires : goal.first_as-requires
first_as-requires c = let k = c.requires in omega (arith, (there (goal.at.first_as-requires c).After-shared_slice_known-1 k.0 k.1).inside)

pub returns : goal.returns
returns c = λ t g. c.first_as.ensures ∙ (there (goal.at.returns c).After-shared_slice_known-1 t g).peer
