-- `accept::session_end` meets its contract.
use mathlib.Core.Path.{refl}
use native.Mathlib.Omega.{arith}
use Rattle.accept_laws.proofs.Fields.{not_none, family-session}
use Rattle.accept.proofs.session_end.Goals as goal

pub returns : goal.returns
returns c =
    let h = not_none _ c.if-family-eq0.false in
    (omega arith, family-session _ _ _ _ (omega arith) _ c.number-family.ensures.0 c.if-family-eq0.false (omega arith) refl)
