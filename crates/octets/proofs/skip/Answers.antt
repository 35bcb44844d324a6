use native.Mathlib.Omega.{arith}
use Prim.Native.Nat.{◌+◌, ◌≤◌, ◌<◌}
use lib.ListN.{length}
use Rattle.octets_spec.specs.Field.{room_at}
use Rattle.octets_laws.proofs.Rules.{flow}
use Rattle.octets.proofs.skip.Goals.{then-m-at-via-then-m-at, then-m-at-via-else-m-at+then-m-at-2}
use Rattle.octets.proofs.skip.Goals as goal

pub returns-then-m-at : goal.returns-then-m-at
unfolding room_at
returns-then-m-at c =
    let a = c.args in
    let h : length a.m.now < a.at + a.n = elim c.then-m-at.branch [ then-m-at-via-then-m-at w ↦ omega arith | then-m-at-via-else-m-at+then-m-at-2 w ↦ omega arith ] in
    search flow

pub returns : goal.returns
unfolding room_at
returns c =
    let a = c.args in
    let h : a.at + a.n ≤ length a.m.now = omega arith in
    search flow
