-- `bgp::message_rest` meets its contract: a message that is there ends n - 16 octets behind its length field.
use mathlib.Core.Path.{◌≡◌}
use Prim.Native.Nat.{◌+◌, ◌-◌, ◌≤◌}
use native.Mathlib.Omega.{arith}
use Rattle.bgp.proofs.Laws.{far}
use Rattle.page_spec.specs.Bgp4mp.{message_rest}
use Rattle.octets_laws.proofs.Rules.{flow, late}
use Rattle.bgp.proofs.message_rest.Goals.{In-Ok, then-n-lt19-via-then-n-lt19, then-n-lt19-via-else-n-lt19+then-longest-n}
use Rattle.bgp.proofs.message_rest.Goals as goal

-- it ends n - 16 octets behind its length field
ends : (c : In-Ok) → let a = c.args in c.in-Ok.e ≡ a.length + (a.n - 16)
ends c =
    let long : 19 ≤ c.args.n = omega (arith, c.if-n-lt19.false) in
    far _ c.args.length _ _ _ c.requires long c.in-Ok.ensures

pub returns-then-n-lt19 : goal.returns-then-n-lt19
unfolding message_rest
returns-then-n-lt19 c = elim c.then-n-lt19.branch [ then-n-lt19-via-then-n-lt19 w ↦ search (flow, late) depth 12 | then-n-lt19-via-else-n-lt19+then-longest-n w ↦ search (flow, late) depth 12 ]

pub returns-in_default : goal.returns-in_default
unfolding message_rest
returns-in_default c =
    let lacks = c.in_default.ensures in
    search (flow, late) depth 12

pub returns-then-e-m : goal.returns-then-e-m
unfolding message_rest
returns-then-e-m c =
    let there = c.in-Ok.ensures in
    let q = ends (goal.at.returns-then-e-m c).In-Ok in
    search (flow, late) depth 12

pub returns : goal.returns
unfolding message_rest
returns c =
    let there = c.in-Ok.ensures in
    let q = ends (goal.at.returns c).In-Ok in
    search (flow, late) depth 12
