-- `accept::entries` meets its contract.
use Prim.Native.Nat.{◌+◌, ◌-◌}
use mathlib.Core.Path.{◌≡◌, sym, ◌∙◌}
use native.Mathlib.Omega.{arith}
use borrow.Author.Tests.{eqb-true}
use Rattle.accept_laws.proofs.Runs.{no_items, one_item}
use Rattle.accept_laws.proofs.Fields.{entry_runs}
use borrow.Author.Rules.{rules}
use Rattle.accept.proofs.entries.Goals as goal

pub loop-preserved : goal.loop-preserved
loop-preserved c =
    let a = c.args in
    let i = c.loop.at in
    let index = c.number.ensures.0 in
    let size = c.number-in-loop.ensures.0 in
    let next = i + 8 + c.number-in-loop.result in
    let tiled = sym c.tile.ensures ∙ c.if-not-tile.false in
    let r = entry_runs a.m.now a.peers i next (next - (i + 8)) (omega arith) (omega arith) (omega arith) (omega arith) (omega arith) tiled in
    (search rules, omega arith, λ h. c.loop.invariant.2 (one_item _ _ _ _ _ _ (omega arith) r h))

pub returns : goal.returns
returns c =
    let k = c.loop in
    let z : c.args.entry_count - k.counter ≡ 0 = omega arith in
    λ e. k.invariant.2 (rw z (no_items _ _ _ (eqb-true _ _ e)))
