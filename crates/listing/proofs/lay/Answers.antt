-- `listing::lay` meets its contract.
use mathlib.Core.Path.{refl, sym, ap, ◌∙◌}
use Rattle.std.specs.Prelude.{Ok}
use Prim.Native.Nat.{◌+◌, ◌≤◌}
use native.Mathlib.Omega.{arith}
use lib.ListN.{length}
use Rattle.form_spec.specs.Octets.{Octets}
use Rattle.form_laws.proofs.Octets.{octets_of_lem}
use Rattle.page_spec.specs.Bgp4mp.{longest_message}
use Rattle.listing.proofs.Listed.{starts, done_end, done_fault, room, turn}
use borrow.Author.Rules.{rules}
use Rattle.listing.proofs.lay.Goals.{At-loop-out, In-Ok-Some}
use Rattle.listing.proofs.lay.Goals as goal

-- the dump's octets are octets
octets : (c : At-loop-out) → Octets c.args.d.now
octets c =
    octets_of_lem c.args.d.now (λ k. omega (arith, c.shared_slice_known-1.given k))

-- the record has its 12 octets, inside the dump
on : (c : In-Ok-Some) → let i = c.in-Ok-Some.i in
    (c.loop-out.at + 12 ≤ i.next) × (i.next ≤ length c.args.d.now)
on c =
    let octets : (Octets c.args.d.now) = octets_of_lem c.args.d.now (λ k. omega (arith, c.shared_slice_known-1.given k)) in
    room longest_message _ octets _ _ _ _ _ c.loop-out.invariant.1 _ _ (sym c.step_at.ensures.0 ∙ c.in-Ok-Some.is ∙ ap Ok c.in-Ok-Some.field-0-is)

pub loop-out-init : goal.loop-out-init
loop-out-init c = (refl, starts longest_message _ _)

pub put_fault-requires : goal.put_fault-requires
put_fault-requires c =
    let i = c.loop-out.invariant.1 in
    omega (arith, i.few, i.bound)

pub returns-in-Ok-None : goal.returns-in-Ok-None
returns-in-Ok-None c =
    let i = c.loop-out.invariant.1 in
    (done_end longest_message _ (octets (goal.at.returns-in-Ok-None c).At-loop-out) _ _ _ _ _ i _ _ (sym c.step_at.ensures.0 ∙ c.in-Ok-None.is ∙ ap Ok c.in-Ok-None.field-0-is) c.put_fault.ensures.0 (omega (arith, i.few, i.bound)), omega (arith, i.few, i.bound))

pub put_fault-requires-in-Err : goal.put_fault-requires-in-Err
put_fault-requires-in-Err c =
    let i = c.loop-out.invariant.1 in
    omega (arith, i.few, i.bound)

pub returns-in-Err : goal.returns-in-Err
returns-in-Err c =
    let i = c.loop-out.invariant.1 in
    (done_fault longest_message _ (octets (goal.at.returns-in-Err c).At-loop-out) _ _ _ _ _ i _ _ _ _ (sym c.step_at.ensures.0 ∙ c.in-Err.is) c.put_fault-in-Err.ensures.0 (omega (arith, i.few, i.bound)), omega (arith, i.few, i.bound))

pub put_line-put-requires : goal.put_line-put-requires
put_line-put-requires c =
    let i = c.loop-out.invariant.1 in
    let o = on (goal.at.put_line-put-requires c).In-Ok-Some in
    omega (arith, i.few)

pub loop-out-smaller : goal.loop-out-smaller
loop-out-smaller c = let o = on (goal.at.loop-out-smaller c).In-Ok-Some in omega arith

pub loop-out-preserved : goal.loop-out-preserved
loop-out-preserved c =
    let i = c.loop-out.invariant.1 in
    let o = on (goal.at.loop-out-preserved c).In-Ok-Some in
    let e = c.put_line-put.ensures in
    (search rules, turn longest_message _ (octets (goal.at.loop-out-preserved c).At-loop-out) _ _ _ _ _ i _ _ (sym c.step_at.ensures.0 ∙ c.in-Ok-Some.is ∙ ap Ok c.in-Ok-Some.field-0-is) _ _ e.0 e.1 (omega (arith, i.few)))
