-- A loop over entries: what is left to go through is what was there at first.
use mathlib.Core.Path.{◌≡◌, refl, ap, ◌∙◌}
use Prim.Native.Nat.{◌+◌, ◌-◌}
use native.Mathlib.Omega.{arith}
use borrow.Author.Rules.{rules}
use Rattle.std.specs.Prelude.{Ok, Err}
use Rattle.form_spec.specs.Refusal.{refused}
use Rattle.octets_laws.proofs.Items.{goes, goes_on, stays, over, done}
use Rattle.page_spec.specs.Rib.{entry}
use Rattle.record_spec.specs.Fields as show
use Rattle.rib.proofs.Laws.{onward, goes_to, stops}
use Rattle.rib.proofs.entries_at.Goals as goal

pub returns-in_err-at : goal.returns-in_err-at
returns-in_err-at g c =
    let l = c.loop in
    let why = c.in_err-at.field-0.0 in
    let passed : c.from_residual.result ≡ Err why = search rules in
    passed ∙ stays show.entry refused refused onward goes_to stops _ _ _ (c.args.count - l.counter) l.at _ why.number why.place c.in_err-at.ensures.0 refl (omega arith) ∙ l.invariant.1

pub loop-preserved : goal.loop-preserved
loop-preserved g c =
    let l = c.loop in
    let a = c.args in
    let one_less : a.count - (l.counter + 1) ≡ a.count - l.counter - 1 = omega arith in (
      omega arith,
      ap (λ k. goes show.entry refused refused onward goes_to stops (entry a.peers) (Ok a.s) a.m.now k c.in_ok-at.field-0.next) one_less
          ∙ goes_on show.entry refused refused onward goes_to stops _ _ _ (a.count - l.counter) l.at _ _ _ c.in_ok-at.ensures.0 refl (λ f. refl) (omega arith) ∙ l.invariant.1,
    )

pub returns-then-at-m : goal.returns-then-at-m
returns-then-at-m g c =
    let l = c.loop in
    let a = c.args in
    over show.entry refused refused onward goes_to stops (entry a.peers) (Ok a.s) a.m.now (a.count - l.counter) l.at (omega arith) c.if-at-m.true ∙ l.invariant.1

pub returns : goal.returns
returns g c =
    let l = c.loop in
    let a = c.args in
    done show.entry refused refused onward goes_to stops (entry a.peers) (Ok a.s) a.m.now (a.count - l.counter) l.at (omega arith) c.if-at-m.false ∙ l.invariant.1
