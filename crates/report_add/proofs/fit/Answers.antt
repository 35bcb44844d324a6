-- `report_add::fit` meets its contract.
use mathlib.Core.Path.{◌≡◌, refl, sym, ap, ◌∙◌}
use mathlib.Core.Bool.{true, false}
use mathlib.Core.List.{List, []}
use Prim.Native.Nat.{ℕ, ◌+◌, ◌^◌, ◌<◌}
use native.Mathlib.Omega.{arith}
use native.Mathlib.Numerals.{add-one}
use lib.Dec.{ltb}
use lib.ListN.{length, drop, get_or}
use lib.Seq.{drop-length}
use borrow.Author.Tests.{lt-ltb, le-ltb}
use Rattle.report_spec.specs.Sum.{sums, fit}
use Rattle.report_add.proofs.Words.{word}
use Rattle.report_add.proofs.Sums.{fit_from}
use borrow.Author.Rules.{rules}
use Rattle.report_add.proofs.fit.Goals.{Start}
use Rattle.report_add.proofs.fit.Goals as goal

-- 39 numbers of 64 bits
words : (c : Start) → (length c.args.report.now ≡ length c.args.more) × ((k : ℕ) → get_or c.args.more k 0 < 2 ^ 64)
words c =
    let g = c.well_formed.1.0 in (omega (arith, c.requires, g.1.0.1), word c.args.more g.0 g.1.1)

pub loop-i-init : goal.loop-i-init
loop-i-init c = (omega arith, refl)

pub overflow_sub-more : goal.overflow_sub-more
overflow_sub-more c = omega (arith, (words (goal.at.overflow_sub-more c).Start).1 c.loop-i.i)

pub returns-then-more-i : goal.returns-then-more-i
returns-then-more-i c =
    let s = c.args in
    let n = c.loop-i.i in
    let w = words (goal.at.returns-then-more-i c).Start in
    let h : n < 39 = search rules in
    let b : ltb (get_or s.report.now n 0 + get_or s.more n 0) (2 ^ 64) ≡ false = le-ltb (get_or s.report.now n 0 + get_or s.more n 0) (2 ^ 64) (omega (arith, c.if-more-i.true, w.1 n)) in
    sym (c.loop-i.invariant.1 ∙ fit_from s.report.now s.more n (omega (arith, c.requires)) w.0 ∙ rw b)

pub loop-i-preserved : goal.loop-i-preserved
loop-i-preserved c =
    let s = c.args in
    let n = c.loop-i.i in
    let w = words (goal.at.loop-i-preserved c).Start in
    let h : n < 39 = search rules in
    let b : ltb (get_or s.report.now n 0 + get_or s.more n 0) (2 ^ 64) ≡ true = lt-ltb (get_or s.report.now n 0 + get_or s.more n 0) (2 ^ 64) (omega (arith, c.if-more-i.false, w.1 n)) in
    (omega arith, c.loop-i.invariant.1 ∙ fit_from s.report.now s.more n (omega (arith, c.requires)) w.0 ∙ rw (b, add-one n))

pub returns : goal.returns
returns c =
    let s = c.args in
    let n : c.loop-i.i ≡ length s.report.now = omega (arith, c.loop-i.invariant.0, c.requires) in
    let e : drop c.loop-i.i s.report.now ≡ [] = ap (λ (j : ℕ). drop j s.report.now) n ∙ drop-length s.report.now in
    sym (c.loop-i.invariant.1 ∙ ap (λ (r : List ℕ). fit (sums r (drop c.loop-i.i s.more))) e)
