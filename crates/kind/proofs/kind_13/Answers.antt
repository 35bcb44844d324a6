use Prim.Native.Nat.{◌≤◌, ◌<◌}
use Rattle.octets_laws.proofs.Rules.{inside, below, above}
use native.Mathlib.Omega.{arith}
use borrow.Author.Tests.{ne_eqb}
use Rattle.form_spec.specs.Words.{choose, in_range}
use Rattle.page_spec.specs.Layout.{kind13}
use Rattle.kind.proofs.kind_13.Goals as goal

pub returns-in-1 : goal.returns-in-1
unfolding kind13 choose
returns-in-1 c = rw c.in-1.is

pub returns-in-6 : goal.returns-in-6
unfolding kind13 choose in_range
returns-in-6 c = rw c.in-6.is

pub returns-in-2-to-3 : goal.returns-in-2-to-3
unfolding kind13 choose
returns-in-2-to-3 c =
    let s = c.args.sub in
    let a : 2 ≤ s = omega arith in
    let b : s ≤ 3 = omega arith in
    simp (ne_eqb s 1 (λ e. omega arith), inside 2 s 3 a b)

pub returns-in-4-to-5 : goal.returns-in-4-to-5
unfolding kind13 choose
returns-in-4-to-5 c =
    let s = c.args.sub in
    let a : 4 ≤ s = omega arith in
    let b : s ≤ 5 = omega arith in
    simp (ne_eqb s 1 (λ e. omega arith), above 2 s 3 (omega arith), inside 4 s 5 a b)

pub returns-in_default : goal.returns-in_default
unfolding kind13 choose
returns-in_default c =
    let s = c.args.sub in
    let a : s < 1 = omega arith in
    simp (ne_eqb s 1 (λ e. omega arith), below 2 s 3 (omega arith), below 4 s 5 (omega arith), ne_eqb s 6 (λ e. omega arith))

pub returns-in_default-2 : goal.returns-in_default-2
unfolding kind13 choose
returns-in_default-2 c =
    let s = c.args.sub in
    let a : 6 < s = omega arith in
    simp (ne_eqb s 1 (λ e. omega arith), above 2 s 3 (omega arith), above 4 s 5 (omega arith), ne_eqb s 6 (λ e. omega arith))
