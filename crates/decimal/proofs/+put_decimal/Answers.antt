-- `decimal::put_decimal` meets its contract: all digits but the last, then the last.
use Rattle.std.proofs.Common.{◌≤◌, arith}
use Rattle.decimal.proofs.Laws.{length_small, length-step, lays_small, lays_step}
use Rattle.decimal.proofs.+put_decimal.Goals as goal

pub bounds-out-at : goal.bounds-out-at
bounds-out-at t c =
    let l = length_small c.args.n c.if-n-lt10.true in
    omega (arith, c.requires)

pub returns-then-n-lt10 : goal.returns-then-n-lt10
returns-then-n-lt10 t c =
    let l = length_small c.args.n c.if-n-lt10.true in
    (omega arith, lays_small _ _ _ c.if-n-lt10.true (omega (arith, c.requires)))

pub put_decimal-end-requires : goal.put_decimal-end-requires
put_decimal-end-requires t c =
    let l = length-step c.args.n c.if-n-lt10.false in
    (omega arith, omega (arith, c.requires))

pub bounds-out-end : goal.bounds-out-end
bounds-out-end t c =
    let l = length-step c.args.n c.if-n-lt10.false in
    omega (arith, c.requires, c.put_decimal-end.ensures.0)

pub overflow_add-result-2 : goal.overflow_add-result-2
overflow_add-result-2 t c =
    let l = length-step c.args.n c.if-n-lt10.false in
    omega (arith, c.requires, c.put_decimal-end.ensures.0)

pub returns : goal.returns
returns t c =
    let e = c.put_decimal-end.ensures in
    let h : 10 ≤ c.args.n = c.if-n-lt10.false in
    let l = length-step c.args.n h in
    (omega (arith, e.0), rw (e.0, e.1) (lays_step _ _ _ h c.requires))
