-- `record::stamp_at` meets its contract.
use mathlib.Core.Path.{◌≡◌, ap, ◌∙◌}
use borrow.Author.Rules.{rules}
use Rattle.std.specs.Prelude.{Err}
use Rattle.record.specs.Stamp.{stamp_of}
use Rattle.record.proofs.stamp_at.Goals as goal

pub returns-in_err-microseconds : goal.returns-in_err-microseconds
returns-in_err-microseconds c =
    let passed : c.from_residual.result ≡ Err c.in_err-microseconds.field-0.0 = search rules in
    passed ∙ ap (stamp_of c.args.m.now) c.in_err-microseconds.ensures.0

pub overflow_cast-microseconds : goal.overflow_cast-microseconds
overflow_cast-microseconds c = let s = c.in_ok-microseconds.ensures.1 in search rules

pub returns : goal.returns
returns c = rw c.header_of.ensures (ap (stamp_of c.args.m.now) c.in_ok-microseconds.ensures.0)
