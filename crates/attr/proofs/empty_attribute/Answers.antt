-- `attr::empty_attribute` meets its contract.
use mathlib.Core.Path.{sym}
use Rattle.attr.proofs.Laws.{three_long, three_short}
use Rattle.attr.proofs.empty_attribute.Goals as goal

pub returns-then-extended : goal.returns-then-extended
returns-then-extended c = three_long c.args.m.now c.args.at (sym c.if-extended.ensures) c.requires

pub returns : goal.returns
returns c = three_short c.args.m.now c.args.at c.number.result (sym c.if-extended.ensures) c.requires c.number.ensures.0
