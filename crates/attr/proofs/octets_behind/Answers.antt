-- `attr::octets_behind` meets its contract.
use mathlib.Core.Path.{sym}
use Rattle.attr.proofs.Laws.{long_ends, short_ends}
use Rattle.attr.proofs.octets_behind.Goals as goal

pub returns-then-extended : goal.returns-then-extended
returns-then-extended c = long_ends c.args.m.now c.args.at c.number.result (sym c.if-extended.ensures) c.requires c.number.ensures.0 c.number.ensures.1

pub returns : goal.returns
returns c = short_ends c.args.m.now c.args.at c.number-2.result (sym c.if-extended.ensures) c.requires c.number-2.ensures.0 c.number-2.ensures.1
