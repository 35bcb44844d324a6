-- `attr::tile` meets its contract.
use mathlib.Core.Path.{◌∙◌}
use Rattle.attr.proofs.Laws.{whole_tiled, three_left, too_few}
use Rattle.attr.proofs.tile.Goals as goal

pub returns-then-at-m : goal.returns-then-at-m
returns-then-at-m c = whole_tiled c.args.m.now c.attributes_end-at.result c.attributes_end-at.ensures c.if-at-m.true

pub returns-then-at-m-2 : goal.returns-then-at-m-2
returns-then-at-m-2 c = c.empty_attribute.ensures ∙ three_left c.args.m.now c.attributes_end-at.result c.attributes_end-at.ensures c.if-at-m-2.true

pub returns : goal.returns
returns c = too_few c.args.m.now c.attributes_end-at.result c.attributes_end-at.ensures c.if-at-m.false c.if-at-m-2.false
