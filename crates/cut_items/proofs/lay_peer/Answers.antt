-- `cut_items::lay_peer` meets its contract.
use Rattle.std.proofs.Common.{◌∙◌, sym}
use Rattle.cut_laws.proofs.Laid.{laid_so, laid_not}
use Rattle.cut_items.proofs.lay_peer.Goals as goal

pub returns-then-lays : goal.returns-then-lays
returns-then-lays c = rw c.if-lays.true (c.copy_block.ensures ∙ sym (laid_so _ _ _))

pub returns-else-lays : goal.returns-else-lays
returns-else-lays c = rw c.if-lays.false (sym (laid_not _ _ _))
