-- `cut_items::lay_entry` meets its contract: the entry as it was, and its new index over the old.
use Rattle.std.proofs.Common.{◌∙◌, sym, arith}
use Rattle.form_laws.proofs.Octets.{octets_of_lem}
use Rattle.cut_laws.proofs.Laid.{laid_so, laid_not}
use Rattle.cut_items.proofs.Laws.{renumbered}
use Rattle.cut_items.proofs.lay_entry.Goals as goal

pub returns-then-lays : goal.returns-then-lays
returns-then-lays c =
    let a = c.args in
    let x = renumbered a.m.now a.at a.peers a.new (octets_of_lem _ (λ k. omega (arith, c.type_inv.m k))) c.requires.lies a.out.now _ _ a.put a.size c.requires.size_value.0 (c.requires.room c.if-lays.true) c.copy_block.ensures (rw c.from.ensures at c.put_number.ensures) in
    rw c.if-lays.true (x ∙ sym (laid_so _ _ _))

pub returns-else-lays : goal.returns-else-lays
returns-else-lays c = rw c.if-lays.false (sym (laid_not _ _ _))
