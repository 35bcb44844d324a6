-- `cut_lay::lay_front` meets its contract: the octets as they were, Length over the old one, the count behind.
use Rattle.std.proofs.Common.{sym, ◌∙◌, ◌-◌, arith}
use Rattle.cut_laws.proofs.Laid.{laid_so, laid_not}
use Rattle.cut_lay.proofs.Laws.{laid-front}
use Rattle.cut_lay.proofs.lay_front.Goals as goal

pub returns-then-lays : goal.returns-then-lays
returns-then-lays c =
    let a = c.args in
    let p = c.requires.at_bound in
    let x = laid-front a.d.now a.at (a.counted - a.at - 12) (a.end - a.put - 12) a.kept (omega (arith, p)) a.out.now _ _ _ a.put (a.counted - a.at) (omega (arith, p)) (omega (arith, p, c.requires.room c.if-lays.true))
    c.copy_blocks.ensures c.put_number.ensures c.put_number-then-lays.ensures in
    rw c.if-lays.true (x ∙ sym (laid_so a.out.now a.put _))

pub returns-else-lays : goal.returns-else-lays
returns-else-lays c = let a = c.args in rw c.if-lays.false (sym (laid_not a.out.now a.put _))
