-- `write::put_head` meets its contract: each number goes behind the one before.
use mathlib.Core.Path.{ap, ◌∙◌}
use mathlib.Core.List.{append-nil}
use native.Mathlib.Omega.{arith}
use Rattle.octets_spec.specs.Over.{over}
use Rattle.write_laws.proofs.Laid.{none, number}
use Rattle.write.proofs.put_head.Goals as goal

pub returns : goal.returns
returns c =
    let h = c.requires in
    let x1 = number (none c.args.out.now 0 (omega arith)) _ _ c.put_number.ensures (omega arith) (omega arith) in
    let x2 = number x1 _ _ c.put_number-2.ensures (omega arith) (omega arith) in
    let x3 = number x2 _ _ c.put_number-3.ensures (omega arith) (omega arith) in
    let x4 = number x3 _ _ c.put_number-4.ensures (omega arith) (omega arith) in
    x4.is ∙ ap (over c.args.out.now 0) (simp append-nil)
