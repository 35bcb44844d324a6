-- `write_peers::put_table` meets its contract: each field goes behind the one before.
use mathlib.Core.Path.{ap, ◌∙◌}
use mathlib.Core.List.{append_assoc, append-nil}
use native.Mathlib.Omega.{arith}
use Rattle.octets_spec.specs.Over.{over}
use Rattle.write_laws.proofs.Laid.{none, number, octets}
use Rattle.write_peers.proofs.put_table.Goals as goal

pub returns : goal.returns
returns c =
    let h = c.requires in
    let x1 = number (none c.args.out.now 12 (omega arith)) _ _ c.put_number.ensures (omega arith) (omega arith) in
    let x2 = number x1 _ _ c.put_number-2.ensures (omega arith) (omega arith) in
    let x3 = octets x2 _ c.put_bytes.ensures (omega arith) (omega arith) in
    let x4 = number x3 _ _ c.put_number-3.ensures (omega arith) (omega arith) in
    let x5 = octets x4 _ c.put_bytes-2.ensures (omega arith) (omega arith) in
    x5.is ∙ ap (over c.args.out.now 12) (simp (append_assoc, append-nil))
