-- `write_rib::put_entries` meets its contract: each field goes behind the one before.
use mathlib.Core.Path.{ap, ◌∙◌}
use mathlib.Core.List.{append_assoc, append-nil}
use native.Mathlib.Omega.{arith}
use Rattle.octets_spec.specs.Over.{over}
use Rattle.write_laws.proofs.Laid.{none, number, octets}
use Rattle.write_rib.proofs.put_entries.Goals as goal

pub returns : goal.returns
returns c =
    let h = c.requires in
    let x1 = number (none c.args.out.now c.args.at (omega arith)) _ _ c.put_number.ensures (omega arith) (omega arith) in
    let x2 = octets x1 _ c.put_bytes.ensures (omega arith) (omega arith) in
    let x3 = number x2 _ _ c.put_number-2.ensures (omega arith) (omega arith) in
    let x4 = octets x3 _ c.put_bytes-2.ensures (omega arith) (omega arith) in
    x4.is ∙ ap (over c.args.out.now c.args.at) (simp (append_assoc, append-nil))
