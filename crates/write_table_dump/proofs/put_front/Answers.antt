-- `write_table_dump::put_front` meets its contract: each field goes behind the one before.
use native.Mathlib.Omega.{arith}
use Rattle.write_laws.proofs.Laid.{none, number, octets}
use Rattle.write_table_dump.proofs.put_front.Goals as goal

pub returns : goal.returns
returns c =
    let h = c.requires in
    let x1 = number (none c.args.out.now 12 (omega arith)) _ _ c.put_number.ensures (omega arith) (omega arith) in
    let x2 = number x1 _ _ c.put_number-2.ensures (omega arith) (omega arith) in
    let x3 = octets x2 _ c.put_bytes.ensures (omega arith) (omega arith) in
    let x4 = number x3 _ _ c.put_number-3.ensures (omega arith) (omega arith) in
    (omega arith, x4.is)
