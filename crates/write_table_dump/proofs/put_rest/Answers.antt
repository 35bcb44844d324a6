-- `write_table_dump::put_rest` meets its contract: each field goes behind the one before.
use native.Mathlib.Omega.{arith}
use Rattle.write_laws.proofs.Laid.{none, number, octets}
use Rattle.write_table_dump.proofs.put_rest.Goals as goal

pub returns : goal.returns
returns c =
    let h = c.requires in
    let x1 = number (none c.args.out.now c.args.at (omega arith)) _ _ c.put_number.ensures (omega arith) (omega arith) in
    let x2 = number x1 _ _ c.put_number-2.ensures (omega arith) (omega arith) in
    let x3 = octets x2 _ c.put_bytes.ensures (omega arith) (omega arith) in
    let x4 = number x3 _ _ c.put_number-3.ensures (omega arith) (omega arith) in
    let x5 = number x4 _ _ c.put_number-4.ensures (omega arith) (omega arith) in
    let x6 = octets x5 _ c.put_bytes-2.ensures (omega arith) (omega arith) in
    x6.is
