-- `write_bgp::put_states` meets its contract.
use native.Mathlib.Omega.{arith}
use Rattle.write_laws.proofs.Laid.{none, number}
use Rattle.write_bgp.proofs.put_states.Goals as goal

pub returns : goal.returns
returns c =
    let h = c.requires in
    let x1 = number (none c.args.out.now c.args.at (omega arith)) _ _ c.put_number.ensures (omega arith) (omega arith) in
    let x2 = number x1 _ _ c.put_number-2.ensures (omega arith) (omega arith) in
    x2.is
