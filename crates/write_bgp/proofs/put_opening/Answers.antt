-- `write_bgp::put_opening` meets its contract: the microseconds, then the session.
use mathlib.Core.List.{[]}
use native.Mathlib.Omega.{arith}
use Rattle.write_spec.specs.Times.{micros}
use Rattle.write_spec.specs.Givens.{session_values}
use Rattle.write_laws.proofs.Answers.{micros_long}
use Rattle.write_laws.proofs.Laid.{none, values}
use Rattle.write_bgp.proofs.Laws.{opening_long}
use Rattle.write_bgp.proofs.put_opening.Goals as goal

pub returns : goal.returns
returns c =
    let a = c.args in
    let h = c.requires in
    let m = c.put_micros-a.ensures in
    let n = c.put_session.ensures in
    let l = opening_long a.width a.peer a.local a.interface a.family a.theirs.now a.ours.now in
    let x1 = values (none a.out.now 12 (omega arith)) (micros a.time) _ (micros_long a.time) m.1 (omega arith) (omega arith) in
    let x2 = values x1 (session_values a.width a.peer a.local a.interface a.family a.theirs.now a.ours.now []) _ l n.1 (omega (arith, m.0)) (omega arith) in
    (omega (arith, m.0, n.0), x2.is)
