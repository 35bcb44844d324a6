-- `cut_lay::Far::pass` meets its contract.
use Rattle.cut_laws.proofs.Laid.{passed_new}
use Rattle.cut_lay.proofs.Far.pass.Goals as goal

pub returns-in-Peers : goal.returns-in-Peers
returns-in-Peers c =
    let p = c.requires.put_le_run in
    let e = c.in-Peers.is in
    rw e (passed_new p.1 p.2 p.3 c.lay-here.ensures.1 c.lay-here.ensures.0 c.lay_table-put.ensures.1 c.lay_table-put.ensures.0 (rw e at c.requires.room))

pub returns-in-Entries : goal.returns-in-Entries
returns-in-Entries c =
    let p = c.requires.put_le_run in
    let e = c.in-Entries.is in
    rw e (passed_new p.1 p.2 p.3 c.lay-here-in-Entries.ensures.1 c.lay-here-in-Entries.ensures.0 c.lay_rib-put.ensures.1 c.lay_rib-put.ensures.0 (rw e at c.requires.room))
