-- `write_rib::entries_refusal` meets its contract: the count, then what the reader says.
use Rattle.page_spec.specs.Rib.{entry}
use Rattle.write_laws.proofs.Items.{items_read}
use Rattle.write_rib.proofs.entries_refusal.Goals as goal

pub returns : goal.returns
returns c = let a = c.args in items_read (entry a.peers) a.count a.entries.now _ _ c.in_ok-fits.ensures c.entries_at.ensures
