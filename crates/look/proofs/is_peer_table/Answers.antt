-- `look::is_peer_table` meets its contract.
use Rattle.look_laws.proofs.Sort.{table_first, no_table}
use Rattle.look.proofs.is_peer_table.Goals as goal

pub returns-then-ty-eq13 : goal.returns-then-ty-eq13
returns-then-ty-eq13 c = table_first _ _ c.if-ty-eq13.true

pub returns : goal.returns
returns c = no_table _ _ c.if-ty-eq13.false
