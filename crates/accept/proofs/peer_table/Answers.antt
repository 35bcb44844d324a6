-- `accept::peer_table` meets its contract.
use mathlib.Core.Path.{sym, ◌∙◌}
use native.Mathlib.Omega.{arith}
use Rattle.accept_laws.proofs.Leaves.{table-sure}
use Rattle.accept.proofs.peer_table.Goals as goal

pub returns-then-is_text : goal.returns-then-is_text
returns-then-is_text c =
    let counted = c.name_end-counted.ensures.0 in
    let many = c.count-many.ensures.0 in
    let text = sym c.is_text.ensures ∙ c.if-is_text.true in
    λ n t. table-sure n _ t _ _ (omega arith) counted many (omega arith) text (c.peers.ensures c.if-peers.true)
