-- `accept::table_or_rib` meets its contract.
use native.Mathlib.Omega.{arith}
use Rattle.accept_laws.proofs.Leaves.{first_kind, sixth_kind, if_sure, rib-sure, long_rib_sure, generic_leaves}
use Rattle.accept.proofs.table_or_rib.Goals as goal

pub returns-in-1 : goal.returns-in-1
returns-in-1 c = λ n. rw (first_kind _ c.in-1.is) (c.peer_table.ensures n _)

pub returns-in-6 : goal.returns-in-6
returns-in-6 c = λ n. rw (sixth_kind _ c.in-6.is, c.record_if.ensures) (if_sure _ _ _ _ (λ e. generic_leaves n _ _ (c.rib_generic.ensures e)))

pub returns-in-2-to-3 : goal.returns-in-2-to-3
returns-in-2-to-3 c = λ n. rw c.record_if-in-2-to-3.ensures (if_sure _ _ _ _ (λ e. rib-sure n _ _ _ (omega arith) (omega arith) (c.rib.ensures e)))

pub returns-in-4-to-5 : goal.returns-in-4-to-5
returns-in-4-to-5 c = λ n. rw c.record_if-in-4-to-5.ensures (if_sure _ _ _ _ (λ e. long_rib_sure n _ _ _ (omega arith) (omega arith) (c.rib-in-4-to-5.ensures e)))
