-- `record::show` meets its contract.
use mathlib.Core.Path.{◌≡◌}
use native.Mathlib.Omega.{arith}
use Rattle.page_spec.specs.Sane.{Sane}
use Rattle.std.specs.Prelude.{Ok}
use Rattle.page_spec.specs.declared.Kind.{Kind}
use Rattle.record_spec.specs.One.{shown_as}
use borrow.Author.Rules.{rules}
use Rattle.record.proofs.show.Goals.{After-shared_slice_known-1}
use Rattle.record.proofs.show.Goals as goal

-- the kind is sane, as what the match has shown it to be
sane : (c : After-shared_slice_known-1) (y : Kind) → c.args.k ≡ y → Sane (Ok y)
sane c y e =
    rw e at c.requires.sane

pub unread-requires : goal.unread-requires
unread-requires c = let s = sane (goal.at.unread-requires c).After-shared_slice_known-1 _ c.in-Unread.is in record { in_bounds = search rules; micro_bound = omega arith }

pub table_dump-requires : goal.table_dump-requires
table_dump-requires c = sane (goal.at.table_dump-requires c).After-shared_slice_known-1 _ c.in-TableDump.is

pub rib-requires : goal.rib-requires
rib-requires c = let s = sane (goal.at.rib-requires c).After-shared_slice_known-1 _ c.in-Rib.is in record { in_bounds = search rules; bits_bound = s }

pub change-requires : goal.change-requires
change-requires c = let s = sane (goal.at.change-requires c).After-shared_slice_known-1 _ c.in-Change.is in record { in_bounds = search rules; micro_bound = (omega arith, omega arith) }

pub message-requires : goal.message-requires
message-requires c = let s = sane (goal.at.message-requires c).After-shared_slice_known-1 _ c.in-Message.is in record { in_bounds = search rules; micro_bound = (omega arith, omega arith) }

pub returns-in-Unread : goal.returns-in-Unread
unfolding shown_as
returns-in-Unread c = rw c.in-Unread.is c.unread.ensures

pub returns-in-TableDump : goal.returns-in-TableDump
unfolding shown_as
returns-in-TableDump c = rw c.in-TableDump.is (rw c.header_of.ensures at c.table_dump.ensures)

pub returns-in-PeerTable : goal.returns-in-PeerTable
unfolding shown_as
returns-in-PeerTable c = rw c.in-PeerTable.is (rw c.header_of-in-PeerTable.ensures at c.peer_table.ensures)

pub returns-in-Rib : goal.returns-in-Rib
unfolding shown_as
returns-in-Rib c = rw c.in-Rib.is c.rib.ensures

pub returns-in-RibGeneric : goal.returns-in-RibGeneric
unfolding shown_as
returns-in-RibGeneric c = rw c.in-RibGeneric.is c.generic.ensures

pub returns-in-Change : goal.returns-in-Change
unfolding shown_as
returns-in-Change c = rw c.in-Change.is c.change.ensures

pub returns-in-Message : goal.returns-in-Message
unfolding shown_as
returns-in-Message c = rw c.in-Message.is c.message.ensures
