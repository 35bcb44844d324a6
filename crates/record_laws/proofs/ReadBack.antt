-- Reading what a writer did not refuse shows the fields given: for each of the seven writers, from its own promise.
use mathlib.Core.Path.{◌≡◌}
use mathlib.Core.List.{List}
use Prim.Native.Nat.{ℕ, suc}
use native.Mathlib.Omega.{arith}
use Rattle.form_spec.specs.Octets.{Octets}
use Rattle.form_spec.specs.Shape.{no_table}
use Rattle.form_spec.specs.Put.{Given}
use Rattle.record_spec.specs.Table.{Table, state_of}
use Rattle.room_spec.specs.Written as room
use Rattle.write_spec.specs.declared.Time.{Time}
use Rattle.write_spec.specs.Times.{micro_size}
use Rattle.write_spec.specs.Only.{table_dumps, peer_tables, ribs, generic_ribs, changes, messages, unreads, only, only_sub, only_type}
use Rattle.write_spec.specs.Givens.{unread_given, table_dump_given, peer_table_given, rib_given, rib_generic_given, change_given, message_given}
use Rattle.write_spec.specs.Verdict.{Writes}
use Rattle.record_laws.proofs.Accepts.{tells-table}
use Rattle.record_laws.proofs.Only.{own_refusal_free}
use Rattle.record_laws.proofs.Written.{Fair, read_back}
pub use Rattle.record_laws.proofs.Written.{ReadBack}
use Rattle.record_laws.proofs.Fair.{fair_table_dump, fair_peer_table, fair_rib, fair_generic, fair_change, fair_message, fair_unread}
use Rattle.form_spec.specs.Refusal.{refused}

-- a writer's buffer was `out`; it answers that it wrote k octets, and its buffer is `held` now. The reader is told of the table t.
-- What a writer does not list it refuses with the number suc a and the place p
module _ (longest : ℕ) (t : Table) (out held : List ℕ) (k : ℕ) (oc : Octets out) where
  -- a writer that is told of the same table
  told_back : (n a p : ℕ) (g : Given) → Fair n g → Writes (only n (refused (suc a) p) longest) (state_of t) g out (room.Octets k) held → ReadBack longest t held k n g
  told_back n a p g fair w = read_back longest t (state_of t) (tells-table t) n a p g fair (state_of t) (λ e. e) out held k oc w

  -- a writer that is told of none, since its records ask for none
  free_back : (n a p : ℕ) (g : Given) → Fair n g → (n ≡ ribs → ⊥) → (n ≡ generic_ribs → ⊥) → Writes (only n (refused (suc a) p) longest) no_table g out (room.Octets k) held
      → ReadBack longest t held k n g
  free_back n a p g fair h i w = read_back longest t (state_of t) (tells-table t) n a p g fair no_table (own_refusal_free n a p longest (state_of t) g h i) out held k oc w

  -- ---- the seven writers

  pub unread_read_back : (time : Time) (type sub : ℕ) (contents : List ℕ) → Octets contents
      → let g = unread_given time type sub contents in
      Writes (only_type (unreads (micro_size time)) longest) no_table g out (room.Octets k) held → ReadBack longest t held k (unreads (micro_size time)) g
  unread_read_back time type sub contents x w = free_back _ 2 4 _ (fair_unread time type sub contents x) (λ e. omega arith) (λ e. omega arith) w

  pub table_dump_read_back : (timestamp sub view sequence : ℕ) (prefix : List ℕ) (bits status originated : ℕ) (address : List ℕ) (peer : ℕ) (attributes : List ℕ)
      → Octets prefix → Octets address → Octets attributes
      → let g = table_dump_given timestamp sub view sequence prefix bits status originated address peer attributes in
      Writes (only_sub table_dumps longest) no_table g out (room.Octets k) held → ReadBack longest t held k table_dumps g
  table_dump_read_back timestamp sub view sequence prefix bits status originated address peer attributes x y z w =
      free_back _ 3 6 _ (fair_table_dump timestamp sub view sequence prefix bits status originated address peer attributes x y z) (λ e. omega arith) (λ e. omega arith) w

  pub peer_table_read_back : (timestamp collector : ℕ) (name : List ℕ) (count : ℕ) (peers : List ℕ) → Octets name → Octets peers
      → let g = peer_table_given timestamp collector name count peers in
      Writes (only_sub peer_tables longest) no_table g out (room.Octets k) held → ReadBack longest t held k peer_tables g
  peer_table_read_back timestamp collector name count peers x y w = free_back _ 3 6 _ (fair_peer_table timestamp collector name count peers x y) (λ e. omega arith) (λ e. omega arith) w

  -- the two that are told a table: the reader is told the same
  pub rib_read_back : (timestamp sub sequence bits : ℕ) (prefix : List ℕ) (count : ℕ) (entries : List ℕ) → Octets prefix → Octets entries
      → let g = rib_given timestamp sub sequence bits prefix count entries in
      Writes (only_sub ribs longest) (state_of t) g out (room.Octets k) held → ReadBack longest t held k ribs g
  rib_read_back timestamp sub sequence bits prefix count entries x y w = told_back _ 3 6 _ (fair_rib timestamp sub sequence bits prefix count entries x y) w

  pub rib_generic_read_back : (timestamp sequence family safi bits : ℕ) (prefix : List ℕ) (count : ℕ) (entries : List ℕ) → Octets prefix → Octets entries
      → let g = rib_generic_given timestamp sequence family safi bits prefix count entries in
      Writes (only_sub generic_ribs longest) (state_of t) g out (room.Octets k) held → ReadBack longest t held k generic_ribs g
  rib_generic_read_back timestamp sequence family safi bits prefix count entries x y w = told_back _ 3 6 _ (fair_generic timestamp sequence family safi bits prefix count entries x y) w

  pub change_read_back : (time : Time) (sub peer local interface family : ℕ) (theirs ours : List ℕ) (old new : ℕ) → Octets theirs → Octets ours
      → let g = change_given time sub peer local interface family theirs ours old new in
      Writes (only_sub changes longest) no_table g out (room.Octets k) held → ReadBack longest t held k changes g
  change_read_back time sub peer local interface family theirs ours old new x y w =
      free_back _ 3 6 _ (fair_change time sub peer local interface family theirs ours old new x y) (λ e. omega arith) (λ e. omega arith) w

  pub message_read_back : (time : Time) (sub peer local interface family : ℕ) (theirs ours message : List ℕ) → Octets theirs → Octets ours → Octets message
      → let g = message_given time sub peer local interface family theirs ours message in
      Writes (only_sub messages longest) no_table g out (room.Octets k) held → ReadBack longest t held k messages g
  message_read_back time sub peer local interface family theirs ours message x y z w =
      free_back _ 3 6 _ (fair_message time sub peer local interface family theirs ours message x y z) (λ e. omega arith) (λ e. omega arith) w
