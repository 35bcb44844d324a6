-- A writer's number is the reader's: what reading would answer for the record's octets, and 15 only where that is 0. For each of the seven
-- writers, from its own promise. Two things must hold for a reader to meet in the octets what the writer was given.
--
-- `Own`: Type and Subtype are the writer's, or such that the reader refuses them as the writer does. Else the writer refuses a record of
-- another layout (4, or 3), where a reader would go by that layout.
-- `Placed`: every number goes into its field, and every part has its field's size. Else the later fields would stand elsewhere, or a number
-- has no octets to be read from, and the number is that of the field in its turn, by `refusal` of form_spec/specs/Put: 5 for a part too short,
-- 6 for one too long or a number too large. What it asks of each writer's parameters is in proofs/Placed, whose a record is in proofs/Own.
use mathlib.Core.Path.{◌≡◌, refl, sym, ap, ◌∙◌}
use mathlib.Core.List.{List, [], ◌∷◌, ◌++◌, append-nil}
use Prim.Native.Nat.{ℕ, zero, suc, ◌<◌}
use native.Mathlib.Omega.{arith}
use lib.ListN.{length, length-append}
use Rattle.form_spec.specs.Shape.{Layout, St, no_table}
use Rattle.form_spec.specs.Found.{fault_number}
use Rattle.form_spec.specs.Record.{read_rec}
use Rattle.form_spec.specs.Put.{Given, octets, record_refusal}
use Rattle.form_spec.specs.Aligned.{Placed}
use Rattle.form_laws.proofs.Octets.{length-to_be}
use Rattle.form_laws.proofs.Refuses.{refuses_record}
use Rattle.page_spec.specs.Layout.{layout, unlisted}
use Rattle.page_spec.specs.Chosen.{Chosen}
use Rattle.record_spec.specs.Table.{Table, state_of}
use Rattle.record_spec.specs.Reads.{number_at}
use Rattle.room_spec.specs.Written.{Written}
use Rattle.room_spec.specs.Answer.{fault, place}
use Rattle.room_spec.specs.Room.{number_for, place_for}
use Rattle.write_spec.specs.declared.Time.{Time}
use Rattle.write_spec.specs.Times.{micro_size}
use Rattle.write_spec.specs.Only.{table_dumps, peer_tables, ribs, generic_ribs, changes, messages, unreads, only, Own, only_sub, only_type}
use Rattle.write_spec.specs.Givens.{unread_given, table_dump_given, peer_table_given, rib_given, rib_generic_given, change_given, message_given}
use Rattle.write_spec.specs.Verdict.{Writes}
use Rattle.record_laws.proofs.Only.{own_refusal, own_refusal_untold}
use Rattle.record_laws.proofs.Own.{own_table_dump, own_peer_table, own_rib_generic}
use Rattle.form_spec.specs.Refusal.{refused}

-- ---- the number of a record whose values are placed

module _ (longest : ℕ) (t : Table) where
  some_octets : (s : List ℕ) → 0 < length s → number_at longest t s ≡ fault_number (read_rec (layout longest) (state_of t) 0 s)
  some_octets [] h = absurd (omega arith)
  some_octets (x ∷ s) h = refl

  record_some : (g : Given) (q : List ℕ) → 0 < length (octets g ++ q)
  unfolding octets
  record_some g q = simp (length-append, length-to_be) (omega arith)

  -- whatever follows
  pub number_before : (g : Given) → Placed (layout longest) (state_of t) g → (q : List ℕ) → record_refusal (layout longest) (state_of t) g ≡ number_at longest t (octets g ++ q)
  number_before g h q = refuses_record (layout longest) (state_of t) 0 g q h ∙ sym (some_octets (octets g ++ q) (record_some g q))

  -- or nothing
  pub number_alone : (g : Given) → Placed (layout longest) (state_of t) g → record_refusal (layout longest) (state_of t) g ≡ number_at longest t (octets g)
  number_alone g h = rw (append-nil (octets g)) at (number_before g h [])

  -- so what follows the record has no part in it
  pub number_follows : (g : Given) → Placed (layout longest) (state_of t) g → (q : List ℕ) → number_at longest t (octets g ++ q) ≡ number_at longest t (octets g)
  number_follows g h q = sym (number_before g h q) ∙ number_alone g h

-- ---- the law

-- the number of a writer's answer r is the one that the reader, told of the table t, gives the record, then 15; the buffer was `out`
abbrev pub AsRead : (longest : ℕ) (t : Table) (out : List ℕ) (r : Written) (g : Given) → Type 0
AsRead longest t out r g = fault r ≡ number_for (number_at longest t (octets g)) (octets g) out

-- its place is 0, whatever it was given
pub writer-place : (l : ℕ → ℕ → Layout) (st : St) (g : Given) (out held : List ℕ) (r : Written) → Writes l st g out r held → place r ≡ 0
writer-place l st g out held r w = w.2.1 ∙ go (record_refusal l st g)
  where
    go : (n : ℕ) → place_for n 0 ≡ 0
    go zero = refl
    go (suc n) = refl

-- a writer answers r, and its buffer is `held` now. What it does not list it refuses with the number suc a and the place p
module _ (longest : ℕ) (t : Table) (out held : List ℕ) (r : Written) where
  -- told of a table or not, it refuses as the page does where the reader's table is in force
  as_read : (l : ℕ → ℕ → Layout) (st : St) (g : Given) → record_refusal l st g ≡ record_refusal (layout longest) (state_of t) g → Placed (layout longest) (state_of t) g → Writes l st g out r held
      → AsRead longest t out r g
  as_read l st g alike h w = w.2.0 ∙ ap (λ (n : ℕ). number_for n (octets g) out) (alike ∙ number_alone longest t g h)

  -- a writer that is told of the same table
  pub told_as_read : (n : ℕ) (other : Chosen) (g : Given) → Own n other g → Placed (layout longest) (state_of t) g → Writes (only n other longest) (state_of t) g out r held → AsRead longest t out r g
  told_as_read n other g o h w = as_read (only n other longest) (state_of t) g (own_refusal n other longest (state_of t) g o) h w

  -- a writer that is told of none, since its records ask for none
  pub untold_as_read : (n a p : ℕ) (g : Given) → (n ≡ ribs → ⊥) → (n ≡ generic_ribs → ⊥) → Own n (refused (suc a) p) g → Placed (layout longest) (state_of t) g
      → Writes (only n (refused (suc a) p) longest) no_table g out r held → AsRead longest t out r g
  untold_as_read n a p g x y o h w = as_read (only n (refused (suc a) p) longest) no_table g (own_refusal_untold n a p longest (state_of t) g o x y) h w

  -- ---- the seven writers

  pub unread_refuses_as_read : (time : Time) (type sub : ℕ) (contents : List ℕ)
      → let g = unread_given time type sub contents in
      Own (unreads (micro_size time)) (refused 3 4) g → Placed (layout longest) (state_of t) g → Writes (only_type (unreads (micro_size time)) longest) no_table g out r held → AsRead longest t out r g
  unread_refuses_as_read time type sub contents o h w = untold_as_read _ 2 4 _ (λ e. omega arith) (λ e. omega arith) o h w

  pub table_dump_refuses_as_read : (timestamp sub view sequence : ℕ) (prefix : List ℕ) (bits status originated : ℕ) (address : List ℕ) (peer : ℕ) (attributes : List ℕ)
      → let g = table_dump_given timestamp sub view sequence prefix bits status originated address peer attributes in
      Placed (layout longest) (state_of t) g → Writes (only_sub table_dumps longest) no_table g out r held → AsRead longest t out r g
  table_dump_refuses_as_read timestamp sub view sequence prefix bits status originated address peer attributes h w =
      untold_as_read _ 3 6 _ (λ e. omega arith) (λ e. omega arith) (own_table_dump sub) h w

  pub peer_table_refuses_as_read : (timestamp collector : ℕ) (name : List ℕ) (count : ℕ) (peers : List ℕ)
      → let g = peer_table_given timestamp collector name count peers in
      Placed (layout longest) (state_of t) g → Writes (only_sub peer_tables longest) no_table g out r held → AsRead longest t out r g
  peer_table_refuses_as_read timestamp collector name count peers h w = untold_as_read _ 3 6 _ (λ e. omega arith) (λ e. omega arith) own_peer_table h w

  -- the two that are told a table: the reader is told the same
  pub rib_refuses_as_read : (timestamp sub sequence bits : ℕ) (prefix : List ℕ) (count : ℕ) (entries : List ℕ)
      → let g = rib_given timestamp sub sequence bits prefix count entries in
      Own ribs unlisted g → Placed (layout longest) (state_of t) g → Writes (only_sub ribs longest) (state_of t) g out r held → AsRead longest t out r g
  rib_refuses_as_read timestamp sub sequence bits prefix count entries o h w = told_as_read ribs unlisted _ o h w

  pub rib_generic_refuses_as_read : (timestamp sequence family safi bits : ℕ) (prefix : List ℕ) (count : ℕ) (entries : List ℕ)
      → let g = rib_generic_given timestamp sequence family safi bits prefix count entries in
      Placed (layout longest) (state_of t) g → Writes (only_sub generic_ribs longest) (state_of t) g out r held → AsRead longest t out r g
  rib_generic_refuses_as_read timestamp sequence family safi bits prefix count entries h w = told_as_read generic_ribs unlisted _ own_rib_generic h w

  pub change_refuses_as_read : (time : Time) (sub peer local interface family : ℕ) (theirs ours : List ℕ) (old new : ℕ)
      → let g = change_given time sub peer local interface family theirs ours old new in
      Own changes unlisted g → Placed (layout longest) (state_of t) g → Writes (only_sub changes longest) no_table g out r held → AsRead longest t out r g
  change_refuses_as_read time sub peer local interface family theirs ours old new o h w = untold_as_read _ 3 6 _ (λ e. omega arith) (λ e. omega arith) o h w

  pub message_refuses_as_read : (time : Time) (sub peer local interface family : ℕ) (theirs ours message : List ℕ)
      → let g = message_given time sub peer local interface family theirs ours message in
      Own messages unlisted g → Placed (layout longest) (state_of t) g → Writes (only_sub messages longest) no_table g out r held → AsRead longest t out r g
  message_refuses_as_read time sub peer local interface family theirs ours message o h w = untold_as_read _ 3 6 _ (λ e. omega arith) (λ e. omega arith) o h w
