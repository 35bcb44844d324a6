-- Which numbers the fault of a record can have: those up to 13, and 17 where a peer table's message holds all of a view name that is not text.
use mathlib.Core.Path.{◌≡◌, refl, subst}
use mathlib.Core.Bool.{Bool, true, false, cond}
use mathlib.Core.Logic.{⊎_elim}
use mathlib.Core.List.{List, [], ◌∷◌}
use Prim.Native.Nat.{ℕ, zero, suc, ◌+◌, ◌-◌, ◌/◌, ◌%◌, ◌≤◌}
use native.Mathlib.Omega.{arith}
use lib.Dec.{eqb, leb, ltb}
use lib.ListN.{length, take, drop}
use borrow.Author.Tests.{ltb-false}
use Rattle.form_spec.specs.Octets.{be}
use Rattle.form_spec.specs.Fmt.{Out, bad, good, bind, guard, refuse_if, Fmt, end, test, field, read, join}
use Rattle.form_spec.specs.Words.{choose, num, skip, must, fail, checked, tested, area, in_range}
use Rattle.form_spec.specs.Body.{read_n, just, many, Body, plain, listed, ended, read_body}
use Rattle.form_spec.specs.Shape.{entries, indexed, St, no_table, with_peers, plan}
use Rattle.form_spec.specs.Record.{read_rec}
use Rattle.form_spec.specs.Found.{fault_number}
use Rattle.octets_spec.specs.Be.{num_at}
use Rattle.text_spec.specs.Check.{is_text}
use Rattle.page_spec.specs.Bgp4mp.{addresses, session, state, state_change, message_rest, message}
use Rattle.page_spec.specs.Rib.{tiling, attributes, entry_rest, prefix, rib_head, generic_head}
use Rattle.page_spec.specs.TableDump.{table_dump_rest, table_dump}
use Rattle.page_spec.specs.Peers.{peer_rest, peer_sized, peer, table_head}
use Rattle.page_spec.specs.Tiles.{tiles}
use Rattle.page_spec.specs.Layout.{kind, stamped, layout_for, layout}
use Rattle.page_spec.specs.Chosen.{Chosen, Unread, TableDump, PeerTable, Rib, RibGeneric, Change, Message}
use Rattle.page_laws.proofs.Choice.{Says, kind_says}
use Rattle.page_laws.proofs.Refused.{Refuses, refuses}
use Rattle.record_spec.specs.Named.{Named, name_in}
use Rattle.record_laws.proofs.One.{rec_header, short_header}
use Rattle.record_laws.proofs.Head.{by_name, name_of, message_in, held_in_record, name_in_message}
use Rattle.std.specs.Prelude.{Err}

-- ---- formats whose own checks give no other numbers than those up to 13

unfoldable Low : Fmt → Type 0
Low (end b) = Unit
Low (test n b f) = (n ≤ 13) × Low f
Low (field x l b k) = (c : List ℕ) → Low (k c)

low_choose : (t : Bool) (f g : Fmt) → Low f → Low g → Low (choose t f g)
unfolding choose
low_choose true f g h j = h
low_choose false f g h j = j

low_test : (ok : Bool) (n : ℕ) → n ≤ 13 → cond ok 0 n ≤ 13
low_test true n h = omega arith
low_test false n h = h

low_num : (x w : ℕ) (k : ℕ → Fmt) → ((v : ℕ) → Low (k v)) → Low (num x w k)
unfolding num Low
low_num x w k h c = h (be c)

low_skip : (x w : ℕ) (f : Fmt) → Low f → Low (skip x w f)
unfolding skip Low
low_skip x w f h c = h

low_checked : (x w : ℕ) (ok : ℕ → Bool) (n : ℕ) (k : ℕ → Fmt) → n ≤ 13 → ((v : ℕ) → Low (k v)) → Low (checked x w ok n k)
unfolding checked Low
low_checked x w ok n k h g c = (low_test (ok (be c)) n h, g (be c))

low_attributes : Low (attributes (end 0))
unfolding attributes tiling tested Low
low_attributes = low_num _ _ _ (λ n c. (low_test (tiles c 0) 11 (omega arith), tt))

low_addresses : (n : ℕ) (f : Fmt) → Low f → Low (addresses n f)
unfolding addresses
low_addresses n f h = low_skip _ _ _ (low_skip _ _ f h)

low_session : (w : ℕ) (f : Fmt) → Low f → Low (session w f)
unfolding session fail Low
low_session w f h =
    low_num _ _ _ λ p. low_num _ _ _ λ l. low_num _ _ _ λ i. low_num _ _ _ λ family.
    low_choose (eqb family 1) _ _ (low_addresses 4 f h) (low_choose (eqb family 2) _ _ (low_addresses 16 f h) (omega arith, tt))

low_stamped : (micro : ℕ) (f : Fmt) → Low f → Low (stamped micro f)
unfolding stamped
low_stamped zero f h = h
low_stamped (suc n) f h = low_num _ _ _ (λ u. h)

low_change : Low state_change
unfolding state_change state Low
low_change = low_checked _ _ _ 9 _ (omega arith) (λ o. low_checked _ _ _ 9 _ (omega arith) (λ n. tt))

low_message : (longest : ℕ) → Low (message longest)
unfolding message message_rest must area Low
low_message longest = low_skip _ _ _ (low_num _ _ _ λ n. low_num _ _ _ λ t. (low_test (in_range 19 n longest) 10 (omega arith), λ c. tt))

low_table_dump : (size : ℕ) → Low (table_dump size)
unfolding table_dump table_dump_rest
low_table_dump size =
    low_num _ _ _ λ v. low_num _ _ _ λ s. low_skip _ _ _ (low_checked _ _ _ 8 _ (omega arith) λ n.
    low_num _ _ _ λ s. low_num _ _ _ λ t. low_skip _ _ _ (low_num _ _ _ λ p. low_attributes))

low_prefix : (bits : ℕ) → Low (prefix bits (end 0))
unfolding prefix Low
low_prefix bits = low_checked _ _ _ 8 _ (omega arith) (λ n. low_skip _ _ _ tt)

low_generic : Low (generic_head (end 0))
low_generic =
    low_num _ _ _ λ n. low_checked _ _ _ 7 _ (omega arith) λ f. low_checked _ _ _ 7 _ (omega arith) λ s.
    low_choose (leb f 1) _ _ (low_prefix 32) (low_prefix 128)

low_peer_sized : (size t : ℕ) → Low (peer_sized size t)
unfolding peer_sized peer_rest Low
low_peer_sized size t = low_choose (eqb (t / 2 % 2) 1) _ _ (low_skip _ _ _ (low_num _ _ _ λ a. tt)) (low_skip _ _ _ (low_num _ _ _ λ a. tt))

low_peer : Low peer
unfolding peer
low_peer = low_num _ _ _ λ t. low_num _ _ _ λ b. low_choose (eqb (t % 2) 1) _ _ (low_peer_sized 16 t) (low_peer_sized 4 t)

low_entry : Low entry_rest
low_entry = low_num _ _ _ λ t. low_attributes

-- ---- what reading finds: a number with P, which all up to 13 have

module _ (P : ℕ → Type 0) (low : (n : ℕ) → n ≤ 13 → P n) where
  abbrev Found : {A : Type 0} → Out A → Type 0
  Found o = P (fault_number o)

  none : P 0
  none = low 0 (omega arith)

  found_guard : {A : Type 0} (n p : ℕ) (o : Out A) → n ≤ 13 → Found o → Found (guard n p o)
  found_guard zero p o h g = g
  found_guard (suc n) p o h g = low (suc n) h

  found_refuse : {A : Type 0} (t : Bool) (n p : ℕ) (o : Out A) → n ≤ 13 → (t ≡ false → Found o) → Found (refuse_if t n p o)
  found_refuse true n p o h g = low n h
  found_refuse false n p o h g = g refl

  found_bind : {A B : Type 0} (o : Out A) (k : A → List ℕ → Out B) → Found o → ((a : A) (r : List ℕ) → Found (k a r)) → Found (bind o k)
  found_bind (bad n p) k h g = h
  found_bind (good a r) k h g = g a r

  found_ended : (p : ℕ) (b : Body) (r : List ℕ) → Found (ended p b r)
  found_ended p b [] = none
  found_ended p b (x ∷ r) = low 6 (omega arith)

  found_read : (f : Fmt) (at : ℕ) (bs : List ℕ) → Low f → Found (read f at bs)
  unfolding Low read
  found_read (end b) at bs h = none
  found_read (test n b f) at bs h = found_guard n (at - b) (read f at bs) h.0 (found_read f at bs h.1)
  found_read (field x l b k) at bs h =
      found_refuse (ltb (length bs) l) 5 (at - b) _ (omega arith)
      (λ e. found_bind (read (k (take l bs)) (at + l) (drop l bs)) _ (found_read (k (take l bs)) (at + l) (drop l bs) (h (take l bs))) (λ a r. none))

  found_n : (f : Fmt) (n at : ℕ) (bs : List ℕ) → Low f → Found (read_n f n at bs)
  unfolding read_n
  found_n f zero at bs h = none
  found_n f (suc n) at bs h =
      found_bind (read f at bs) _ (found_read f at bs h) (λ a r. found_bind (read_n f n (at + length (join a)) r) _ (found_n f n (at + length (join a)) r h) (λ its q. none))

  found_just : (f : Fmt) (at : ℕ) (bs : List ℕ) → Low f → Found (read_body (just f) at bs)
  unfolding read_body
  found_just f at bs h = found_bind (read f at bs) _ (found_read f at bs h) (λ cs r. found_ended _ (plain cs) r)

  found_many : (f g : Fmt) (at : ℕ) (bs : List ℕ) → Found (read f at bs) → Low g → Found (read_body (many f g) at bs)
  unfolding read_body
  found_many f g at bs h l =
      found_bind (read f at bs) _ h
      (λ cs r. found_refuse (ltb (length r) 2) 5 _ _ (omega arith)
      (λ e. found_bind (read_n g (be (take 2 r)) (at + length (join cs) + 2) (drop 2 r)) _ (found_n g (be (take 2 r)) (at + length (join cs) + 2) (drop 2 r) l) (λ its q. found_ended _ (listed cs its) q)))

  found_entries : (st : St) (f : Fmt) (at : ℕ) (bs : List ℕ) → Low f → Found (read_body (plan st (entries f entry_rest)) at bs)
  unfolding plan Low
  found_entries no_table f at bs h = found_just (test 12 6 (end 0)) at bs (omega arith, tt)
  found_entries (with_peers ns) f at bs h =
      found_many f (indexed (length ns) entry_rest) at bs (found_read f at bs h) (low_checked _ _ _ 13 _ (omega arith) (λ i. low_entry))

  module _ (longest : ℕ) (st : St) where
    -- a message, by its kind
    found_body : (k : Chosen) (at : ℕ) (bs : List ℕ) → Refuses k → (k ≡ PeerTable → 6 + num_at bs 4 2 ≤ length bs → is_text (name_of bs) ≡ false → P 17) → Found (read_body (plan st (layout_for longest k)) at bs)
    unfolding plan layout_for read_body Low
    found_body (Err why) at bs h w = found_just (test why.number (12 - why.place) (end 0)) at bs (⊎_elim (λ z. omega (arith, z.0)) (λ z. omega (arith, z.0)) h, tt)
    found_body (Unread micro) at bs h w = found_bind (read (stamped micro (end 0)) at bs) _ (found_read (stamped micro (end 0)) at bs (low_stamped micro (end 0) tt)) (λ cs r. none)
    found_body (TableDump size) at bs h w = found_just (table_dump size) at bs (low_table_dump size)
    found_body PeerTable at bs h w =
        found_many (table_head (end 0)) peer at bs (by_name Found at bs (λ h p. low 5 (omega arith)) (λ h e p. w refl h e) (λ h e cs r. none)) low_peer
    found_body (Rib bits) at bs h w = found_entries st (rib_head bits (end 0)) at bs (low_num _ _ _ (λ n. low_prefix bits))
    found_body RibGeneric at bs h w = found_entries st (generic_head (end 0)) at bs low_generic
    found_body (Change micro w) at bs h v = found_just (stamped micro (session w state_change)) at bs (low_stamped micro (session w state_change) (low_session w state_change low_change))
    found_body (Message micro w) at bs h v =
        found_just (stamped micro (session w (message longest))) at bs (low_stamped micro (session w (message longest)) (low_session w (message longest) (low_message longest)))

    -- a record
    pub found_record : (at : ℕ) (s : List ℕ) → (Named s → is_text (name_in s) ≡ false → P 17) → Found (read_rec (layout longest) st at s)
    unfolding layout
    found_record at s wrong = start (ltb (length s) 12) refl
      where
        y : ℕ
        y = num_at s 4 2

        u : ℕ
        u = num_at s 6 2

        -- a peer table whose name is there
        named : 12 + num_at s 8 4 ≤ length s → kind y u ≡ PeerTable → 6 + num_at (message_in s) 4 2 ≤ length (message_in s) → is_text (name_of (message_in s)) ≡ false → P 17
        named h k held e =
            let says : (y ≡ 13) × (u ≡ 1) = subst (Says y u) k (kind_says y u) in
            let g : 6 + num_at s 16 2 ≤ num_at s 8 4 = held_in_record s h held in
            wrong record { table = record { type = says.0; sub = says.1; whole = h }; held = g } (rw (name_in_message s h g) at e)

        start : (t : Bool) → ltb (length s) 12 ≡ t → Found (read_rec (layout longest) st at s)
        start true e = rw (short_header longest st at s e) (low 1 (omega arith))
        start false e =
            let l : 12 ≤ length s = ltb-false _ _ e in
            rw (rec_header longest st at s l)
            (found_refuse (ltb (length s - 12) (num_at s 8 4)) 2 at _ (omega arith) λ f.
            found_bind (read_body (plan st (layout longest y u)) (at + 12) (message_in s)) _
            (found_body (kind y u) (at + 12) (message_in s) (refuses y u) (named (omega (arith, ltb-false (length s - 12) (num_at s 8 4) f)))) (λ b q. none))
