-- What code asks of each layout is enough: the format goes through the octets.
use mathlib.Core.Path.{◌≡◌, refl, sym, ◌∙◌}
use mathlib.Core.Bool.{Bool, true, false, cond}
use mathlib.Core.Logic.{⊎_elim}
use mathlib.Core.List.{List}
use Prim.Native.Nat.{ℕ, zero, suc, ◌+◌, ◌*◌, ◌-◌, ◌/◌, ◌%◌, ◌≤◌, ◌<◌}
use native.Mathlib.Omega.{arith}
use native.Mathlib.Nat.{eq-or-lt_of_le}
use lib.Dec.{leb, eqb}
use lib.ListN.{length, take, drop, get_or}
use borrow.Author.Tests.{eq-eqb, ne_eqb, lt-ltb, le-leb, lt-leb}
use Rattle.form_spec.specs.Fmt.{Fmt, end}
use Rattle.form_spec.specs.Words.{choose, in_range, fail}
use Rattle.form_spec.specs.Pass.{times}
use Rattle.octets_spec.specs.Be.{num_at}
use Rattle.octets_laws.proofs.Be.{num_at_1}
use Rattle.octets_laws.proofs.Rules.{inside}
use Rattle.page_spec.specs.Names.{peer_as, local_as, interface, family, peer_address, local_address, old_state, new_state, marker, bgp_length, bgp_type, bgp_rest, view, sequence, prefix_bits, prefix_octets, status, originated, attribute_length, attribute_octets, entry_count, safi, collector, view_length, view_name, peer_count, peer_type, bgp_id, peer_index}
use Rattle.text_spec.specs.Check.{is_text}
use Rattle.page_spec.specs.Tiles.{tiles}
use Rattle.page_spec.specs.Bgp4mp.{session, addresses, state, state_change, message, message_rest}
use Rattle.page_spec.specs.TableDump.{table_dump, table_dump_rest}
use Rattle.page_spec.specs.Rib.{prefix, entry, entry_list, attributes, tiling, rib, rib_generic}
use Rattle.page_spec.specs.Peers.{peer, peer_rest, peer_sized, peer_list, peer_table}
use Rattle.look_spec.specs.Items.{address_size, as_size, peer_end}
use Rattle.accept_laws.specs.Runs.{Runs, Through, SessionTo}
use Rattle.accept_laws.proofs.Runs.{num-runs, skip_runs, checked-runs, tested-runs, end_runs, first_runs, second_runs, must_runs, area-runs}

pub not_none : (n : ℕ) → (n ≡ 0 → ⊥) → 1 ≤ n
not_none zero h = absurd (h refl)
not_none (suc n) h = omega arith

module _ (m : List ℕ) where
  abbrev e : ℕ
  e = length m

  -- ---- types 16 and 17

  module _ (w i r : ℕ) (there : i + 2 * w + 4 ≤ length m) where
    head : (f : Fmt) → Through (choose (eqb (num_at m (i + w + w + 2) 2) 1) (addresses 4 f) (choose (eqb (num_at m (i + w + w + 2) 2) 2) (addresses 16 f) (fail 7 2))) m (i + w + w + 2 + 2)
        → Through (session w f) m i
    unfolding session
    head f h = num-runs m e peer_as w _ i (omega arith) (num-runs m e local_as w _ (i + w) (omega arith) (num-runs m e interface 2 _ (i + w + w) (omega arith) (num-runs m e family 2 _ (i + w + w + 2) (omega arith) h)))

    both : (n : ℕ) (f : Fmt) → i + 2 * w + 4 + n + n ≡ r → r ≤ length m → Through f m r → Through (addresses n f) m (i + w + w + 2 + 2)
    unfolding addresses
    both n f z l h =
        let y : i + w + w + 2 + 2 + n + n ≡ r = omega arith in
        skip_runs m e peer_address n _ _ (omega arith) (skip_runs m e local_address n f _ (omega arith) (rw y h))

    fam : i + w + w + 2 ≡ i + 2 * w + 4 - 2
    fam = omega arith

    short_session : num_at m (i + 2 * w + 4 - 2) 2 ≡ 1 → i + 2 * w + 4 + 8 ≡ r → SessionTo w m i r
    short_session q z l f h =
        let x : num_at m (i + w + w + 2) 2 ≡ 1 = rw fam q in
        head f (first_runs m e _ _ _ _ (eq-eqb _ 1 x) (both 4 f (omega arith) l h))

    long_session : num_at m (i + 2 * w + 4 - 2) 2 ≡ 2 → i + 2 * w + 4 + 32 ≡ r → SessionTo w m i r
    long_session q z l f h =
        let x : num_at m (i + w + w + 2) 2 ≡ 2 = rw fam q in
        head f (second_runs m e _ _ _ _ (ne_eqb (num_at m (i + w + w + 2) 2) 1 (λ y. omega arith)) (first_runs m e _ _ _ _ (eq-eqb _ 2 x) (both 16 f (omega arith) l h)))

    -- the family says which
    pub family-session : (n : ℕ) → n ≡ num_at m (i + 2 * w + 4 - 2) 2 → (n ≡ 0 → ⊥) → n ≤ 2 → i + 2 * w + 4 + 24 * n - 16 ≡ r → SessionTo w m i r
    family-session n q z l e =
        ⊎_elim (λ (k : 1 ≡ n). short_session (sym q ∙ sym k) (omega arith)) (λ (k : 1 < n). long_session (sym q ∙ omega arith) (omega arith)) (eq-or-lt_of_le (not_none n z))

  pub change-runs : (i : ℕ) → length m ≡ i + 4 → in_range 1 (num_at m i 2) 6 ≡ true → in_range 1 (num_at m (i + 2) 2) 6 ≡ true → Through state_change m i
  unfolding state_change state
  change-runs i l a b = checked-runs m e old_state 2 9 _ _ i (omega arith) a (checked-runs m e new_state 2 9 _ _ (i + 2) (omega arith) b (end_runs m e 0 _ (omega arith)))

  pub message-runs : (longest i n : ℕ) → i + 19 ≤ length m → n ≡ num_at m (i + 16) 2 → n ≡ length m - i → n ≤ longest → Through (message longest) m i
  unfolding message message_rest
  message-runs longest i n l a b c =
      let z : i + 16 + 2 + 1 + (num_at m (i + 16) 2 - 19) ≡ length m = omega arith in
      skip_runs m e marker 16 _ i (omega arith) (num-runs m e bgp_length 2 _ (i + 16) (omega arith) (num-runs m e bgp_type 1 _ (i + 16 + 2) (omega arith)
      (must_runs m e _ 10 3 _ _ (inside 19 _ longest (omega arith) (omega arith)) (area-runs m e bgp_rest _ 3 _ _ (omega arith) (end_runs m e _ _ z)))))

  -- ---- attributes, and an entry

  pub attributes-run : (i j n : ℕ) → i + 2 ≤ length m → n ≡ num_at m i 2 → j ≡ i + 2 + n → j ≤ length m → tiles (take n (drop (i + 2) m)) 0 ≡ true → Runs (attributes (end 0)) m i j
  unfolding attributes tiling
  attributes-run i j n h a b c z =
      num-runs m j attribute_length 2 _ i h (tested-runs m j attribute_octets _ 11 _ _ (i + 2) (rw (← a) (omega arith)) (rw (← a) z) (end_runs m j 0 _ (omega arith)))

  pub entry_runs : (peers i j n : ℕ) → i + 8 ≤ length m → num_at m i 2 < peers → n ≡ num_at m (i + 6) 2 → j ≡ i + 8 + n → j ≤ length m → tiles (take n (drop (i + 8) m)) 0 ≡ true → Runs (entry peers) m i j
  unfolding entry
  entry_runs peers i j n h p a b c z =
      let x : i + 6 ≡ i + 2 + 4 = omega arith in
      let y : i + 8 ≡ i + 2 + 4 + 2 = omega arith in
      checked-runs m j peer_index 2 13 _ _ i (omega arith) (lt-ltb _ _ p) (num-runs m j originated 4 _ (i + 2) (omega arith) (attributes-run (i + 2 + 4) j n (omega arith) (rw x at a) (omega arith) c (rw y at z)))

  -- ---- RIB records

  pub prefix-runs : (most peers i c : ℕ) → i < length m → num_at m i 1 ≤ most → c ≡ i + 1 + (num_at m i 1 + 7) / 8 → c + 2 ≤ length m → Through (times (num_at m c 2) (entry peers)) m (c + 2)
      → Through (prefix most (entry_list peers)) m i
  unfolding prefix entry_list
  prefix-runs most peers i c h b a l r =
      checked-runs m e prefix_bits 1 8 _ _ i (omega arith) (le-leb _ _ b) (skip_runs m e prefix_octets _ _ (i + 1) (omega arith) (rw (← a) (num-runs m e entry_count 2 _ c l r)))

  pub rib-runs : (most peers : ℕ) → 16 ≤ length m → Through (prefix most (entry_list peers)) m 16 → Through (rib most peers) m 12
  unfolding rib
  rib-runs most peers h r = num-runs m e sequence 4 _ 12 h r

  generic_runs : (peers f s : ℕ) → 19 ≤ length m → num_at m 16 2 ≡ f → num_at m 18 1 ≡ s → in_range 1 f 2 ≡ true → in_range 1 s 2 ≡ true → Through (choose (leb f 1) (prefix 32 (entry_list peers)) (prefix 128 (entry_list peers))) m 19 → Through (rib_generic peers) m 12
  unfolding rib_generic
  generic_runs peers f s h a b x y r =
      num-runs m e sequence 4 _ 12 (omega arith) (checked-runs m e family 2 7 _ _ 16 (omega arith) (rw a x) (rw a (checked-runs m e safi 1 7 _ _ 18 h (rw b y) r)))

  pub generic_first : (peers : ℕ) → 19 ≤ length m → num_at m 16 2 ≡ 1 → 1 ≤ num_at m 18 1 → num_at m 18 1 ≤ 2 → Through (prefix 32 (entry_list peers)) m 19 → Through (rib_generic peers) m 12
  generic_first peers h a b c r = generic_runs peers 1 _ h a refl (inside 1 1 2 (omega arith) (omega arith)) (inside 1 _ 2 b c) (first_runs m e _ _ _ _ (le-leb 1 1 (omega arith)) r)

  pub generic_second : (peers : ℕ) → 19 ≤ length m → num_at m 16 2 ≡ 2 → 1 ≤ num_at m 18 1 → num_at m 18 1 ≤ 2 → Through (prefix 128 (entry_list peers)) m 19 → Through (rib_generic peers) m 12
  generic_second peers h a b c r = generic_runs peers 2 _ h a refl (inside 1 2 2 (omega arith) (omega arith)) (inside 1 _ 2 b c) (second_runs m e _ _ _ _ (lt-leb 2 1 (omega arith)) r)

  -- ---- type 12

  pub route_runs : (size n : ℕ) → 26 + 2 * size ≤ length m → num_at m (16 + size) 1 ≤ 8 * size → n ≡ num_at m (26 + 2 * size - 2) 2 → n ≡ length m - (26 + 2 * size) → tiles (take n (drop (26 + 2 * size) m)) 0 ≡ true
      → Through (table_dump size) m 12
  unfolding table_dump table_dump_rest
  route_runs size n h b a l z =
      let x : 26 + 2 * size - 2 ≡ 12 + 2 + 2 + size + 1 + 1 + 4 + size + 2 = omega arith in
      let y : 26 + 2 * size ≡ 12 + 2 + 2 + size + 1 + 1 + 4 + size + 2 + 2 = omega arith in
      num-runs m e view 2 _ 12 (omega arith) (num-runs m e sequence 2 _ (12 + 2) (omega arith) (skip_runs m e prefix_octets size _ (12 + 2 + 2) (omega arith)
      (checked-runs m e prefix_bits 1 8 _ _ (12 + 2 + 2 + size) (omega arith) (le-leb _ _ b) (num-runs m e status 1 _ (12 + 2 + 2 + size + 1) (omega arith) (num-runs m e originated 4 _ (12 + 2 + 2 + size + 1 + 1) (omega arith)
      (skip_runs m e peer_address size _ (12 + 2 + 2 + size + 1 + 1 + 4) (omega arith) (num-runs m e peer_as 2 _ (12 + 2 + 2 + size + 1 + 1 + 4 + size) (omega arith)
      (attributes-run _ e n (omega arith) (rw x at a) (omega arith) (omega arith) (rw y at z)))))))))

  -- ---- a peer, and a peer table

  rest-runs : (size w i : ℕ) → i + size + w ≤ length m → Runs (peer_rest size w) m i (i + size + w)
  unfolding peer_rest
  rest-runs size w i h = skip_runs m _ peer_address size _ i (omega arith) (num-runs m _ peer_as w _ (i + size) h (end_runs m _ 0 _ refl))

  sized-runs : (size k i : ℕ) → i + size + as_size k ≤ length m → Runs (peer_sized size k) m i (i + size + as_size k)
  unfolding peer_sized choose
  sized-runs size k i = go (eqb (k / 2 % 2) 1)
    where
      go : (b : Bool) → i + size + cond b 4 2 ≤ length m → Runs (choose b (peer_rest size 4) (peer_rest size 2)) m i (i + size + cond b 4 2)
      go true h = rest-runs size 4 i h
      go false h = rest-runs size 2 i h

  placed_runs : (k i : ℕ) → i + address_size k + as_size k ≤ length m → Runs (choose (eqb (k % 2) 1) (peer_sized 16 k) (peer_sized 4 k)) m i (i + address_size k + as_size k)
  unfolding choose
  placed_runs k i = go (eqb (k % 2) 1)
    where
      go : (b : Bool) → i + cond b 16 4 + as_size k ≤ length m → Runs (choose b (peer_sized 16 k) (peer_sized 4 k)) m i (i + cond b 16 4 + as_size k)
      go true h = sized-runs 16 k i h
      go false h = sized-runs 4 k i h

  pub peer-runs : (i : ℕ) → peer_end m i ≤ length m → Runs peer m i (peer_end m i)
  unfolding peer
  peer-runs i h =
      let k : num_at m i 1 ≡ get_or m i 0 = num_at_1 m i (omega arith) in
      let z : i + 1 + 4 ≡ i + 5 = omega arith in
      num-runs m _ peer_type 1 _ i (omega arith) (num-runs m _ bgp_id 4 _ (i + 1) (omega arith) (rw (k, z) (placed_runs (get_or m i 0) (i + 5) h)))

  pub table_runs : (c : ℕ) → c ≡ 18 + num_at m 16 2 → c + 2 ≤ length m → is_text (take (c - 18) (drop 18 m)) ≡ true → Through (times (num_at m c 2) peer) m (c + 2) → Through peer_table m 12
  unfolding peer_table peer_list
  table_runs c a l t r =
      let n : c - 18 ≡ num_at m 16 2 = omega arith in
      num-runs m e collector 4 _ 12 (omega arith) (num-runs m e view_length 2 _ 16 (omega arith)
      (tested-runs m e view_name _ 17 _ _ 18 (omega arith) (rw n at t) (rw (← a) (num-runs m e peer_count 2 _ c l r))))
