-- Where the fields of a good record lie, kind by kind.
use mathlib.Core.Path.{◌≡◌, refl, sym}
use mathlib.Core.Bool.{Bool, true, false, cond}
use mathlib.Core.List.{List, []}
use Prim.Native.Nat.{ℕ, zero, suc, ◌+◌, ◌*◌, ◌-◌, ◌/◌, ◌≤◌}
use native.Mathlib.Omega.{arith}
use lib.Dec.{ltb, leb, eqb}
use lib.ListN.{length, take, drop}
use borrow.Author.Tests.{ltb-false, ne_eqb}
use Rattle.form_spec.specs.Octets.{be}
use Rattle.form_spec.specs.Fmt.{Fmt, end, test, field}
use Rattle.form_spec.specs.Words.{choose, num, skip, checked, tested, fail, in_range}
use Rattle.form_spec.specs.Pass.{Seen, note, number_of, after_of, pass, whole}
use Rattle.octets_spec.specs.Be.{num_at}
use Rattle.octets_spec.specs.Field.{Num, field_at}
use Rattle.form_laws.proofs.Range.{bounds}
use Rattle.page_spec.specs.Names.{peer_as, local_as, interface, old_state, new_state, entry_count, peer_count, view, sequence, prefix_octets, prefix_bits, status, originated, peer_address, local_address, collector, view_length, view_name, family, safi}
use Rattle.page_spec.specs.Bgp4mp.{addresses, session, state, state_change}
use Rattle.page_spec.specs.TableDump.{table_dump, table_dump_rest}
use Rattle.page_spec.specs.Rib.{prefix, entry_list, rib, rib_generic}
use Rattle.page_spec.specs.Peers.{peer_list, peer_table}
use Rattle.page_spec.specs.Chosen.{Chosen}
use Rattle.page_spec.specs.Chosen as chosen
use Rattle.record_spec.specs.Table as told
use Rattle.record_spec.specs.Table.{Absent, Holds}
use Rattle.record_spec.specs.Shown.{Shown}
use Rattle.record_spec.specs.Fields as show
use Rattle.record_spec.specs.Answer.{fault, place, header_of}
use Rattle.record_spec.specs.One.{header, micro_at, behind, tabled, shown_as}
use Rattle.page_laws.proofs.Choice.{Says}
use Rattle.look_spec.specs.Sort as sort
use Rattle.look_spec.specs.Field.{peer_of, sequence_of, states_of, items_at, count_of}
use Rattle.look_laws.proofs.Fields.{by_choose, field_then, test_then, every}
use Rattle.form_spec.specs.Refusal.{refused as with_fault}
use Rattle.std.specs.Prelude.{Err}

-- x, if it is good, has P
abbrev pub Sees : (Shown → Type 0) → Shown → Type 0
Sees P x = fault x ≡ 0 → P x

-- a state, 1 to 6
abbrev pub IsState : ℕ → Type 0
IsState s = (1 ≤ s) × (s ≤ 6)

-- ---- the fields of a format, up to those that matter

module _ (m : List ℕ) (P : Shown → Type 0) where
  refused : (n p : ℕ) → Sees P (with_fault (suc n) p)
  refused n p e = absurd (omega arith)

  -- the fields that are left do not matter
  rest : (f : Fmt) (to : List Seen → Shown) (i : ℕ) → ((fs : List Seen) → P (to fs)) → Sees P (whole to with_fault f m i)
  rest f to i h = every (Sees P) with_fault refused m f _ i (λ fs a p. by_choose (Sees P) (ltb a (length m)) _ _ (refused 5 p) (λ e. h fs))

  -- a field that is there, and a check that is passed
  over : (to : List Seen → Shown) (x l c : ℕ) (k : List ℕ → Fmt) (i : ℕ)
      → (i + l ≤ length m → Sees P (whole (λ fs. to (note x i l (i + l) (be (take l (drop i m))) fs)) with_fault (k (take l (drop i m))) m (i + l))) → Sees P (whole to with_fault (field x l c k) m i)
  over to x l c k i h = field_then (Sees P) with_fault refused m _ x l c k i h

  past : (to : List Seen → Shown) (n c : ℕ) (f : Fmt) (i : ℕ) → Sees P (whole to with_fault f m i) → Sees P (whole to with_fault (test n c f) m i)
  past to n c f i h = test_then (Sees P) with_fault refused m _ n c f i h

  -- a check that says something
  judged : (to : List Seen → Shown) (ok : Bool) (n c : ℕ) (f : Fmt) (i : ℕ) → (ok ≡ true → Sees P (whole to with_fault f m i)) → Sees P (whole to with_fault (test (cond ok 0 (suc n)) c f) m i)
  unfolding pass
  judged to true n c f i h = h refl
  judged to false n c f i h = refused n _

  -- the last field: nothing is left over
  ended : (to : List Seen → Shown) (b i : ℕ) → (length m ≤ i → P (to [])) → Sees P (whole to with_fault (end b) m i)
  unfolding pass choose
  ended to b i h = go (ltb i (length m)) refl
    where
      go : (t : Bool) → ltb i (length m) ≡ t → Sees P (choose t (with_fault 6 (i - b)) (to []))
      go true e = refused 5 _
      go false e = λ z. h (ltb-false i (length m) e)

  -- ---- types 16 and 17

  addresses_then : (to : List Seen → Shown) (n : ℕ) (f : Fmt) (i : ℕ)
      → (i + n + n ≤ length m → Sees P (whole (λ fs. to (note peer_address i n (i + n) (num_at m i n) (note local_address (i + n) n (i + n + n) (num_at m (i + n) n) fs))) with_fault f m (i + n + n)))
      → Sees P (whole to with_fault (addresses n f) m i)
  unfolding addresses skip num_at
  addresses_then to n f i h = over to peer_address n 0 _ i λ x1. over _ local_address n 0 _ (i + n) h

  -- whatever the family says of their size
  sized_then : (to : List Seen → Shown) (fam : ℕ) (f : Fmt) (i : ℕ) → ((n : ℕ) → Sees P (whole to with_fault (addresses n f) m i))
      → Sees P (whole to with_fault (choose (eqb fam 1) (addresses 4 f) (choose (eqb fam 2) (addresses 16 f) (fail 7 2))) m i)
  unfolding pass fail
  sized_then to fam f i h =
      let Z : Fmt → Type 0 = λ g. Sees P (whole to with_fault g m i) in
      by_choose Z (eqb fam 1) _ _ (h 4) (by_choose Z (eqb fam 2) _ _ (h 16) (refused 6 _))

  -- the fields of a session whose addresses have n octets each
  abbrev noted : (w n i : ℕ) → List Seen → List Seen
  noted w n i fs =
      note peer_as i w (i + w) (num_at m i w) (note local_as (i + w) w (i + w + w) (num_at m (i + w) w)
      (note interface (i + w + w) 2 (i + w + w + 2) (num_at m (i + w + w) 2) (note family (i + w + w + 2) 2 (i + w + w + 2 + 2) (num_at m (i + w + w + 2) 2)
      (note peer_address (i + w + w + 2 + 2) n (i + w + w + 2 + 2 + n) (num_at m (i + w + w + 2 + 2) n)
      (note local_address (i + w + w + 2 + 2 + n) n (i + w + w + 2 + 2 + n + n) (num_at m (i + w + w + 2 + 2 + n) n) fs)))))

  session_then : (to : List Seen → Shown) (w : ℕ) (f : Fmt) (i : ℕ)
      → ((n : ℕ) → let at = i + w + w + 2 + 2 + n + n in at ≤ length m → Sees P (whole (λ fs. to (noted w n i fs)) with_fault f m at)) → Sees P (whole to with_fault (session w f) m i)
  unfolding session num num_at
  session_then to w f i h =
      over to peer_as w 0 _ i λ x1. over _ local_as w 0 _ (i + w) λ x2. over _ interface 2 0 _ (i + w + w) λ x3.
      over _ family 2 0 _ (i + w + w + 2) λ x4. sized_then _ (num_at m (i + w + w + 2) 2) f (i + w + w + 2 + 2) λ n. addresses_then _ n f (i + w + w + 2 + 2) (h n)

  -- the peer's AS is the first field
  session_seen : (to : List Seen → Shown) (w : ℕ) (f : Fmt) (i : ℕ) → (i + w + w + 2 + 2 ≤ length m → (fs : List Seen) → number_of peer_as fs ≡ num_at m i w → P (to fs))
      → Sees P (whole to with_fault (session w f) m i)
  session_seen to w f i h = session_then to w f i λ n x. rest f _ _ λ fs. h (omega arith) (noted w n i fs) refl

  state_then : (to : List Seen → Shown) (x : ℕ) (f : Fmt) (i : ℕ) → (i + 2 ≤ length m → IsState (num_at m i 2) → Sees P (whole (λ fs. to (note x i 2 (i + 2) (num_at m i 2) fs)) with_fault f m (i + 2))) → Sees P (whole to with_fault (state x f) m i)
  unfolding state checked num_at
  state_then to x f i h = over to x 2 0 _ i λ x1. judged _ (in_range 1 (num_at m i 2) 6) 8 2 f (i + 2) λ e. h x1 (bounds 1 (num_at m i 2) 6 e)

  -- the last four octets of a state change are its states
  change_seen : (to : List Seen → Shown) (w i : ℕ)
      → ((n : ℕ) → let at = i + w + w + 2 + 2 + n + n in length m ≡ at + 4 → IsState (num_at m at 2) → IsState (num_at m (at + 2) 2)
      → (fs : List Seen) → number_of peer_as fs ≡ num_at m i w → number_of old_state fs ≡ num_at m at 2 → number_of new_state fs ≡ num_at m (at + 2) 2 → P (to fs))
      → Sees P (whole to with_fault (session w state_change) m i)
  unfolding state_change
  change_seen to w i h =
      session_then to w state_change i λ n x1.
      let at : ℕ = i + w + w + 2 + 2 + n + n in
      state_then _ old_state _ at λ x2 s1. state_then _ new_state _ (at + 2) λ x3 s2. ended _ 0 (at + 2 + 2) λ x4. h n (omega arith) s1 s2 _ refl refl refl

  table_dump_seen : (to : List Seen → Shown) (size i : ℕ)
      → let at = i + 2 + 2 + size + 1 + 1 + 4 + size in
      (at + 2 ≤ length m → (fs : List Seen) → number_of sequence fs ≡ num_at m (i + 2) 2 → number_of peer_as fs ≡ num_at m at 2 → P (to fs)) → Sees P (whole to with_fault (table_dump size) m i)
  unfolding table_dump table_dump_rest num skip checked num_at
  table_dump_seen to size i h =
      let at : ℕ = i + 2 + 2 + size + 1 + 1 + 4 + size in
      over _ view 2 0 _ i λ x1. over _ sequence 2 0 _ (i + 2) λ x2. over _ prefix_octets size 0 _ (i + 2 + 2) λ x3.
      over _ prefix_bits 1 0 _ (i + 2 + 2 + size) λ x4. past _ _ 1 _ (i + 2 + 2 + size + 1) (
      over _ status 1 0 _ (i + 2 + 2 + size + 1) λ x5. over _ originated 4 0 _ (i + 2 + 2 + size + 1 + 1) λ x6. over _ peer_address size 0 _ (i + 2 + 2 + size + 1 + 1 + 4) λ x7.
      over _ peer_as 2 0 _ at λ x8. rest _ _ (at + 2) λ fs. h x8 _ refl refl)

  -- a prefix and the entries behind it
  prefix_seen : (to : List Seen → Shown) (most peers i : ℕ)
      → let at = i + 1 + (num_at m i 1 + 7) / 8 in
      (at + 2 ≤ length m → (fs : List Seen) → after_of entry_count fs ≡ at + 2 → number_of entry_count fs ≡ num_at m at 2 → P (to fs)) → Sees P (whole to with_fault (prefix most (entry_list peers)) m i)
  unfolding prefix entry_list num skip checked num_at
  prefix_seen to most peers i h =
      let at : ℕ = i + 1 + (num_at m i 1 + 7) / 8 in
      over _ prefix_bits 1 0 _ i λ x1. past _ _ 1 _ (i + 1) (
      over _ prefix_octets ((num_at m i 1 + 7) / 8) 0 _ (i + 1) λ x2. over _ entry_count 2 0 _ at λ x3. rest _ _ (at + 2) λ fs. h x3 _ refl refl)

  peers_seen : (to : List Seen → Shown) (i : ℕ)
      → let at = i + 4 + 2 + num_at m (i + 4) 2 in
      (at + 2 ≤ length m → (fs : List Seen) → after_of peer_count fs ≡ at + 2 → number_of peer_count fs ≡ num_at m at 2 → P (to fs)) → Sees P (whole to with_fault peer_table m i)
  unfolding peer_table peer_list num tested num_at
  peers_seen to i h =
      let at : ℕ = i + 4 + 2 + num_at m (i + 4) 2 in
      over _ collector 4 0 _ i λ x1. over _ view_length 2 0 _ (i + 4) λ x2. over _ view_name (num_at m (i + 4) 2) 0 _ (i + 4 + 2) λ x3.
      past _ _ _ _ at (over _ peer_count 2 0 _ at λ x4. rest _ _ (at + 2) λ fs. h x4 _ refl refl)

  -- behind microseconds, where there are some
  behind_seen : 12 ≤ length m → (micro : ℕ) (k : ℕ → ℕ → Shown) → (12 + micro ≤ length m → Sees P (k (choose (eqb micro 0) 0 (num_at m 12 micro)) (12 + micro))) → Sees P (behind (micro_at m micro) k)
  unfolding behind micro_at choose field_at
  behind_seen long zero k h = h (omega arith)
  behind_seen long (suc n) k h = rw (ne_eqb (suc n) 0 (λ e. omega arith)) (go (ltb (length m) (12 + suc n)) refl)
    where
      go : (x : Bool) → ltb (length m) (12 + suc n) ≡ x → Sees P (behind (choose x (with_fault 5 12) (Num (num_at m 12 (suc n)) (12 + suc n))) k)
      go true e = refused 4 12
      go false e = rw (ne_eqb (suc n) 0 (λ z. omega arith)) at (h (ltb-false (length m) (12 + suc n) e))

  tabled_seen : (t : told.Table) (k : ℕ → Shown) → ((n : ℕ) → Sees P (k n)) → Sees P (tabled t k)
  unfolding tabled
  tabled_seen Absent k h = refused 11 6
  tabled_seen (Holds n) k h = h n

-- ---- the kinds

-- its sort; whether it is a record of type 12, whether it is a state change
abbrev pub Marked : sort.Sort → (route change : Bool) → Shown → Type 0
Marked s r c x = (sort.sort_of x ≡ s) × (sort.is_route x ≡ r) × (sort.is_change x ≡ c)

module _ (m : List ℕ) where
  -- the number in so many octets of microseconds
  unfoldable pub micro_in : (micro : ℕ) → ℕ
  micro_in micro = choose (eqb micro 0) 0 (num_at m 12 micro)

  -- x starts with m's header, and ends where that says
  pub record Heads (micro : ℕ) (x : Shown) : Type 0 where
    pub head : header_of x ≡ header m (micro_in micro)
    pub ends : place x ≡ 12 + num_at m 8 4
    pub long : 12 + micro ≤ length m

  -- its items are counted at c
  pub record Counts (c : ℕ) (x : Shown) : Type 0 where
    pub items : items_at x ≡ c + 2
    pub many : count_of x ≡ num_at m c 2
    pub inside : c + 2 ≤ length m

  -- where a RIB record's count stands whose prefix length stands at `at`
  abbrev pub behind_prefix : (at : ℕ) → ℕ
  behind_prefix at = at + 1 + (num_at m at 1 + 7) / 8

  pub record Spoken (micro w : ℕ) (x : Shown) : Type 0 where
    pub peer : peer_of x ≡ num_at m (12 + micro) w
    pub inside : 12 + micro + w + w + 4 ≤ length m

  pub record Routed (size : ℕ) (x : Shown) : Type 0 where
    pub peer : peer_of x ≡ num_at m (22 + 2 * size) 2
    pub sequence : sequence_of x ≡ num_at m 14 2
    pub inside : 22 + 2 * size + 2 ≤ length m

  -- the states of a state change stand at c, its last octets
  pub record Turned (c : ℕ) (x : Shown) : Type 0 where
    pub old : (states_of x).old ≡ num_at m c 2
    pub new : (states_of x).new ≡ num_at m (c + 2) 2
    pub from : IsState (states_of x).old
    pub to : IsState (states_of x).new
    pub last : c + 4 ≡ length m

  -- what the octets of a record of a kind have of what is shown
  abbrev pub Facts : Chosen → Shown → Type 0
  Facts (Err why) x = ⊥
  Facts (chosen.Unread micro) x = Heads micro x × Marked sort.unread false false x
  Facts (chosen.TableDump size) x = Heads 0 x × Marked sort.of_peer true false x × Routed size x
  Facts chosen.PeerTable x = Heads 0 x × Marked sort.table false false x × Counts (18 + num_at m 16 2) x
  Facts (chosen.Rib bits) x = Heads 0 x × Marked sort.rib false false x × Counts (behind_prefix 16) x
  Facts chosen.RibGeneric x = Heads 0 x × Marked sort.rib false false x × Counts (behind_prefix 19) x
  Facts (chosen.Change micro w) x = Heads micro x × Marked sort.of_peer false true x × Spoken micro w x × ((c : ℕ) × Turned c x)
  Facts (chosen.Message micro w) x = Heads micro x × Marked sort.of_peer false false x × Spoken micro w x

  module _ (longest : ℕ) (t : told.Table) (long : 12 ≤ length m) where
    headed : (x : Shown) → header_of x ≡ header m 0 → place x ≡ 12 + num_at m 8 4 → Heads 0 x
    unfolding micro_in choose
    headed x e f = record { head = e; ends = f; long = omega arith }

    generic : (peers : ℕ) (c : Bool) (to : List Seen → Shown) → ((fs : List Seen) → after_of entry_count fs ≡ behind_prefix 19 + 2 → number_of entry_count fs ≡ num_at m (behind_prefix 19) 2 → behind_prefix 19 + 2 ≤ length m → Facts chosen.RibGeneric (to fs))
        → Sees (Facts chosen.RibGeneric) (whole to with_fault (choose c (prefix 32 (entry_list peers)) (prefix 128 (entry_list peers))) m 19)
    unfolding choose
    generic peers true to h = prefix_seen m (Facts chosen.RibGeneric) to 32 peers 19 λ x fs e f. h fs e f x
    generic peers false to h = prefix_seen m (Facts chosen.RibGeneric) to 128 peers 19 λ x fs e f. h fs e f x

    pub facts : (type sub : ℕ) (k : Chosen) → Says type sub k → Sees (Facts k) (shown_as longest t m k)
    unfolding shown_as micro_in rib rib_generic num checked
    facts y u (Err why) s = λ e. absurd (omega (arith, s.0))
    facts y u (chosen.Unread micro) s = behind_seen m (Facts (chosen.Unread micro)) long micro _ λ x e. (record { head = refl; ends = refl; long = x }, (refl, refl, refl))
    facts y u (chosen.TableDump size) s =
        let z : 12 + 2 + 2 + size + 1 + 1 + 4 + size ≡ 22 + 2 * size = omega arith in
        table_dump_seen m (Facts (chosen.TableDump size)) (show.table_dump (header m 0)) size 12 λ x fs n e. (headed _ refl refl, (refl, refl, refl), record { peer = rw z at e; sequence = n; inside = rw z at x })
    facts y u chosen.PeerTable s =
        peers_seen m (Facts chosen.PeerTable) (show.peer_table (header m 0) m) 12 λ x fs e f. (headed _ refl refl, (refl, refl, refl), record { items = e; many = f; inside = x })
    facts y u (chosen.Rib bits) s =
        let P : Shown → Type 0 = Facts (chosen.Rib bits) in
        tabled_seen m P t _ λ peers. over m P (show.rib (header m 0) m) sequence 4 0 _ 12 λ x1.
        prefix_seen m P _ bits peers 16 λ x fs e f. (headed _ refl refl, (refl, refl, refl), record { items = e; many = f; inside = x })
    facts y u chosen.RibGeneric s =
        let P : Shown → Type 0 = Facts chosen.RibGeneric in
        tabled_seen m P t _ λ peers. over m P (show.rib_generic (header m 0) m) sequence 4 0 _ 12 λ x1. over m P _ family 2 0 _ 16 λ x2. past m P _ _ 2 _ 18 (
        over m P _ safi 1 0 _ 18 λ x3. past m P _ _ 1 _ 19 (
        generic peers (leb (be (take 2 (drop 16 m))) 1) _ λ fs e f x. (headed _ refl refl, (refl, refl, refl), record { items = e; many = f; inside = x })))
    facts y u (chosen.Change micro w) s =
        behind_seen m (Facts (chosen.Change micro w)) long micro _ λ x. change_seen m (Facts (chosen.Change micro w)) _ w (12 + micro) λ k i from to fs e old new.
        (record { head = refl; ends = refl; long = x }, (refl, refl, refl), record { peer = e; inside = omega arith }, (12 + micro + w + w + 2 + 2 + k + k, record { old = old; new = new; from = rw old from; to = rw new to; last = sym i }))
    facts y u (chosen.Message micro w) s =
        behind_seen m (Facts (chosen.Message micro w)) long micro _ λ x. session_seen m (Facts (chosen.Message micro w)) _ w _ (12 + micro) λ i fs e.
        (record { head = refl; ends = refl; long = x }, (refl, refl, refl), record { peer = e; inside = omega arith })
