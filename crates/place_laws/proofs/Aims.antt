-- Every layout places its faults at first octets of fields, as the table of places says.
use mathlib.Core.Path.{◌≡◌, refl}
use mathlib.Core.Bool.{Bool, true, false, cond}
use mathlib.Core.Logic.{inl, inr}
use mathlib.Core.List.{List, [], ◌∷◌}
use Prim.Native.Nat.{ℕ, zero, suc, ◌-◌, ◌/◌, ◌%◌, ◌≤◌}
use native.Mathlib.Omega.{arith}
use lib.Dec.{eqb, leb}
use lib.ListN.{length}
use borrow.Author.Tests.{eqb-true}
use Rattle.form_spec.specs.Octets.{be}
use Rattle.form_spec.specs.Fmt.{Fmt, end, test, field}
use Rattle.form_spec.specs.Words.{choose, num, skip, must, area, fail, checked, tested, in_range}
use Rattle.form_spec.specs.Body.{Plan, just, free, many}
use Rattle.form_spec.specs.Pass.{◌⨾◌, times, counted}
use Rattle.form_spec.specs.Shape.{St, no_table, with_peers, plan, indexed}
use Rattle.form_laws.proofs.Range.{bounds}
use Rattle.page_spec.specs.Names.{peer_index, family, attribute_octets, bgp_length, bgp_type, bgp_rest, marker}
use Rattle.page_spec.specs.Bgp4mp.{addresses, session, state, state_change, message_rest, message}
use Rattle.page_spec.specs.Rib.{tiling, attributes, entry_rest, prefix, rib_head, generic_head}
use Rattle.page_spec.specs.TableDump.{table_dump_rest, table_dump}
use Rattle.page_spec.specs.Peers.{peer_rest, peer_sized, peer, table_head}
use Rattle.page_spec.specs.Layout.{kind, stamped, layout_for, layout}
use Rattle.page_spec.specs.Chosen.{Chosen, Unread, TableDump, PeerTable, Rib, RibGeneric, Change, Message}
use Rattle.page_laws.proofs.Refused.{Refuses, refuses}
use Rattle.place_spec.specs.About.{timestamp_field, type_field, subtype_field, length_field, about, there_from}
use Rattle.place_spec.specs.Failed.{judged, name_of}
use Rattle.place_spec.specs.Faulty.{header_then}
use Rattle.place_laws.proofs.Failed.{Trail, latest_in, Reaches, Placed, AimsTo, Over, Aims}
use Rattle.std.specs.Prelude.{Err}

-- ---- the words of a page

-- the latest field is not the rest of a BGP message, so that what is left over behind it is placed where it is
abbrev Calm : (back : ℕ) → Trail → Type 0
Calm b t = eqb (latest_in t) bgp_rest ≡ false

-- a field that is not complete is placed there, unless it is that rest
five : (t : Trail) (x : ℕ) → eqb x bgp_rest ≡ false → Placed t 5 x 0
unfolding about there_from choose
five t x e = inl (refl, rw e refl, refl)

-- a test gives n, placed at the field x, which has just been read
abbrev Judges : (n x : ℕ) → Type 0
Judges n x = (judged n ≡ true) × (about n x ≡ true) × ((next : ℕ) → 1 ≡ there_from n x next)

own : (x w n next : ℕ) (t : Trail) → Judges n x → Reaches ((x, w) ∷ t) n w 1 (there_from n x next)
unfolding Reaches
own x w n next t j = inl (refl, j.2 next, j.1)

module _ (Last : (back : ℕ) → Trail → Type 0) where
  -- behind any field but that rest
  abbrev Anywhere : Fmt → Type 0
  Anywhere f = (t : Trail) → Calm 0 t → AimsTo Last f t

  by_test : (b : Bool) (f g : Fmt) (t : Trail) → AimsTo Last f t → AimsTo Last g t → AimsTo Last (choose b f g) t
  unfolding choose
  by_test true f g t a c = a
  by_test false f g t a c = c

  -- where it fails, it is placed at a field of the trail
  aims_test : (ok : Bool) (n w : ℕ) (f : Fmt) (t : Trail) → judged (suc n) ≡ true → Reaches t (suc n) w 1 (there_from (suc n) (latest_in t) (name_of f))
      → (ok ≡ true → AimsTo Last f t) → AimsTo Last (test (cond ok 0 (suc n)) w f) t
  unfolding AimsTo
  aims_test true n w f t j r a = a refl
  aims_test false n w f t j r a = (j, r)

  module _ (x w : ℕ) (t : Trail) (other : eqb x bgp_rest ≡ false) where
    aims_num : (k : ℕ → Fmt) → ((v : ℕ) → AimsTo Last (k v) ((x, w) ∷ t)) → AimsTo Last (num x w k) t
    unfolding num AimsTo
    aims_num k a = (five t x other, λ c e. a (be c))

    aims_skip : (f : Fmt) → AimsTo Last f ((x, w) ∷ t) → AimsTo Last (skip x w f) t
    unfolding skip AimsTo
    aims_skip f a = (five t x other, λ c e. a)

    aims_checked : (ok : ℕ → Bool) (n : ℕ) (k : ℕ → Fmt) → Judges (suc n) x → ((v : ℕ) → AimsTo Last (k v) ((x, w) ∷ t)) → AimsTo Last (checked x w ok (suc n) k) t
    unfolding checked AimsTo
    aims_checked ok n k j a = (five t x other, λ c s. aims_test (ok (be c)) n w (k (be c)) ((x, w) ∷ t) j.0 (own x w (suc n) _ t j) (λ z. a (be c)))

    aims_tested : (ok : List ℕ → Bool) (n : ℕ) (f : Fmt) → Judges (suc n) x → AimsTo Last f ((x, w) ∷ t) → AimsTo Last (tested x w ok (suc n) f) t
    unfolding tested AimsTo
    aims_tested ok n f j a = (five t x other, λ c s. aims_test (ok c) n w f ((x, w) ∷ t) j.0 (own x w (suc n) _ t j) (λ z. a))

  -- ---- what may be followed

  aims_attributes : (f : Fmt) → Anywhere f → Anywhere (attributes f)
  unfolding attributes tiling about judged there_from choose
  aims_attributes f h t e = aims_num _ 2 t refl _ (λ n. aims_tested attribute_octets n _ refl _ 10 f (refl, refl, λ y. refl) (h _ refl))

  module _ (f : Fmt) (h : Anywhere f) where
    aims_addresses : (n : ℕ) → Anywhere (addresses n f)
    unfolding addresses
    aims_addresses n t e = aims_skip _ n t refl _ (aims_skip _ n _ refl _ (h _ refl))

    aims_session : (w : ℕ) → Anywhere (session w f)
    unfolding session fail about judged there_from choose AimsTo
    aims_session w t e =
        aims_num _ w t refl _ (λ p.
        aims_num _ w _ refl _ (λ l.
        aims_num _ 2 _ refl _ (λ i.
        aims_num _ 2 _ refl _ (λ k.
        by_test (eqb k 1) _ _ _ (aims_addresses 4 _ refl)
        (by_test (eqb k 2) _ _ _ (aims_addresses 16 _ refl) (refl, own family 2 7 0 _ (refl, refl, λ y. refl)))))))

    aims_stamped : (micro : ℕ) → Anywhere (stamped micro f)
    unfolding stamped
    aims_stamped zero t e = h t e
    aims_stamped (suc n) t e = aims_num _ (suc n) t refl _ (λ u. h _ refl)

-- ---- one format after another, and items

-- a test's place does not hang on what follows
any_next : (n l x y : ℕ) → judged n ≡ true → there_from n l x ≡ there_from n l y
unfolding judged there_from choose
any_next n l x y h = go (eqb n 5) refl
  where
    go : (b : Bool) → eqb n 5 ≡ b → there_from n l x ≡ there_from n l y
    go true e = let z : judged 5 ≡ true = rw (eqb-true n 5 e) at h in let w : ◌≡◌ {A = ℕ} 0 1 = cc in absurd (omega arith)
    go false e = rw e refl

aims_then : (Last : (back : ℕ) → Trail → Type 0) (f g : Fmt) (t : Trail) → AimsTo Calm f t → Anywhere Last g → AimsTo Last (f ⨾ g) t
unfolding ◌⨾◌ AimsTo
aims_then Last (end b) g t a h = h t a
aims_then Last (test zero b f) g t a h = aims_then Last f g t a h
aims_then Last (test (suc n) b f) g t a h = (a.0, rw (any_next (suc n) (latest_in t) (name_of (f ⨾ g)) (name_of f) a.0) a.1)
aims_then Last (field x l b k) g t a h = (a.0, λ c e. aims_then Last (k c) g ((x, l) ∷ t) (a.1 c e) h)

-- nothing follows
no_more : Anywhere Over (end 0)
unfolding AimsTo about there_from choose
no_more t e = inl (refl, rw e refl, refl)

aims_times : (n : ℕ) (g : Fmt) → Anywhere Calm g → Anywhere Over (times n g)
unfolding times
aims_times zero g h t e = no_more t e
aims_times (suc n) g h t e = aims_then Over g (times n g) t (h t e) (aims_times n g h)

aims_counted : (g : Fmt) → Anywhere Calm g → Anywhere Over (counted 0 g)
aims_counted g h t e = aims_num Over 0 2 t refl _ (λ n. aims_times n g h _ refl)

-- something may follow
open_end : Anywhere Calm (end 0)
unfolding AimsTo
open_end t e = e

-- ---- types 16 and 17

aims_change : Anywhere Over state_change
unfolding state_change state about judged there_from choose
aims_change t e =
    aims_checked Over _ 2 t refl _ 8 _ (refl, refl, λ y. refl) (λ o. aims_checked Over _ 2 _ refl _ 8 _ (refl, refl, λ y. refl) (λ n. no_more _ refl))

-- behind a BGP message's type octet, its length stands 3 octets back
module _ (t : Trail) where
  abbrev typed : Trail
  typed = (bgp_type, 1) ∷ (bgp_length, 2) ∷ (marker, 16) ∷ t

  three : (n : ℕ) → about n bgp_length ≡ true → Reaches typed n 3 1 2
  unfolding Reaches
  three n e = inr (omega arith, inl (refl, refl, e))

  aims_left : (n : ℕ) → 19 ≤ n → Aims (field bgp_rest (n - 19) 3 (λ c. end (n - 16))) typed
  unfolding AimsTo Reaches about there_from choose
  aims_left n h = (inr (three 5 refl), λ c e. inr (inr (omega arith, inr (omega arith, inl (omega arith, refl, refl)))))

  aims_message : (longest : ℕ) → Aims (message longest) t
  unfolding message message_rest must area about judged there_from choose
  aims_message longest =
      aims_skip Over marker 16 t refl _
      (aims_num Over bgp_length 2 _ refl _ (λ n.
      aims_num Over bgp_type 1 _ refl _ (λ k.
      aims_test Over (in_range 19 n longest) 9 3 _ _ refl (three 10 refl) (λ z. aims_left n (bounds 19 n longest z).0))))

-- ---- types 12 and 13

aims_table_dump : (size : ℕ) → Anywhere Over (table_dump size)
unfolding table_dump table_dump_rest about judged there_from choose
aims_table_dump size t e =
    aims_num Over _ 2 t refl _ (λ v.
    aims_num Over _ 2 _ refl _ (λ s.
    aims_skip Over _ size _ refl _
    (aims_checked Over _ 1 _ refl _ 7 _ (refl, refl, λ y. refl) (λ b.
    aims_num Over _ 1 _ refl _ (λ z.
    aims_num Over _ 4 _ refl _ (λ o.
    aims_skip Over _ size _ refl _
    (aims_num Over _ 2 _ refl _ (λ p. aims_attributes Over (end 0) no_more _ refl))))))))

aims_entry : (peers : ℕ) → Anywhere Calm (indexed peers entry_rest)
unfolding about judged there_from choose
aims_entry peers t e =
    aims_checked Calm peer_index 2 t refl _ 12 _ (refl, refl, λ y. refl) (λ i. aims_num Calm _ 4 _ refl _ (λ o. aims_attributes Calm (end 0) open_end _ refl))

aims_prefix : (bits : ℕ) → Anywhere Calm (prefix bits (end 0))
unfolding prefix about judged there_from choose
aims_prefix bits t e = aims_checked Calm _ 1 t refl _ 7 _ (refl, refl, λ y. refl) (λ n. aims_skip Calm _ _ _ refl _ (open_end _ refl))

aims_rib : (bits : ℕ) → Anywhere Calm (rib_head bits (end 0))
aims_rib bits t e = aims_num Calm _ 4 t refl _ (λ n. aims_prefix bits _ refl)

aims_generic : Anywhere Calm (generic_head (end 0))
unfolding about judged there_from choose
aims_generic t e =
    aims_num Calm _ 4 t refl _ (λ n.
    aims_checked Calm _ 2 _ refl _ 6 _ (refl, refl, λ y. refl) (λ f.
    aims_checked Calm _ 1 _ refl _ 6 _ (refl, refl, λ y. refl) (λ s. by_test Calm (leb f 1) _ _ _ (aims_prefix 32 _ refl) (aims_prefix 128 _ refl))))

aims_peer_sized : (size k : ℕ) → Anywhere Calm (peer_sized size k)
unfolding peer_sized peer_rest
aims_peer_sized size k t e =
    by_test Calm (eqb (k / 2 % 2) 1) _ _ _ (aims_skip Calm _ size t refl _ (aims_num Calm _ 4 _ refl _ (λ a. open_end _ refl)))
    (aims_skip Calm _ size t refl _ (aims_num Calm _ 2 _ refl _ (λ a. open_end _ refl)))

aims_peer : Anywhere Calm peer
unfolding peer
aims_peer t e =
    aims_num Calm _ 1 t refl _ (λ k. aims_num Calm _ 4 _ refl _ (λ i. by_test Calm (eqb (k % 2) 1) _ _ _ (aims_peer_sized 16 k _ refl) (aims_peer_sized 4 k _ refl)))

aims_table : Anywhere Calm (table_head (end 0))
unfolding about judged there_from choose
aims_table t e = aims_num Calm _ 4 t refl _ (λ c. aims_num Calm _ 2 _ refl _ (λ n. aims_tested Calm _ n _ refl _ 16 _ (refl, refl, λ y. refl) (open_end _ refl)))

-- ---- whatever the Type and the Subtype

-- behind a header
abbrev header : Trail
header = (length_field, 4) ∷ (subtype_field, 2) ∷ (type_field, 2) ∷ (timestamp_field, 4) ∷ []

-- at its Type, 8 octets back, or its Subtype, 6 octets back
at_type : Aims (test 3 8 (end 0)) header
unfolding AimsTo Reaches about judged there_from choose
at_type = (refl, inr (omega arith, inr (omega arith, inl (refl, refl, refl))))

at_subtype : (n : ℕ) → judged (suc n) ≡ true → about (suc n) subtype_field ≡ true → ((next : ℕ) → 2 ≡ there_from (suc n) length_field next) → Aims (test (suc n) 6 (end 0)) header
unfolding AimsTo Reaches
at_subtype n j e c = (j, inr (omega arith, inl (refl, c _, e)))

aims_header : (f : Fmt) → Aims f header → Aims (header_then f) []
unfolding AimsTo
aims_header f a = (five _ timestamp_field refl, λ t d. (five _ type_field refl, λ y e. (five _ subtype_field refl, λ s g. (five _ length_field refl, λ l h. a))))

-- a record's fields in a row
abbrev pub Row : Plan → Type 0
Row (just f) = Aims (header_then f) []
Row (free f) = Aims (header_then f) []
Row (many f g) = Aims (header_then (f ⨾ counted 0 g)) []

module _ (longest : ℕ) where
  aims_kind : (st : St) (k : Chosen) → Refuses k → Row (plan st (layout_for longest k))
  unfolding plan layout_for about judged there_from choose
  aims_kind st (Err why) (inl z) = rw (z.0, z.1) (aims_header _ at_type)
  aims_kind st (Err why) (inr z) = rw (z.0, z.1) (aims_header _ (at_subtype 3 refl refl (λ y. refl)))
  aims_kind st (Unread micro) z = aims_header _ (aims_stamped Over (end 0) no_more micro _ refl)
  aims_kind st (TableDump size) z = aims_header _ (aims_table_dump size _ refl)
  aims_kind st PeerTable z = aims_header _ (aims_then Over _ _ _ (aims_table _ refl) (aims_counted peer aims_peer))
  aims_kind no_table (Rib bits) z = aims_header _ (at_subtype 11 refl refl (λ y. refl))
  aims_kind (with_peers ns) (Rib bits) z = aims_header _ (aims_then Over _ _ _ (aims_rib bits _ refl) (aims_counted _ (aims_entry (length ns))))
  aims_kind no_table RibGeneric z = aims_header _ (at_subtype 11 refl refl (λ y. refl))
  aims_kind (with_peers ns) RibGeneric z = aims_header _ (aims_then Over _ _ _ (aims_generic _ refl) (aims_counted _ (aims_entry (length ns))))
  aims_kind st (Change micro w) z = aims_header _ (aims_stamped Over (session w state_change) (aims_session Over state_change aims_change w) micro _ refl)
  aims_kind st (Message micro w) z = aims_header _ (aims_stamped Over (session w (message longest)) (aims_session Over (message longest) (λ t e. aims_message t longest) w) micro _ refl)

  pub aims : (st : St) (y u : ℕ) → Row (plan st (layout longest y u))
  unfolding layout
  aims st y u = aims_kind st (kind y u) (refuses y u)
