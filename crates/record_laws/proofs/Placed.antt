-- When every value that a writer is given has its place, in the terms of the writer's own parameters.
use mathlib.Core.Path.{◌≡◌, refl, sym, ap, ◌∙◌}
use mathlib.Core.Bool.{◌||◌}
use mathlib.Core.Logic.{◌⊎◌, inl, inr}
use mathlib.Core.List.{List, [], ◌∷◌, ◌++◌, append-nil}
use Prim.Native.Nat.{ℕ, suc, ◌+◌, ◌-◌, ◌/◌, ◌^◌, ◌≤◌, ◌<◌}
use native.Mathlib.Omega.{arith}
use lib.Dec.{eqb, leb}
use lib.ListN.{length, take, drop, take-append-drop}
use lib.Seq.{drop-drop}
use borrow.Author.Tests.{eqb-true, leb-true}
use Rattle.form_spec.specs.Fmt.{Fmt, end, join}
use Rattle.form_spec.specs.Words.{choose, num, skip, must, area, fail, in_range}
use Rattle.form_spec.specs.Shape.{Layout, entries, St, no_table, with_peers, plan}
use Rattle.form_spec.specs.Put.{Value, digits, bytes, lay, Tail, nothing, carried, items, Given, message}
use Rattle.form_spec.specs.Gives.{Fit}
use Rattle.form_spec.specs.Aligned.{Full, Aligned, AlignedBody, Placed}
use Rattle.form_laws.proofs.Aligned.{full-aligned, choose_case, num-full, checked-full, skip-full, tested-full, num-aligned, skip-aligned, first_aligned, last_aligned}
use Rattle.page_spec.specs.Names.{bgp_rest}
use Rattle.page_spec.specs.Bgp4mp as page
use Rattle.page_spec.specs.Bgp4mp.{addresses, session, state, state_change, message_rest}
use Rattle.page_spec.specs.TableDump.{table_dump, table_dump_rest}
use Rattle.page_spec.specs.Rib.{tiling, attributes, entry_rest, prefix, rib_head, generic_head}
use Rattle.page_spec.specs.Peers.{table_head}
use Rattle.page_spec.specs.Layout.{stamped, kind12, kind13, kind16, kind, layout_for, layout, unlisted}
use Rattle.page_spec.specs.Chosen.{Chosen, Unread, TableDump, PeerTable, Rib, RibGeneric, Change, Message}
use Rattle.page_laws.proofs.Choice.{by_test}
use Rattle.write_spec.specs.declared.Time.{Time}
use Rattle.write_spec.specs.declared.Time.TheVariants.{Seconds, Micro}
use Rattle.write_spec.specs.Times.{micro_size, micros, bgp4mp}
use Rattle.write_spec.specs.Only.{ribs, changes, messages, unreads, writer, Own, as_octets}
use Rattle.record_laws.proofs.Own.{bgp_kind}
use Rattle.write_spec.specs.Givens.{session_values, state_values, bgp_values, route_values, unread_given, table_dump_given, peer_table_given, rib_given, rib_generic_given, change_given, message_given}
use Rattle.form_spec.specs.Refusal.{refused}
use Rattle.std.specs.Prelude.{Err}

-- ---- the numbers of any writer

-- each goes into its field, Length too
pub record Fitting (g : Given) : Type 0 where
  pub stamp : g.stamp < 256 ^ 4
  pub type : g.type < 256 ^ 2
  pub sub : g.sub < 256 ^ 2
  pub size : length (message g) < 256 ^ 4
  pub fit : Fit g.values

placed : (l : ℕ → ℕ → Layout) (st : St) (g : Given) → Fitting g → AlignedBody (plan st (l g.type g.sub)) g.values g.tail → Placed l st g
placed l st g f a = record { stamp = f.stamp; type = f.type; sub = f.sub; size = f.size; fit = f.fit; aligned = a }

-- ---- types 16 and 17

-- two addresses of the family's size; where it is none of 1 and 2 that is the fault
abbrev pub Sizes : (family : ℕ) (theirs ours : List ℕ) → Type 0
Sizes f theirs ours = (f ≡ 1 → (length theirs ≡ 4) × (length ours ≡ 4)) × (f ≡ 2 → (length theirs ≡ 16) × (length ours ≡ 16))

two_addresses : (n : ℕ) (f : Fmt) (theirs ours : List ℕ) (vs : List Value) → (length theirs ≡ n) × (length ours ≡ n) → Aligned f vs [] → Aligned (addresses n f) (bytes theirs ∷ bytes ours ∷ vs) []
unfolding addresses
two_addresses n f theirs ours vs e a = skip-aligned _ n _ theirs _ [] e.0 (skip-aligned _ n f ours vs [] e.1 a)

no_family : (vs : List Value) → Aligned (fail 7 2) vs []
unfolding Aligned fail
no_family vs e = absurd (omega arith)

session-aligned : (w p l i f : ℕ) (theirs ours : List ℕ) (k : Fmt) (vs : List Value) → Sizes f theirs ours → (Fit vs → Aligned k vs []) → Fit (session_values w p l i f theirs ours vs)
    → Aligned (session w k) (session_values w p l i f theirs ours vs) []
unfolding session
session-aligned w p l i f theirs ours k vs s a h =
    let rest : List Value = bytes theirs ∷ bytes ours ∷ vs in
    num-aligned _ w p _ _ [] h λ h. num-aligned _ w l _ _ [] h λ h. num-aligned _ 2 i _ _ [] h λ h. num-aligned _ 2 f _ _ [] h λ h.
    choose_case (λ g. Aligned g rest []) (eqb f 1) _ _ (λ e. two_addresses 4 k theirs ours vs (s.0 (eqb-true f 1 e)) (a h.1.1))
    (λ d. choose_case (λ g. Aligned g rest []) (eqb f 2) _ _ (λ e. two_addresses 16 k theirs ours vs (s.1 (eqb-true f 2 e)) (a h.1.1)) (λ d. no_family rest))

states-aligned : (o n : ℕ) → Fit (state_values o n) → Aligned state_change (state_values o n) []
unfolding state_change state Full
states-aligned o n h =
    full-aligned _ (state_values o n)
    (checked-full _ 2 _ 9 o _ _ (omega arith) h λ h e. checked-full _ 2 _ 9 n _ _ (omega arith) h λ h e. tt)

-- a BGP message may have any octets: the reader finds as the writer does where they end
rest-aligned : (longest n : ℕ) (m : List ℕ) → Aligned (message_rest longest n) (bytes m ∷ []) []
unfolding message_rest must area Aligned
rest-aligned longest n m = λ e. last_aligned bgp_rest (n - 19) 3 (n - 16) m

message-aligned : (longest : ℕ) (b : List ℕ) → Aligned (page.message longest) (bgp_values b) []
unfolding page.message skip num
message-aligned longest b =
    let rest : join (lay (bytes (drop 19 b) ∷ [])) ≡ drop 1 (drop 18 b) = append-nil (drop 19 b) ∙ sym (drop-drop 1 18 b) in
    let type : join (lay (bytes (take 1 (drop 18 b)) ∷ bytes (drop 19 b) ∷ [])) ≡ drop 2 (drop 16 b) = rw (rest, take-append-drop) (sym (drop-drop 2 16 b)) in
    let size : join (lay (bytes (take 2 (drop 16 b)) ∷ bytes (take 1 (drop 18 b)) ∷ bytes (drop 19 b) ∷ [])) ≡ drop 16 b = rw (type, take-append-drop) in
    first_aligned _ 16 0 _ b _ size λ h. first_aligned _ 2 0 _ (drop 16 b) _ type λ h. first_aligned _ 1 0 _ (drop 18 b) _ rest λ h. rest-aligned longest _ (drop 19 b)

-- ---- behind microseconds

stamped-aligned : (t : Time) (f : Fmt) (vs : List Value) → (Fit vs → Aligned f vs []) → Fit (micros t ++ vs) → Aligned (stamped (micro_size t) f) (micros t ++ vs) []
unfolding stamped
stamped-aligned (Seconds s) f vs a h = a h
stamped-aligned (Micro s u) f vs a h = num-aligned _ 4 u _ vs [] h a

stamped-full : (t : Time) → Fit (micros t) → Full (stamped (micro_size t) (end 0)) (micros t)
unfolding stamped Full
stamped-full (Seconds s) h = tt
stamped-full (Micro s u) h = num-full _ 4 u _ [] h λ h. tt

-- ---- type 12

route_full : (size v s : ℕ) (prefix : List ℕ) (b t o : ℕ) (address : List ℕ) (p : ℕ) (a : List ℕ) → (length prefix ≡ size) × (length address ≡ size) → Fit (route_values v s prefix b t o address p a)
    → Full (table_dump size) (route_values v s prefix b t o address p a)
unfolding table_dump table_dump_rest attributes tiling Full
route_full size v s prefix b t o address p a e h =
    num-full _ 2 v _ _ h λ h. num-full _ 2 s _ _ h λ h. skip-full _ size _ prefix _ e.0 (checked-full _ 1 _ 8 b _ _ (omega arith) h.1 λ h d.
    num-full _ 1 t _ _ h λ h. num-full _ 4 o _ _ h λ h. skip-full _ size _ address _ e.1 (num-full _ 2 p _ _ h.1 λ h.
    num-full _ 2 (length a) _ _ h λ h. tested-full _ (length a) _ 11 _ a _ refl tt))

-- ---- type 13

table-full : (c : ℕ) (name : List ℕ) → Fit (digits 4 c ∷ digits 2 (length name) ∷ bytes name ∷ []) → Full (table_head (end 0)) (digits 4 c ∷ digits 2 (length name) ∷ bytes name ∷ [])
unfolding Full
table-full c name h = num-full _ 4 c _ _ h λ h. num-full _ 2 (length name) _ _ h λ h. tested-full _ (length name) _ 17 _ name _ refl tt

-- as many octets as the bits need; where the bits are too many for any prefix that is the fault
abbrev pub Octeted : (bits : ℕ) (prefix : List ℕ) → Type 0
Octeted b p = b ≤ 128 → length p ≡ (b + 7) / 8

prefix-full : (most b : ℕ) (p : List ℕ) → most ≤ 128 → Octeted b p → Fit (digits 1 b ∷ bytes p ∷ []) → Full (prefix most (end 0)) (digits 1 b ∷ bytes p ∷ [])
unfolding prefix Full
prefix-full most b p m e h =
    checked-full _ 1 _ 8 b _ _ (omega arith) h λ h d. let l : b ≤ most = leb-true b most d in skip-full _ ((b + 7) / 8) _ p _ (e (omega arith)) tt

rib-full : (most s b : ℕ) (p : List ℕ) → most ≤ 128 → Octeted b p → Fit (digits 4 s ∷ digits 1 b ∷ bytes p ∷ []) → Full (rib_head most (end 0)) (digits 4 s ∷ digits 1 b ∷ bytes p ∷ [])
rib-full most s b p m e h = num-full _ 4 s _ _ h λ h. prefix-full most b p m e h

generic_full : (s f i b : ℕ) (p : List ℕ) → Octeted b p → Fit (digits 4 s ∷ digits 2 f ∷ digits 1 i ∷ digits 1 b ∷ bytes p ∷ [])
    → Full (generic_head (end 0)) (digits 4 s ∷ digits 2 f ∷ digits 1 i ∷ digits 1 b ∷ bytes p ∷ [])
generic_full s f i b p e h =
    num-full _ 4 s _ _ h λ h. checked-full _ 2 _ 7 f _ _ (omega arith) h λ h d. checked-full _ 1 _ 7 i _ _ (omega arith) h λ h d.
    choose_case (λ g. Full g (digits 1 b ∷ bytes p ∷ [])) (leb f 1) _ _ (λ z. prefix-full 32 b p (omega arith) e h) (λ z. prefix-full 128 b p (omega arith) e h)

-- ---- the seven writers

-- a kind that is neither the writer's own nor unlisted
not_own : {P : Type 0} (n : ℕ) (other k : Chosen) → (writer k ≡ n → ⊥) → (writer k ≡ writer other → ⊥) → (writer k ≡ n) ⊎ (k ≡ other) → P
not_own n other k h i (inl e) = absurd (h e)
not_own n other k h i (inr e) = absurd (i (ap writer e))

module _ (longest : ℕ) (st : St) where
  -- each value of a record of the kind k has its place
  abbrev At : (k : Chosen) → List Value → Tail → Type 0
  At k vs t = AlignedBody (plan st (layout_for longest k)) vs t

  -- a Type or Subtype that is refused is the fault, whatever the values are
  refused_at : (n p : ℕ) (vs : List Value) (t : Tail) → At (refused (suc n) p) vs t
  unfolding plan layout_for Aligned
  refused_at n p vs t e = absurd (omega arith)

  module _ (t : Time) (u p l i f : ℕ) (theirs ours : List ℕ) (sizes : Sizes f theirs ours) where
    abbrev values : (w : ℕ) → List Value → List Value
    values w vs = micros t ++ session_values w p l i f theirs ours vs

    behind : (w : ℕ) (f : Fmt) (vs : List Value) → (Fit vs → Aligned f vs []) → Fit (values w vs) → Aligned (stamped (micro_size t) (session w f)) (values w vs) []
    behind w g vs a h = stamped-aligned t (session w g) (session_values w p l i f theirs ours vs) (session-aligned w p l i f theirs ours g vs sizes a) h

    change_at : (o n : ℕ) → Own changes unlisted (change_given t u p l i f theirs ours o n) → Fit (change_given t u p l i f theirs ours o n).values
        → At (kind (bgp4mp t) u) (change_given t u p l i f theirs ours o n).values nothing
    unfolding plan layout_for kind16
    change_at o n =
        let vs : List Value = state_values o n in
        let own : Chosen → Type 0 = λ k. (writer k ≡ changes) ⊎ (k ≡ unlisted) → Fit (values (as_octets k) vs) → At k (values (as_octets k) vs) nothing in
        let none : (w : ℕ) → own (Message (micro_size t) w) = λ w. not_own changes unlisted (Message (micro_size t) w) (λ e. omega arith) (λ e. omega arith) in
        rw (bgp_kind t u)
        (by_test own (eqb u 0) _ _ (λ e d h. behind 2 state_change vs (states-aligned o n) h)
        (by_test own (eqb u 5) _ _ (λ e d h. behind 4 state_change vs (states-aligned o n) h)
        (by_test own (eqb u 1 || eqb u 6) _ _ (λ e. none 2)
        (by_test own (eqb u 4 || eqb u 7) _ _ (λ e. none 4) (λ d h. refused_at 3 6 _ nothing)))))

    message_at : (b : List ℕ) → Own messages unlisted (message_given t u p l i f theirs ours b) → Fit (message_given t u p l i f theirs ours b).values
        → At (kind (bgp4mp t) u) (message_given t u p l i f theirs ours b).values nothing
    unfolding plan layout_for kind16
    message_at b =
        let vs : List Value = bgp_values b in
        let own : Chosen → Type 0 = λ k. (writer k ≡ messages) ⊎ (k ≡ unlisted) → Fit (values (as_octets k) vs) → At k (values (as_octets k) vs) nothing in
        let none : (w : ℕ) → own (Change (micro_size t) w) = λ w. not_own messages unlisted (Change (micro_size t) w) (λ e. omega arith) (λ e. omega arith) in
        rw (bgp_kind t u)
        (by_test own (eqb u 0) _ _ (λ e. none 2)
        (by_test own (eqb u 5) _ _ (λ e. none 4)
        (by_test own (eqb u 1 || eqb u 6) _ _ (λ e d h. behind 2 (page.message longest) vs (λ z. message-aligned longest b) h)
        (by_test own (eqb u 4 || eqb u 7) _ _ (λ e d h. behind 4 (page.message longest) vs (λ z. message-aligned longest b) h) (λ d h. refused_at 3 6 _ nothing)))))

    pub placed_change : (o n : ℕ) → let g = change_given t u p l i f theirs ours o n in Own changes unlisted g → Fitting g → Placed (layout longest) st g
    unfolding layout
    placed_change o n d h = placed (layout longest) st _ h (change_at o n d h.fit)

    pub placed_message : (b : List ℕ) → let g = message_given t u p l i f theirs ours b in Own messages unlisted g → Fitting g → Placed (layout longest) st g
    unfolding layout
    placed_message b d h = placed (layout longest) st _ h (message_at b d h.fit)

  -- the addresses of type 12 have 4 or 16 octets, by the Subtype
  module _ (t u v s : ℕ) (prefix : List ℕ) (b c o : ℕ) (address : List ℕ) (p : ℕ) (a : List ℕ) where
    abbrev route : Given
    route = table_dump_given t u v s prefix b c o address p a

    pub placed_table_dump : (u ≡ 1 → (length prefix ≡ 4) × (length address ≡ 4)) → (u ≡ 2 → (length prefix ≡ 16) × (length address ≡ 16)) → Fitting route → Placed (layout longest) st route
    unfolding layout kind kind12 plan layout_for choose
    placed_table_dump x y h =
        let at : Chosen → Type 0 = λ k. At k route.values nothing in
        let full : (size : ℕ) → (length prefix ≡ size) × (length address ≡ size) → at (TableDump size) = λ n e. full-aligned _ route.values (route_full n v s prefix b c o address p a e h.fit) in
        placed (layout longest) st route h
        (by_test at (eqb u 1) _ _ (λ e. full 4 (x (eqb-true u 1 e))) (by_test at (eqb u 2) _ _ (λ e. full 16 (y (eqb-true u 2 e))) (refused_at 3 6 _ nothing)))

  -- a peer table's parts may have any size
  pub placed_peer_table : (t c : ℕ) (name : List ℕ) (n : ℕ) (peers : List ℕ) → let g = peer_table_given t c name n peers in n < 256 ^ 2 → Fitting g → Placed (layout longest) st g
  unfolding layout kind kind13 plan layout_for choose
  placed_peer_table t c name n peers m h = placed (layout longest) st _ h (table-full c name h.fit, m)

  -- RIB records with a table, and without one, where that is the fault
  entries_at : (f : Fmt) (rest : Fmt) (vs : List Value) (n : ℕ) (raw : List ℕ) → Full f vs → n < 256 ^ 2 → AlignedBody (plan st (entries f rest)) vs (items n raw)
  unfolding plan Aligned
  entries_at f rest vs n raw a m = go st
    where
      go : (st : St) → AlignedBody (plan st (entries f rest)) vs (items n raw)
      go no_table = λ e. absurd (omega arith)
      go (with_peers ns) = (a, m)

  pub placed_rib : (t u s b : ℕ) (prefix : List ℕ) (n : ℕ) (raw : List ℕ) → let g = rib_given t u s b prefix n raw in
      Own ribs unlisted g → Octeted b prefix → n < 256 ^ 2 → Fitting g → Placed (layout longest) st g
  unfolding layout kind kind13 layout_for choose
  placed_rib t u s b prefix n raw d e m h =
      let g : Given = rib_given t u s b prefix n raw in
      let own : Chosen → Type 0 = λ k. (writer k ≡ ribs) ⊎ (k ≡ unlisted) → At k g.values (items n raw) in
      let full : (most : ℕ) → most ≤ 128 → own (Rib most) = λ most l d. entries_at (rib_head most (end 0)) entry_rest g.values n raw (rib-full most s b prefix l e h.fit) m in
      placed (layout longest) st g h
      (by_test own (eqb u 1) _ _ (λ e. not_own ribs unlisted PeerTable (λ e. omega arith) (λ e. omega arith))
      (by_test own (in_range 2 u 3) _ _ (λ e. full 32 (omega arith))
      (by_test own (in_range 4 u 5) _ _ (λ e. full 128 (omega arith))
      (by_test own (eqb u 6) _ _ (λ e. not_own ribs unlisted RibGeneric (λ e. omega arith) (λ e. omega arith)) (λ d. refused_at 3 6 _ _)))) d)

  pub placed_rib_generic : (t s f i b : ℕ) (prefix : List ℕ) (n : ℕ) (raw : List ℕ) → let g = rib_generic_given t s f i b prefix n raw in
      Octeted b prefix → n < 256 ^ 2 → Fitting g → Placed (layout longest) st g
  unfolding layout kind kind13 layout_for choose in_range
  placed_rib_generic t s f i b prefix n raw e m h =
      let g : Given = rib_generic_given t s f i b prefix n raw in
      placed (layout longest) st g h (entries_at (generic_head (end 0)) entry_rest g.values n raw (generic_full s f i b prefix e h.fit) m)

  -- unread contents behind microseconds, or not
  unread_at : (t : Time) (r : List ℕ) (k : Chosen) → Fit (micros t) → writer k ≡ unreads (micro_size t) → At k (micros t) (carried r)
  unfolding plan layout_for
  unread_at t r (Unread micro) h e = let m : micro ≡ micro_size t = omega arith in rw m (stamped-full t h)
  unread_at t r (Err why) h e = absurd (omega arith)
  unread_at t r (TableDump size) h e = absurd (omega arith)
  unread_at t r PeerTable h e = absurd (omega arith)
  unread_at t r (Rib bits) h e = absurd (omega arith)
  unread_at t r RibGeneric h e = absurd (omega arith)
  unread_at t r (Change micro w) h e = absurd (omega arith)
  unread_at t r (Message micro w) h e = absurd (omega arith)

  pub placed_unread : (t : Time) (y u : ℕ) (r : List ℕ) → let g = unread_given t y u r in Own (unreads (micro_size t)) (refused 3 4) g → Fitting g → Placed (layout longest) st g
  unfolding layout
  placed_unread t y u r (inl e) h = placed (layout longest) st _ h (unread_at t r (kind y u) h.fit e)
  placed_unread t y u r (inr e) h = placed (layout longest) st _ h (rw e (refused_at 2 4 (micros t) (carried r)))
