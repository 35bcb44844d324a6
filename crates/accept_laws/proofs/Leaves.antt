-- A layout that goes through a record's octets leaves it surely good, kind by kind.
use mathlib.Core.Path.{◌≡◌, refl, sym, ◌∙◌, subst}
use mathlib.Core.Bool.{Bool, true, false, cond}
use mathlib.Core.Logic.{◌⊎◌, inr, ⊎_elim}
use mathlib.Core.List.{List}
use Prim.Native.Nat.{ℕ, zero, suc, ◌+◌, ◌-◌, ◌≤◌, ◌<◌}
use native.Mathlib.Omega.{arith}
use native.Mathlib.Nat.{eq-or-lt_of_le}
use lib.ListN.{length, take, drop}
use borrow.Author.Tests.{le-ltb, ne_eqb}
use Rattle.form_spec.specs.Fmt.{Fmt}
use Rattle.form_spec.specs.Words.{choose, in_range}
use Rattle.form_spec.specs.Pass.{Seen, number_of, whole, times}
use Rattle.octets_spec.specs.Be.{num_at}
use Rattle.octets_spec.specs.Field.{field_at, Num}
use Rattle.page_spec.specs.Names.{peer_count}
use Rattle.page_spec.specs.Bgp4mp.{session, state_change, message}
use Rattle.octets_laws.proofs.Rules.{inside, above}
use Rattle.page_spec.specs.Rib.{prefix, entry_list, rib, rib_generic}
use Rattle.page_spec.specs.Peers.{peer, peer_table}
use Rattle.page_spec.specs.TableDump.{table_dump}
use Rattle.page_spec.specs.Layout.{kind12, kind13, kind16, kind}
use Rattle.page_spec.specs.Chosen.{Chosen}
use Rattle.page_spec.specs.Chosen as chosen
use Rattle.record_spec.specs.Fields as show
use Rattle.record_spec.specs.declared.Header.{Header}
use Rattle.record_spec.specs.Table as told
use Rattle.record_spec.specs.Table.{Absent, Holds}
use Rattle.record_spec.specs.Shown.{Shown, Nothing, Good}
use Rattle.record_spec.specs.Answer.{fault}
use Rattle.record_spec.specs.One.{header, micro_at, behind, tabled, shown_as, whole_record}
use Rattle.walk_spec.specs.Steps.{stepped, step_of}
use Rattle.look_spec.specs.Field.{width_of}
use Rattle.look_laws.proofs.Good.{facts}
use Rattle.accept_laws.specs.Runs.{Through, WithTable}
use Rattle.accept_spec.specs.Sure.{Leaves, Sure, Yes, micro_octets}
use Rattle.text_spec.specs.Check.{is_text}
use Rattle.accept_spec.specs.declared.Accepted.{Accepted}
use Rattle.accept_spec.specs.declared.Accepted.TheVariants as answer
use Rattle.accept_laws.proofs.Fields.{rib-runs, table_runs}
use Rattle.accept_laws.proofs.Runs.{forward, through}
use Rattle.form_spec.specs.Refusal.{refused}
use Rattle.std.specs.Prelude.{Err}

module _ (longest : ℕ) (m : List ℕ) (t : told.Table) where
  -- fields that are shown as a record with this header, which leaves the table as it is
  whole_leaves : (to : List Seen → Shown) (f : Fmt) (i : ℕ) (h : Header) → h.length ≡ num_at m 8 4 → ((fs : List Seen) (at : ℕ) → step_of t at (to fs) ≡ stepped at h t) → Through f m i
      → Leaves m t (whole to refused f m i) t
  whole_leaves to f i h l e r = let p = through m f to refused i r in record { head = h; long = l; step = λ at. rw p.1 (e p.0 at) }

  micro_there : (micro : ℕ) → 12 + micro ≤ length m → (u : ℕ) × (micro_at m micro ≡ Num u (12 + micro))
  unfolding micro_at field_at choose
  micro_there zero h = (0, refl)
  micro_there (suc n) h = (num_at m 12 (suc n), rw (ne_eqb (suc n) 0 (λ e. omega arith), le-ltb (length m) (12 + suc n) h))

  -- ---- the kinds

  pub unread_leaves : (micro : ℕ) → 12 + micro ≤ length m → Leaves m t (shown_as longest t m (chosen.Unread micro)) t
  unfolding shown_as behind
  unread_leaves micro h = let u = micro_there micro h in record { head = header m u.0; long = refl; step = λ at. rw u.1 }

  change_leaves : (micro w : ℕ) → Through (session w state_change) m (12 + micro) → Leaves m t (shown_as longest t m (chosen.Change micro w)) t
  unfolding shown_as behind
  change_leaves micro w r =
      let u = micro_there micro (forward m _ (12 + micro) (length m) r) in
      rw u.1 (whole_leaves (show.change (header m u.0)) (session w state_change) (12 + micro) (header m u.0) refl (λ fs at. refl) r)

  message_leaves : (micro w : ℕ) → Through (session w (message longest)) m (12 + micro) → Leaves m t (shown_as longest t m (chosen.Message micro w)) t
  unfolding shown_as behind
  message_leaves micro w r =
      let u = micro_there micro (forward m _ (12 + micro) (length m) r) in
      rw u.1 (whole_leaves (show.message (header m u.0)) (session w (message longest)) (12 + micro) (header m u.0) refl (λ fs at. refl) r)

  route_leaves : (size : ℕ) → Through (table_dump size) m 12 → Leaves m t (shown_as longest t m (chosen.TableDump size)) t
  unfolding shown_as
  route_leaves size r = whole_leaves (show.table_dump (header m 0)) (table_dump size) 12 (header m 0) refl (λ fs at. refl) r

  pub table_leaves : 12 ≤ length m → Through peer_table m 12 → Leaves m t (shown_as longest t m chosen.PeerTable) (Holds (num_at m (18 + num_at m 16 2) 2))
  unfolding shown_as
  table_leaves l r =
      let to : List Seen → Shown = show.peer_table (header m 0) m in
      let p = through m peer_table to refused 12 r in
      let good : fault (whole to refused peer_table m 12) ≡ 0 = rw p.1 in
      let f = facts m longest t l 13 1 chosen.PeerTable (refl, refl) good in
      let n : number_of peer_count p.0 ≡ num_at m (18 + num_at m 16 2) 2 = rw p.1 at f.2.many in
      record { head = header m 0; long = refl; step = λ at. rw (p.1, n) }

-- where a table is told
pub rib_leaves : (longest : ℕ) (m : List ℕ) (t : told.Table) (bits : ℕ) → WithTable t (λ peers. Through (rib bits peers) m 12) → Leaves m t (shown_as longest t m (chosen.Rib bits)) t
unfolding shown_as tabled
rib_leaves longest m Absent bits r = absurd r
rib_leaves longest m (Holds peers) bits r = whole_leaves longest m (Holds peers) (show.rib (header m 0) m) (rib bits peers) 12 (header m 0) refl (λ fs at. refl) r

pub generic_leaves : (longest : ℕ) (m : List ℕ) (t : told.Table) → WithTable t (λ peers. Through (rib_generic peers) m 12) → Leaves m t (shown_as longest t m chosen.RibGeneric) t
unfolding shown_as tabled
generic_leaves longest m Absent r = absurd r
generic_leaves longest m (Holds peers) r = whole_leaves longest m (Holds peers) (show.rib_generic (header m 0) m) (rib_generic peers) 12 (header m 0) refl (λ fs at. refl) r

-- ---- by type and subtype

module _ (longest : ℕ) (m : List ℕ) (t : told.Table) where
  -- x is what m shows if its layout is that of k
  abbrev shows : Chosen → Shown
  shows k = shown_as longest t m k

  is_kind : (k j : Chosen) → k ≡ j → Leaves m t (shows j) t → Leaves m t (shows k) t
  is_kind k j e l = rw e l

  change-kind : (micro u : ℕ) → (u ≡ 0) ⊎ (u ≡ 5) → kind16 micro u ≡ chosen.Change micro (width_of u)
  unfolding kind16 choose width_of
  change-kind micro u = ⊎_elim (λ (e : u ≡ 0). rw e) (λ (e : u ≡ 5). rw e)

  pub change-sure : (micro u i w : ℕ) → (u ≡ 0) ⊎ (u ≡ 5) → w ≡ width_of u → i ≡ 12 + micro → Through (session w state_change) m i → Leaves m t (shows (kind16 micro u)) t
  change-sure micro u i w h e f r = is_kind _ _ (change-kind micro u h) (change_leaves longest m t micro (width_of u) (rw (e, f) at r))

  message-kind : (micro u : ℕ) → ((u ≡ 1) ⊎ (u ≡ 4)) ⊎ ((6 ≤ u) × (u ≤ 7)) → kind16 micro u ≡ chosen.Message micro (width_of u)
  unfolding kind16 choose width_of
  message-kind micro u =
      ⊎_elim (⊎_elim (λ (e : u ≡ 1). rw e) (λ (e : u ≡ 4). rw e))
      (λ (h : (6 ≤ u) × (u ≤ 7)). ⊎_elim (λ (e : 6 ≡ u). rw (← e)) (λ (l : 6 < u). let e : u ≡ 7 = omega (arith, h.1) in rw e) (eq-or-lt_of_le h.0))

  pub message-sure : (micro u i w : ℕ) → ((u ≡ 1) ⊎ (u ≡ 4)) ⊎ ((6 ≤ u) × (u ≤ 7)) → w ≡ width_of u → i ≡ 12 + micro → Through (session w (message longest)) m i → Leaves m t (shows (kind16 micro u)) t
  message-sure micro u i w h e f r = is_kind _ _ (message-kind micro u h) (message_leaves longest m t micro (width_of u) (rw (e, f) at r))

  pub route_sure : Through (table_dump 4) m 12 → Leaves m t (shows (kind12 1)) t
  unfolding kind12 choose
  route_sure r = route_leaves longest m t 4 r

  pub long_route_sure : Through (table_dump 16) m 12 → Leaves m t (shows (kind12 2)) t
  unfolding kind12 choose
  long_route_sure r = route_leaves longest m t 16 r

-- a record that leaves a table has no fault
pub no_fault : (m : List ℕ) (t u : told.Table) (x : Shown) → Leaves m t x u → fault x ≡ 0
no_fault m t u (Err why) l =
    let e = l.step 0 in
    let z : ◌≡◌ {A = ℕ} 0 1 = cc in
    absurd (omega arith)
no_fault m t u Nothing l = refl
no_fault m t u (Good h b) l = refl

-- ---- type 13

pub with_table_on : (t : told.Table) (P Q : ℕ → Type 0) → ((n : ℕ) → P n → Q n) → WithTable t P → WithTable t Q
with_table_on Absent P Q f r = r
with_table_on (Holds n) P Q f r = f n r

module _ (longest : ℕ) (m : List ℕ) (t : told.Table) where
  -- a count that code has read
  pub table-sure : (c n : ℕ) → 12 ≤ length m → c ≡ 18 + num_at m 16 2 → n ≡ num_at m c 2 → c + 2 ≤ length m → is_text (take (c - 18) (drop 18 m)) ≡ true → Through (times n peer) m (c + 2) → Leaves m t (shown_as longest t m chosen.PeerTable) (Holds n)
  table-sure c n l e f h x r =
      let z : num_at m (18 + num_at m 16 2) 2 ≡ n = rw e at (sym f) in
      rw z at (table_leaves longest m t l (table_runs m c e h x (rw f at r)))

  pub rib-sure : (u : ℕ) → 2 ≤ u → u ≤ 3 → WithTable t (λ peers. Through (prefix 32 (entry_list peers)) m 16) → Leaves m t (shown_as longest t m (kind13 u)) t
  unfolding kind13 choose
  rib-sure u a b r =
      rw (ne_eqb u 1 (λ e. omega arith), inside 2 u 3 a b)
      (rib_leaves longest m t 32 (with_table_on t _ _ (λ n p. rib-runs m 32 n (forward m _ 16 (length m) p) p) r))

  pub long_rib_sure : (u : ℕ) → 4 ≤ u → u ≤ 5 → WithTable t (λ peers. Through (prefix 128 (entry_list peers)) m 16) → Leaves m t (shown_as longest t m (kind13 u)) t
  unfolding kind13 choose
  long_rib_sure u a b r =
      rw (ne_eqb u 1 (λ e. omega arith), above 2 u 3 (omega arith), inside 4 u 5 a b)
      (rib_leaves longest m t 128 (with_table_on t _ _ (λ n p. rib-runs m 128 n (forward m _ 16 (length m) p) p) r))

pub first_kind : (u : ℕ) → u ≡ 1 → kind13 u ≡ chosen.PeerTable
unfolding kind13 choose
first_kind u e = rw e

pub sixth_kind : (u : ℕ) → u ≡ 6 → kind13 u ≡ chosen.RibGeneric
unfolding kind13 choose in_range
sixth_kind u e = rw e

-- ---- answers

pub if_sure : (m : List ℕ) (t : told.Table) (x : Shown) (good : Bool) → Yes m t x good → Sure m t x (cond good answer.Record answer.Unsure)
if_sure m t x true h = h refl
if_sure m t x false h = tt

-- ---- the type

pub kind_12 : (y u : ℕ) → y ≡ 12 → kind y u ≡ kind12 u
unfolding kind choose
kind_12 y u e = rw e

pub kind_13 : (y u : ℕ) → y ≡ 13 → kind y u ≡ kind13 u
unfolding kind choose
kind_13 y u e = rw e

pub kind-session : (y u : ℕ) → 16 ≤ y → y ≤ 17 → kind y u ≡ kind16 (micro_octets y) u
unfolding kind choose
kind-session y u a b = ⊎_elim (λ (e : 16 ≡ y). rw (← e)) (λ (l : 16 < y). let e : y ≡ 17 = omega arith in rw e) (eq-or-lt_of_le a)

pub kind_unread : (y u : ℕ) → (y ≡ 11) ⊎ ((y ≡ 32) ⊎ (y ≡ 48)) → kind y u ≡ chosen.Unread 0
unfolding kind choose
kind_unread y u = ⊎_elim (λ (e : y ≡ 11). rw e) (⊎_elim (λ (e : y ≡ 32). rw e) (λ (e : y ≡ 48). rw e))

pub kind_late : (y u : ℕ) → (y ≡ 33) ⊎ (y ≡ 49) → kind y u ≡ chosen.Unread 4
unfolding kind choose
kind_late y u = ⊎_elim (λ (e : y ≡ 33). rw e) (λ (e : y ≡ 49). rw e)

-- the record m, whose type and subtype code has read
pub by_kind : (longest : ℕ) (m : List ℕ) (t : told.Table) (y u : ℕ) (k : Chosen) (r : Accepted) → y ≡ num_at m 4 2 → u ≡ num_at m 6 2 → kind y u ≡ k → Sure m t (shown_as longest t m k) r → Sure m t (whole_record longest t m) r
unfolding whole_record
by_kind longest m t y u k r p q e s = subst (λ (j : Chosen). Sure m t (shown_as longest t m j) r) (sym e ∙ rw (p, q)) s

-- a number from 4 to 7 that is neither 4 nor 5
pub six_on : (u : ℕ) → 4 ≤ u → u < 8 → ((u ≡ 0) ⊎ (u ≡ 5) → ⊥) → ((u ≡ 1) ⊎ (u ≡ 4) → ⊥) → (6 ≤ u) × (u ≤ 7)
six_on u h l a b =
    let four : u ≡ 4 → ⊥ = λ e. b (inr e) in
    let five : u ≡ 5 → ⊥ = λ e. a (inr e) in
    (omega arith, omega arith)
