-- The good record at a place of a dump: where its fields lie in the dump.
use mathlib.Core.Path.{◌≡◌, refl, sym, ap, ap₂, ◌∙◌, subst}
use mathlib.Core.Bool.{Bool, true, false, ◌||◌, false≢true}
use mathlib.Core.Logic.{⊎_elim}
use mathlib.Core.List.{List, ◌++◌}
use Prim.Native.Nat.{ℕ, ◌+◌, ◌*◌, ◌-◌, ◌/◌, ◌≤◌, ◌<◌}
use native.Mathlib.Omega.{arith}
use lib.Dec.{ltb, eqb}
use lib.ListN.{length, take, drop, length-drop, take-append-drop}
use lib.Seq.{length-take-le, take-append-le, drop-append-le, drop-drop}
use borrow.Author.Tests.{ltb-false, eq-eqb, ne_eqb, eqb-true}
use Rattle.form_spec.specs.Words.{choose, in_range}
use Rattle.octets_spec.specs.Be.{num_at}
use Rattle.page_spec.specs.Layout.{kind12, kind13, kind16, kind, finer}
use Rattle.page_spec.specs.Chosen.{Chosen}
use Rattle.page_spec.specs.Chosen as chosen
use Rattle.record_spec.specs.Table.{Table}
use Rattle.record_spec.specs.Shown.{Shown}
use Rattle.record_spec.specs.Answer.{fault}
use Rattle.record_spec.specs.One.{shown_as, whole_record, read_one}
use Rattle.page_laws.proofs.Choice.{Says, kind_says, by_test, either}
use Rattle.look_spec.specs.Sort.{is_route, is_change, sort_of, sort_by}
use Rattle.look_spec.specs.Field.{type_of, subtype_of, time_of, peer_of, sequence_of, states_of, items_at, count_of, width_of, change_by, Told, shown, Good, Is, Shows, Ends, Counted}
use Rattle.look_laws.proofs.Good.{IsState, Marked, Heads, Counts, Spoken, Routed, Turned, Facts, facts, micro_in, behind_prefix}
use Rattle.look_laws.proofs.Sort.{marks_say}
use Rattle.std.specs.Prelude.{Err}

-- ---- the record that starts s

-- numbers in the first octets
first_octets : (m r : List ℕ) (i w : ℕ) → i + w ≤ length m → num_at (m ++ r) i w ≡ num_at m i w
unfolding num_at
first_octets m r i w h =
    let p : i ≤ length m = omega arith in
    let q : w ≤ length (drop i m) = rw length-drop (omega arith) in
    rw (drop-append-le i m r p, take-append-le w (drop i m) r q)

pub taken_octets : (n : ℕ) (s : List ℕ) → n ≤ length s → (i w : ℕ) → i + w ≤ n → num_at (take n s) i w ≡ num_at s i w
taken_octets n s h i w l =
    let e : length (take n s) ≡ n = length-take-le n s h in
    sym (first_octets (take n s) (drop n s) i w (omega arith)) ∙ ap (λ (x : List ℕ). num_at x i w) (take-append-drop n s)

pub record Starts (longest : ℕ) (t : Table) (s : List ℕ) : Type 0 where
  pub long : 12 + num_at s 8 4 ≤ length s
  pub shown : read_one longest t s ≡ whole_record longest t (take (12 + num_at s 8 4) s)

pub starts : (longest : ℕ) (t : Table) (s : List ℕ) → 0 < length s → fault (read_one longest t s) ≡ 0 → Starts longest t s
unfolding read_one choose
starts longest t s some good = go (ltb (length s) 12) refl (ltb (length s - 12) n) refl
  where
    n : ℕ
    n = num_at s 8 4

    z : eqb (length s) 0 ≡ false
    z = ne_eqb (length s) 0 (λ e. omega arith)

    go : (a : Bool) → ltb (length s) 12 ≡ a → (b : Bool) → ltb (length s - 12) n ≡ b → Starts longest t s
    go true e b g = let h = rw (z, e) at good in absurd (omega arith)
    go false e true g = let h = rw (z, e, g) at good in absurd (omega arith)
    go false e false g =
        let a = ltb-false (length s) 12 e in
        let c = ltb-false (length s - 12) n g in
        record { long = omega arith; shown = rw (z, e, g) }

-- ---- what the kind says, taken apart

module _ (m : List ℕ) (x : Shown) where
  heads_of : (y u : ℕ) (k : Chosen) → Says y u k → Facts m k x → Heads m (choose (finer y) 4 0) x
  unfolding choose finer
  heads_of y u (Err why) s f = absurd f
  heads_of y u (chosen.Unread micro) s f = ⊎_elim (λ (a : (finer y ≡ false) × (micro ≡ 0)). rw (a.0, ← a.1) f.0) (λ (a : (finer y ≡ true) × (micro ≡ 4)). rw (a.0, ← a.1) f.0) s
  heads_of y u (chosen.TableDump size) s f = rw s f.0
  heads_of y u chosen.PeerTable s f = rw s.0 f.0
  heads_of y u (chosen.Rib bits) s f = rw s f.0
  heads_of y u chosen.RibGeneric s f = rw s.0 f.0
  heads_of y u (chosen.Change micro w) s f = ⊎_elim (λ (a : (y ≡ 16) × (micro ≡ 0)). rw (a.0, ← a.1) f.0) (λ (a : (y ≡ 17) × (micro ≡ 4)). rw (a.0, ← a.1) f.0) s
  heads_of y u (chosen.Message micro w) s f = ⊎_elim (λ (a : (y ≡ 16) × (micro ≡ 0)). rw (a.0, ← a.1) f.0) (λ (a : (y ≡ 17) × (micro ≡ 4)). rw (a.0, ← a.1) f.0) s

  -- type 12
  routed_first : Facts m (kind12 1) x → Routed m 4 x
  unfolding kind12 choose
  routed_first f = f.2

  routed_other : (u : ℕ) → (u ≡ 1 → ⊥) → Facts m (kind12 u) x → Routed m 16 x
  unfolding kind12
  routed_other u h = by_test P (eqb u 1) _ _ (λ e. absurd (h (eqb-true u 1 e))) (by_test P (eqb u 2) _ _ (λ e f. f.2) (λ f. absurd f))
    where
      P : Chosen → Type 0
      P k = Facts m k x → Routed m 16 x

  -- type 13
  counted_first : Facts m (kind13 1) x → Counts m (18 + num_at m 16 2) x
  unfolding kind13 choose
  counted_first f = f.2

  counted_sixth : Facts m (kind13 6) x → Counts m (behind_prefix m 19) x
  unfolding kind13 choose in_range
  counted_sixth f = f.2

  counted_other : (u : ℕ) → (u ≡ 1 → ⊥) → (u ≡ 6 → ⊥) → Facts m (kind13 u) x → Counts m (behind_prefix m 16) x
  unfolding kind13
  counted_other u h g =
      by_test P (eqb u 1) _ _ (λ e. absurd (h (eqb-true u 1 e)))
      (by_test P (in_range 2 u 3) _ _ (λ e f. f.2)
      (by_test P (in_range 4 u 5) _ _ (λ e f. f.2)
      (by_test P (eqb u 6) _ _ (λ e. absurd (g (eqb-true u 6 e))) (λ f. absurd f))))
    where
      P : Chosen → Type 0
      P k = Facts m k x → Counts m (behind_prefix m 16) x

  -- types 16 and 17, of either width
  spoken : (micro u : ℕ) → Facts m (kind16 micro u) x → Spoken m micro (width_of u) x
  unfolding kind16 width_of choose
  spoken micro u =
      by_test P (eqb u 0) _ _ (λ e f. is 0 2 refl e f.2)
      (by_test P (eqb u 5) _ _ (λ e f. is 5 4 refl e f.2)
      (by_test P (eqb u 1 || eqb u 6) _ _ (λ e f. ⊎_elim (λ z. is 1 2 refl z f.2) (λ z. is 6 2 refl z f.2) (either (eqb u 1) (eqb u 6) e))
      (by_test P (eqb u 4 || eqb u 7) _ _ (λ e f. ⊎_elim (λ z. is 4 4 refl z f.2) (λ z. is 7 4 refl z f.2) (either (eqb u 4) (eqb u 7) e)) (λ f. absurd f))))
    where
      P : Chosen → Type 0
      P k = Facts m k x → Spoken m micro (width_of u) x

      is : (n w : ℕ) → w ≡ width_of n → eqb u n ≡ true → Spoken m micro w x → Spoken m micro (width_of u) x
      is n w h e s = subst (λ (v : ℕ). Spoken m micro v x) (h ∙ ap width_of (sym (eqb-true u n e))) s

-- what a record of type 12, and a state change, has alone
module _ (m : List ℕ) (x : Shown) where
  sequenced : (k : Chosen) → Facts m k x → is_route x ≡ true → (sequence_of x ≡ num_at m 14 2) × (16 ≤ length m)
  sequenced (Err why) f e = absurd f
  sequenced (chosen.Unread micro) f e = absurd (false≢true (sym f.1.1 ∙ e))
  sequenced (chosen.TableDump size) f e = (f.2.sequence, omega (arith, f.2.inside))
  sequenced chosen.PeerTable f e = absurd (false≢true (sym f.1.1 ∙ e))
  sequenced (chosen.Rib bits) f e = absurd (false≢true (sym f.1.1 ∙ e))
  sequenced chosen.RibGeneric f e = absurd (false≢true (sym f.1.1 ∙ e))
  sequenced (chosen.Change micro w) f e = absurd (false≢true (sym f.1.1 ∙ e))
  sequenced (chosen.Message micro w) f e = absurd (false≢true (sym f.1.1 ∙ e))

  turned : (k : Chosen) → Facts m k x → is_change x ≡ true → (c : ℕ) × Turned m c x
  turned (Err why) f e = absurd f
  turned (chosen.Unread micro) f e = absurd (false≢true (sym f.1.2 ∙ e))
  turned (chosen.TableDump size) f e = absurd (false≢true (sym f.1.2 ∙ e))
  turned chosen.PeerTable f e = absurd (false≢true (sym f.1.2 ∙ e))
  turned (chosen.Rib bits) f e = absurd (false≢true (sym f.1.2 ∙ e))
  turned chosen.RibGeneric f e = absurd (false≢true (sym f.1.2 ∙ e))
  turned (chosen.Change micro w) f e = f.3
  turned (chosen.Message micro w) f e = absurd (false≢true (sym f.1.2 ∙ e))

wide_enough : (u : ℕ) → 2 ≤ width_of u
unfolding width_of choose
wide_enough u = go (eqb u 4 || eqb u 5 || eqb u 7)
  where
    go : (b : Bool) → 2 ≤ choose b 4 2
    go true = omega arith
    go false = omega arith

-- ---- the record at `at` of d

module _ (t : Told) (d : List ℕ) (at : ℕ) (good : Good t d at) where
  abbrev s : List ℕ
  s = drop at d

  abbrev n : ℕ
  n = 12 + num_at s 8 4

  abbrev m : List ℕ
  m = take n s

  abbrev x : Shown
  x = shown t d at

  begins : Starts t.longest t.table s
  begins = starts t.longest t.table s (rw length-drop (omega (arith, good.0))) good.1

  size : length m ≡ n
  size = length-take-le n s begins.long

  inside : at + n ≤ length d
  inside = omega (arith, begins.long, length-drop at d, good.0)

  -- a number in the record is one in the dump
  pub here : (i w : ℕ) → i + w ≤ length m → num_at m i w ≡ num_at d (at + i) w
  unfolding num_at
  here i w h = taken_octets n s begins.long i w (omega (arith, size)) ∙ rw (drop-drop i at d)

  abbrev ty : ℕ
  ty = num_at m 4 2

  abbrev sub : ℕ
  sub = num_at m 6 2

  length_here : num_at s 8 4 ≡ num_at d (at + 8) 4
  unfolding num_at
  length_here = rw (drop-drop 8 at d)

  all : Facts m (kind ty sub) x
  unfolding whole_record
  all = let e : x ≡ shown_as t.longest t.table m (kind ty sub) = begins.shown in rw e (facts m t.longest t.table (omega (arith, size)) ty sub (kind ty sub) (kind_says ty sub) (rw e at good.1))

  heads : Heads m (choose (finer ty) 4 0) x
  heads = heads_of m x ty sub (kind ty sub) (kind_says ty sub) all

  pub header-inside : at + 12 ≤ length d
  header-inside = omega (arith, inside)

  type_here : ty ≡ num_at d (at + 4) 2
  type_here = here 4 2 (omega (arith, size))

  sub_here : sub ≡ num_at d (at + 6) 2
  sub_here = here 6 2 (omega (arith, size))

  pub type-shown : num_at d (at + 4) 2 ≡ type_of x
  type-shown = sym type_here ∙ ap (λ (h : _). h.ty) (sym heads.head)

  pub subtype_shown : num_at d (at + 6) 2 ≡ subtype_of x
  subtype_shown = sym sub_here ∙ ap (λ (h : _). h.subtype) (sym heads.head)

  pub end_shown : Ends d at (at + 12 + num_at d (at + 8) 4) x
  end_shown =
      let e = heads.ends in
      let h = here 8 4 (omega (arith, size)) in
      record { is = omega arith; on = omega arith; inside = omega (arith, inside, length_here) }

  -- ---- the time

  stamp_here : num_at m 0 4 ≡ num_at d at 4
  stamp_here = let z : at + 0 ≡ at = omega arith in rw z at (here 0 4 (omega (arith, size)))

  pub late_inside : finer (num_at d (at + 4) 2) ≡ true → at + 16 ≤ length d
  unfolding choose
  late_inside e = let h = rw (type_here, e) at heads.long in omega (arith, inside, size)

  timed : time_of x ≡ num_at m 0 4 * 1000000 + micro_in m (choose (finer ty) 4 0)
  timed = rw heads.head

  pub time-shown : finer (num_at d (at + 4) 2) ≡ false → num_at d at 4 * 1000000 ≡ time_of x
  unfolding choose micro_in
  time-shown e = let h = rw (type_here, e, stamp_here) at timed in omega arith

  pub late_shown : finer (num_at d (at + 4) 2) ≡ true → num_at d at 4 * 1000000 + num_at d (at + 12) 4 ≡ time_of x
  unfolding choose micro_in
  late_shown e =
      let l = rw (type_here, e) at heads.long in
      let h = rw (type_here, e, stamp_here, here 12 4 l) at timed in
      omega arith

  -- ---- by type and subtype

  of_kind : (y u : ℕ) → num_at d (at + 4) 2 ≡ y → num_at d (at + 6) 2 ≡ u → Facts m (kind y u) x
  of_kind y u e f = rw (type_here, e, sub_here, f) at all

  -- types 16 and 17
  pub record Speaks (from u : ℕ) : Type 0 where
    pub peer : num_at d from (width_of u) ≡ peer_of x
    pub inside : from + 8 ≤ length d

  speaks : (micro u : ℕ) → Spoken m micro (width_of u) x → Speaks (at + (12 + micro)) u
  speaks micro u f =
      let i = f.inside in
      let w = wide_enough u in
      record { peer = sym (f.peer ∙ here (12 + micro) (width_of u) (omega arith)); inside = omega (arith, size, inside) }

  pub session-shown : (u : ℕ) → num_at d (at + 4) 2 ≡ 16 → num_at d (at + 6) 2 ≡ u → Speaks (at + 12) u
  unfolding kind choose
  session-shown u e f = speaks 0 u (spoken m x 0 u (of_kind 16 u e f))

  pub late_session_shown : (u : ℕ) → num_at d (at + 4) 2 ≡ 17 → num_at d (at + 6) 2 ≡ u → Speaks (at + 16) u
  unfolding kind choose
  late_session_shown u e f = speaks 4 u (spoken m x 4 u (of_kind 17 u e f))

  -- type 12
  pub record Routes (from : ℕ) : Type 0 where
    pub peer : num_at d from 2 ≡ peer_of x
    pub inside : from + 2 ≤ length d

  routes : (size : ℕ) → Routed m size x → Routes (at + (22 + 2 * size))
  routes z f =
      let i = f.inside in
      record { peer = sym (f.peer ∙ here (22 + 2 * z) 2 i); inside = omega (arith, size, inside) }

  pub route_shown : num_at d (at + 4) 2 ≡ 12 → num_at d (at + 6) 2 ≡ 1 → Routes (at + 30)
  unfolding kind choose
  route_shown e f = routes 4 (routed_first m x (of_kind 12 1 e f))

  pub long_route_shown : (u : ℕ) → num_at d (at + 4) 2 ≡ 12 → num_at d (at + 6) 2 ≡ u → (u ≡ 1 → ⊥) → Routes (at + 54)
  unfolding kind choose
  long_route_shown u e f h = routes 16 (routed_other m x u h (of_kind 12 u e f))

  -- type 13
  counted : (c r : ℕ) → at + c ≡ r → Counts m c x → Counted d at r x
  counted c r e f =
      let i = f.inside in
      let g : num_at m c 2 ≡ num_at d r 2 = rw e at (here c 2 i) in
      record { items = omega (arith, f.items); many = sym (f.many ∙ g); inside = omega (arith, size, inside) }

  pub peers_inside : num_at d (at + 4) 2 ≡ 13 → num_at d (at + 6) 2 ≡ 1 → at + 18 ≤ length d
  unfolding kind choose
  peers_inside e f = omega (arith, (counted_first m x (of_kind 13 1 e f)).inside, size, inside)

  pub peers_shown : num_at d (at + 4) 2 ≡ 13 → num_at d (at + 6) 2 ≡ 1 → Counted d at (at + 18 + num_at d (at + 16) 2) x
  unfolding kind choose
  peers_shown e f =
      let c = counted_first m x (of_kind 13 1 e f) in
      let z = here 16 2 (omega (arith, c.inside)) in
      counted (18 + num_at m 16 2) _ (omega arith) c

  prefixed : (p : ℕ) → Counts m (behind_prefix m p) x → (at + p < length d) × Counted d at (at + p + 1 + (num_at d (at + p) 1 + 7) / 8) x
  prefixed p c =
      let i = c.inside in
      let z : num_at m p 1 ≡ num_at d (at + p) 1 = here p 1 (omega arith) in
      (omega (arith, size, inside), counted (behind_prefix m p) _ (rw z (omega arith)) c)

  pub generic_entries_shown : num_at d (at + 4) 2 ≡ 13 → num_at d (at + 6) 2 ≡ 6 → (at + 19 < length d) × Counted d at (at + 19 + 1 + (num_at d (at + 19) 1 + 7) / 8) x
  unfolding kind choose
  generic_entries_shown e f = prefixed 19 (counted_sixth m x (of_kind 13 6 e f))

  pub entries_shown : (u : ℕ) → num_at d (at + 4) 2 ≡ 13 → num_at d (at + 6) 2 ≡ u → (u ≡ 1 → ⊥) → (u ≡ 6 → ⊥) → (at + 16 < length d) × Counted d at (at + 16 + 1 + (num_at d (at + 16) 1 + 7) / 8) x
  unfolding kind choose
  entries_shown u e f h g = prefixed 16 (counted_other m x u h g (of_kind 13 u e f))

  -- ---- the sort that type and subtype say

  pub marked : Marked (sort_by (type_of x) (subtype_of x)) (eqb (type_of x) 12) (change_by (type_of x) (subtype_of x)) x
  marked = rw (← type-shown, ← subtype_shown, ← type_here, ← sub_here) (marks_say m x ty sub all)

  pub sorted : sort_of x ≡ sort_by (type_of x) (subtype_of x)
  sorted = marked.0

  -- type 12: the sequence
  pub record Sequenced : Type 0 where
    pub is : num_at d (at + 14) 2 ≡ sequence_of x
    pub inside : at + 16 ≤ length d

  pub sequence-shown : type_of x ≡ 12 → Sequenced
  sequence-shown e =
      let f = sequenced m x (kind ty sub) all (marked.1 ∙ eq-eqb (type_of x) 12 e) in
      record { is = sym (f.0 ∙ here 14 2 f.1); inside = omega (arith, f.1, size, inside) }

  -- a state change that ends at e: its last octets are its states
  pub record Turns (e : ℕ) : Type 0 where
    pub old : num_at d (e - 4) 2 ≡ (states_of x).old
    pub new : num_at d (e - 2) 2 ≡ (states_of x).new
    pub from : IsState (states_of x).old
    pub to : IsState (states_of x).new

  pub states-shown : change_by (type_of x) (subtype_of x) ≡ true → (e : ℕ) → Ends d at e x → Turns e
  states-shown h e k =
      let t = turned m x (kind ty sub) all (marked.2 ∙ h) in
      let l = t.1.last in
      let z : e ≡ at + length m = omega (arith, k.is, heads.ends, here 8 4 (omega (arith, size)), length_here, size) in
      let p : at + t.0 ≡ e - 4 = omega arith in
      let q : at + (t.0 + 2) ≡ e - 2 = omega arith in
      record {
        old = sym (t.1.old ∙ (rw p at (here t.0 2 (omega arith))));
        new = sym (t.1.new ∙ (rw q at (here (t.0 + 2) 2 (omega arith))));
        from = t.1.from;
        to = t.1.to;
      }

-- its type and subtype are the same, whatever table it is good with
module _ (d : List ℕ) (at : ℕ) (t u : Told) (g : Good t d at) (h : Good u d at) where
  pub same_type : type_of (shown t d at) ≡ type_of (shown u d at)
  same_type = sym (type-shown t d at g) ∙ type-shown u d at h

  pub same_subtype : subtype_of (shown t d at) ≡ subtype_of (shown u d at)
  same_subtype = sym (subtype_shown t d at g) ∙ subtype_shown u d at h

-- and so its sort is theirs
pub sort_known : (d : List ℕ) (at y u : ℕ) → Is d at (λ x. (type_of x ≡ y) × (subtype_of x ≡ u)) → Shows d at (λ x. sort_of x ≡ sort_by y u)
sort_known d at y u k t g = sorted t d at g ∙ ap₂ sort_by (same_type d at t k.0 g k.1 ∙ k.2.0) (same_subtype d at t k.0 g k.1 ∙ k.2.1)

-- and so is whether it is a state change
pub change-known : (d : List ℕ) (at : ℕ) → Is d at (λ x. change_by (type_of x) (subtype_of x) ≡ true) → Shows d at (λ x. change_by (type_of x) (subtype_of x) ≡ true)
change-known d at k t g = ap₂ change_by (same_type d at t k.0 g k.1) (same_subtype d at t k.0 g k.1) ∙ k.2

-- its items start behind the count at r, which is n
pub items-counted : (d : List ℕ) (at r n : ℕ) (x : Shown) → Counted d at r x → n ≡ num_at d r 2 → (r + 2 - at ≡ items_at x) × (n ≡ count_of x)
items-counted d at r n x c e = (omega (arith, c.items), e ∙ c.many)
