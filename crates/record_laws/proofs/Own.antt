-- Whose a record is: by Type and Subtype, when it is the writer's own, or refused by the reader as the writer refuses it.
use mathlib.Core.Path.{◌≡◌, refl}
use mathlib.Core.Bool.{true, ◌||◌}
use mathlib.Core.Logic.{◌⊎◌, inl, inr, ⊎_elim}
use Prim.Native.Nat.{ℕ}
use lib.Dec.{eqb}
use borrow.Author.Tests.{eqb-true}
use Rattle.form_spec.specs.Words.{choose, in_range}
use Rattle.page_spec.specs.Layout.{kind12, kind13, kind16, kind, unlisted}
use Rattle.page_spec.specs.Chosen.{Chosen, Unread}
use Rattle.page_laws.proofs.Choice.{by_test, either}
use Rattle.write_spec.specs.declared.Time.{Time}
use Rattle.write_spec.specs.declared.Time.TheVariants.{Seconds, Micro}
use Rattle.write_spec.specs.Times.{micro_size, bgp4mp}
use Rattle.write_spec.specs.Only.{table_dumps, peer_tables, ribs, generic_ribs, changes, messages, unreads, writer}
use Rattle.form_spec.specs.Refusal.{refused}

-- `Own` of write_spec/specs/Only, for a kind
abbrev pub Whose : (writes : ℕ) (other : Chosen) → Chosen → Type 0
Whose n other k = (writer k ≡ n) ⊎ (k ≡ other)

-- a test that does not hold
failed : {P : Type 0} (a n : ℕ) → (a ≡ n → ⊥) → eqb a n ≡ true → P
failed a n h e = absurd (h (eqb-true a n e))

neither : {P : Type 0} (a n m : ℕ) → (a ≡ n → ⊥) → (a ≡ m → ⊥) → eqb a n || eqb a m ≡ true → P
neither a n m h i e = ⊎_elim (failed a n h) (failed a m i) (either (eqb a n) (eqb a m) e)

-- type 12 has no other layout
pub own_table_dump : (u : ℕ) → Whose table_dumps unlisted (kind 12 u)
unfolding kind kind12 choose
own_table_dump u = by_test (Whose table_dumps unlisted) (eqb u 1) _ _ (λ e. inl refl) (by_test (Whose table_dumps unlisted) (eqb u 2) _ _ (λ e. inl refl) (inr refl))

-- type 13
pub own_peer_table : Whose peer_tables unlisted (kind 13 1)
unfolding kind kind13 choose
own_peer_table = inl refl

pub own_rib_generic : Whose generic_ribs unlisted (kind 13 6)
unfolding kind kind13 choose in_range
own_rib_generic = inl refl

pub own_rib : (u : ℕ) → (u ≡ 1 → ⊥) → (u ≡ 6 → ⊥) → Whose ribs unlisted (kind 13 u)
unfolding kind kind13 choose
own_rib u h i =
    let own = Whose ribs unlisted in
    by_test own (eqb u 1) _ _ (failed u 1 h)
    (by_test own (in_range 2 u 3) _ _ (λ e. inl refl) (by_test own (in_range 4 u 5) _ _ (λ e. inl refl) (by_test own (eqb u 6) _ _ (failed u 6 i) (inr refl))))

-- types 16 and 17
pub bgp_kind : (t : Time) (u : ℕ) → kind (bgp4mp t) u ≡ kind16 (micro_size t) u
unfolding kind choose
bgp_kind (Seconds s) u = refl
bgp_kind (Micro s m) u = refl

pub own_change : (t : Time) (u : ℕ) → (u ≡ 1 → ⊥) → (u ≡ 4 → ⊥) → (u ≡ 6 → ⊥) → (u ≡ 7 → ⊥) → Whose changes unlisted (kind (bgp4mp t) u)
unfolding kind16
own_change t u a b c d =
    let own = Whose changes unlisted in
    rw (bgp_kind t u)
    (by_test own (eqb u 0) _ _ (λ e. inl refl)
    (by_test own (eqb u 5) _ _ (λ e. inl refl)
    (by_test own (eqb u 1 || eqb u 6) _ _ (neither u 1 6 a c) (by_test own (eqb u 4 || eqb u 7) _ _ (neither u 4 7 b d) (inr refl)))))

pub own_message : (t : Time) (u : ℕ) → (u ≡ 0 → ⊥) → (u ≡ 5 → ⊥) → Whose messages unlisted (kind (bgp4mp t) u)
unfolding kind16
own_message t u a b =
    let own = Whose messages unlisted in
    rw (bgp_kind t u)
    (by_test own (eqb u 0) _ _ (failed u 0 a)
    (by_test own (eqb u 5) _ _ (failed u 5 b)
    (by_test own (eqb u 1 || eqb u 6) _ _ (λ e. inl refl) (by_test own (eqb u 4 || eqb u 7) _ _ (λ e. inl refl) (inr refl)))))

-- unread contents: not a Type that is read, nor one whose time is of the other sort
abbrev pub Apart : Time → (type : ℕ) → Type 0
Apart (Seconds s) y = (y ≡ 33 → ⊥) × (y ≡ 49 → ⊥)
Apart (Micro s u) y = (y ≡ 11 → ⊥) × (y ≡ 32 → ⊥) × (y ≡ 48 → ⊥)

three : {P : Type 0} (a n m k : ℕ) → (a ≡ n → ⊥) × (a ≡ m → ⊥) × (a ≡ k → ⊥) → eqb a n || eqb a m || eqb a k ≡ true → P
three a n m k h e = ⊎_elim (neither a n m h.0 h.1) (failed a k h.2) (either (eqb a n || eqb a m) (eqb a k) e)

module _ (t : Time) (y u : ℕ) (a : y ≡ 12 → ⊥) (b : y ≡ 13 → ⊥) (c : y ≡ 16 → ⊥) (d : y ≡ 17 → ⊥) where
  abbrev mine : Chosen → Type 0
  mine = Whose (unreads (micro_size t)) (refused 3 4)

  -- by the two tests of an unread Type
  by_unread : (eqb y 11 || eqb y 32 || eqb y 48 ≡ true → mine (Unread 0)) → (eqb y 33 || eqb y 49 ≡ true → mine (Unread 4)) → mine (kind y u)
  unfolding kind
  by_unread plain fine =
      by_test mine (eqb y 11 || eqb y 32 || eqb y 48) _ _ plain
      (by_test mine (eqb y 33 || eqb y 49) _ _ fine
      (by_test mine (eqb y 12) _ _ (failed y 12 a)
      (by_test mine (eqb y 13) _ _ (failed y 13 b) (by_test mine (eqb y 16) _ _ (failed y 16 c) (by_test mine (eqb y 17) _ _ (failed y 17 d) (inr refl))))))

pub own_unread : (t : Time) (y u : ℕ) → (y ≡ 12 → ⊥) → (y ≡ 13 → ⊥) → (y ≡ 16 → ⊥) → (y ≡ 17 → ⊥) → Apart t y → Whose (unreads (micro_size t)) (refused 3 4) (kind y u)
own_unread (Seconds s) y u a b c d z = by_unread (Seconds s) y u a b c d (λ e. inl refl) (neither y 33 49 z.0 z.1)
own_unread (Micro s m) y u a b c d z = by_unread (Micro s m) y u a b c d (three y 11 32 48 z) (λ e. inl refl)
