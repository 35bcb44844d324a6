-- Type and subtype say the sort of a good record, and whether it is a state change.
use mathlib.Core.Path.{◌≡◌, refl, sym, ◌∙◌}
use mathlib.Core.Bool.{Bool, true, false, ◌||◌, ◌&&◌, false≢true}
use mathlib.Core.Logic.{◌⊎◌, inl, inr, ⊎_elim}
use mathlib.Core.List.{List}
use Prim.Native.Nat.{ℕ, ◌≤◌, ◌<◌}
use native.Mathlib.Omega.{arith}
use native.Mathlib.Nat.{eq-or-lt_of_le}
use lib.Dec.{eqb}
use borrow.Author.Tests.{eqb-true, eq-eqb, ne_eqb}
use Rattle.form_spec.specs.Words.{choose, in_range}
use Rattle.page_spec.specs.Layout.{kind12, kind13, kind16, kind, finer}
use Rattle.page_spec.specs.Chosen.{Chosen}
use Rattle.record_spec.specs.Shown.{Shown}
use Rattle.page_laws.proofs.Choice.{by_test, either}
use Rattle.look_spec.specs.Sort.{Sort, unread, of_peer, table, rib, sort_by, is_table}
use Rattle.look_spec.specs.Field.{change_by}
use Rattle.look_laws.proofs.Good.{Marked, Facts}

module _ (m : List ℕ) (x : Shown) where
  marks12 : (u : ℕ) → Facts m (kind12 u) x → Marked of_peer true false x
  unfolding kind12
  marks12 u = by_test P (eqb u 1) _ _ (λ e f. f.1) (by_test P (eqb u 2) _ _ (λ e f. f.1) (λ f. absurd f))
    where
      P : Chosen → Type 0
      P k = Facts m k x → Marked of_peer true false x

  marks16 : (micro u : ℕ) → Facts m (kind16 micro u) x → Marked of_peer false (eqb u 0 || eqb u 5) x
  unfolding kind16
  marks16 micro u =
      by_test P (eqb u 0) _ _ (λ e f. is 0 e f.1)
      (by_test P (eqb u 5) _ _ (λ e f. is 5 e f.1)
      (by_test P (eqb u 1 || eqb u 6) _ _ (λ e f. ⊎_elim (λ z. is 1 z f.1) (λ z. is 6 z f.1) (either (eqb u 1) (eqb u 6) e))
      (by_test P (eqb u 4 || eqb u 7) _ _ (λ e f. ⊎_elim (λ z. is 4 z f.1) (λ z. is 7 z f.1) (either (eqb u 4) (eqb u 7) e)) (λ f. absurd f))))
    where
      P : Chosen → Type 0
      P k = Facts m k x → Marked of_peer false (eqb u 0 || eqb u 5) x

      is : (n : ℕ) → eqb u n ≡ true → Marked of_peer false (eqb n 0 || eqb n 5) x → Marked of_peer false (eqb u 0 || eqb u 5) x
      is n e h = rw (eqb-true u n e) h

  -- no subtype from 2 on is that of a peer table
  not_first : (lo u hi : ℕ) → in_range lo 1 hi ≡ false → in_range lo u hi ≡ true → eqb u 1 ≡ false
  not_first lo u hi n e = ne_eqb u 1 (λ z. false≢true (sym n ∙ (rw z at e)))

  marks13 : (u : ℕ) → Facts m (kind13 u) x → Marked (choose (eqb u 1) table rib) false false x
  unfolding kind13 choose in_range
  marks13 u =
      by_test P (eqb u 1) _ _ (λ e f. rw e f.1)
      (by_test P (in_range 2 u 3) _ _ (λ e f. rw (not_first 2 u 3 refl e) f.1)
      (by_test P (in_range 4 u 5) _ _ (λ e f. rw (not_first 4 u 5 refl e) f.1)
      (by_test P (eqb u 6) _ _ (λ e f. rw (eqb-true u 6 e) f.1) (λ f. absurd f))))
    where
      P : Chosen → Type 0
      P k = Facts m k x → Marked (choose (eqb u 1) table rib) false false x

  -- type 12, and the state changes of types 16 and 17, are told apart with the sort
  pub marks_say : (y u : ℕ) → Facts m (kind y u) x → Marked (sort_by y u) (eqb y 12) (change_by y u) x
  unfolding kind sort_by change_by choose
  marks_say y u =
      by_test P (eqb y 11 || eqb y 32 || eqb y 48) _ _
      (λ e f. ⊎_elim (λ z. ⊎_elim (λ t. of 11 t f.1) (λ t. of 32 t f.1) (either (eqb y 11) (eqb y 32) z)) (λ t. of 48 t f.1) (either (eqb y 11 || eqb y 32) (eqb y 48) e))
      (by_test P (eqb y 33 || eqb y 49) _ _ (λ e f. ⊎_elim (λ t. of 33 t f.1) (λ t. of 49 t f.1) (either (eqb y 33) (eqb y 49) e))
      (by_test P (eqb y 12) _ _ (λ e f. of 12 e (marks12 u f))
      (by_test P (eqb y 13) _ _ (λ e f. of 13 e (marks13 u f))
      (by_test P (eqb y 16) _ _ (λ e f. of 16 e (marks16 0 u f))
      (by_test P (eqb y 17) _ _ (λ e f. of 17 e (marks16 4 u f)) (λ f. absurd f))))))
    where
      P : Chosen → Type 0
      P k = Facts m k x → Marked (sort_by y u) (eqb y 12) (change_by y u) x

      of : (n : ℕ) → eqb y n ≡ true → Marked (sort_by n u) (eqb n 12) (change_by n u) x → Marked (sort_by y u) (eqb y 12) (change_by y u) x
      of n e h = rw (eqb-true y n e) h

-- ---- from type and subtype

pub sort_peer : (y u : ℕ) → (y ≡ 12) ⊎ ((y ≡ 16) ⊎ (y ≡ 17)) → sort_by y u ≡ of_peer
unfolding sort_by choose
sort_peer y u = ⊎_elim (λ (e : y ≡ 12). rw e) (⊎_elim (λ (e : y ≡ 16). rw e) (λ (e : y ≡ 17). rw e))

pub sort_first : (y u : ℕ) → y ≡ 13 → u ≡ 1 → sort_by y u ≡ table
unfolding sort_by choose
sort_first y u e f = rw (e, f)

pub sort_other : (y u : ℕ) → y ≡ 13 → (u ≡ 1 → ⊥) → sort_by y u ≡ rib
unfolding sort_by choose
sort_other y u e f = rw (e, ne_eqb u 1 f)

pub sort_unread : (y u : ℕ) → (y ≡ 12 → ⊥) → (y ≡ 13 → ⊥) → (y ≡ 16 → ⊥) → (y ≡ 17 → ⊥) → sort_by y u ≡ unread
unfolding sort_by choose
sort_unread y u a b c d = rw (ne_eqb y 12 a, ne_eqb y 13 b, ne_eqb y 16 c, ne_eqb y 17 d)

pub change_first : (y u : ℕ) → 16 ≤ y → y ≤ 17 → (u ≡ 0) ⊎ (u ≡ 5) → true ≡ change_by y u
unfolding change_by
change_first y u h g (inl e) = ⊎_elim (λ (z : 16 ≡ y). rw (← z, e)) (λ (z : 16 < y). let w : y ≡ 17 = omega arith in rw (w, e)) (eq-or-lt_of_le h)
change_first y u h g (inr e) = ⊎_elim (λ (z : 16 ≡ y). rw (← z, e)) (λ (z : 16 < y). let w : y ≡ 17 = omega arith in rw (w, e)) (eq-or-lt_of_le h)

pub change_other : (y u : ℕ) → (u ≡ 0 → ⊥) → (u ≡ 5 → ⊥) → false ≡ change_by y u
unfolding change_by
change_other y u a b = rw (ne_eqb u 0 a, ne_eqb u 5 b) (go (eqb y 16 || eqb y 17))
  where
    go : (t : Bool) → false ≡ t && false
    go true = refl
    go false = refl

pub no_change : (y u : ℕ) → (y ≡ 16 → ⊥) → (y ≡ 17 → ⊥) → false ≡ change_by y u
unfolding change_by
no_change y u a b = rw (ne_eqb y 16 a, ne_eqb y 17 b)

-- which types have microseconds
pub early : (y : ℕ) → (y ≡ 17 → ⊥) → (y ≡ 33 → ⊥) → (y ≡ 49 → ⊥) → finer y ≡ false
unfolding finer
early y a b c = rw (ne_eqb y 17 a, ne_eqb y 33 b, ne_eqb y 49 c)

pub late_17 : (y : ℕ) → y ≡ 17 → finer y ≡ true
unfolding finer
late_17 y e = rw e

pub late_unread : (y : ℕ) → (y ≡ 33) ⊎ (y ≡ 49) → finer y ≡ true
unfolding finer
late_unread y (inl e) = rw e
late_unread y (inr e) = rw e

-- ---- and back

-- a peer table is subtype 1 of type 13
pub table_first : (y u : ℕ) → y ≡ 13 → eqb u 1 ≡ is_table (sort_by y u)
unfolding sort_by choose
table_first y u e = rw e (go (eqb u 1))
  where
    go : (b : Bool) → b ≡ is_table (choose b table rib)
    go true = refl
    go false = refl

pub no_table : (y u : ℕ) → (y ≡ 13 → ⊥) → false ≡ is_table (sort_by y u)
unfolding sort_by choose
no_table y u h = rw (ne_eqb y 13 h) (go (eqb y 12 || eqb y 16 || eqb y 17))
  where
    go : (b : Bool) → false ≡ is_table (choose b of_peer unread)
    go true = refl
    go false = refl

pub is_table_lem : (y u : ℕ) → sort_by y u ≡ table → (y ≡ 13) × (u ≡ 1)
unfolding sort_by choose
is_table_lem y u = go (eqb y 12 || eqb y 16 || eqb y 17) (eqb y 13) refl (eqb u 1) refl
  where
    go : (a b : Bool) → eqb y 13 ≡ b → (c : Bool) → eqb u 1 ≡ c → choose a of_peer (choose b (choose c table rib) unread) ≡ table → (y ≡ 13) × (u ≡ 1)
    go false true e true f z = (eqb-true y 13 e, eqb-true u 1 f)
    go false true e false f z = absurd (false≢true cc)
    go false false e c f z = absurd (false≢true cc)
    go true b e c f z = absurd (false≢true cc)

-- a RIB record is of type 13 and another subtype
pub is_rib : (y u : ℕ) → sort_by y u ≡ rib → (y ≡ 13) × (u ≡ 1 → ⊥)
unfolding sort_by choose
is_rib y u = go (eqb y 12 || eqb y 16 || eqb y 17) (eqb y 13) refl (eqb u 1) refl
  where
    go : (a b : Bool) → eqb y 13 ≡ b → (c : Bool) → eqb u 1 ≡ c → choose a of_peer (choose b (choose c table rib) unread) ≡ rib → (y ≡ 13) × (u ≡ 1 → ⊥)
    go false true e false f z = (eqb-true y 13 e, λ h. false≢true (sym f ∙ eq-eqb u 1 h))
    go false true e true f z = absurd (false≢true cc)
    go false false e c f z = absurd (false≢true cc)
    go true b e c f z = absurd (false≢true cc)

pub table_sort : (s : Sort) → is_table s ≡ true → s ≡ table
table_sort unread e = absurd (false≢true e)
table_sort of_peer e = absurd (false≢true e)
table_sort table e = refl
table_sort rib e = absurd (false≢true e)
