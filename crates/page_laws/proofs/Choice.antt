-- What the kind of a record says of its type and subtype.
use mathlib.Core.Path.{◌≡◌, refl}
use mathlib.Core.Bool.{Bool, true, false, ◌||◌}
use mathlib.Core.Logic.{◌⊎◌, inl, inr, ⊎_elim}
use Prim.Native.Nat.{ℕ, ◌≤◌, ◌<◌}
use native.Mathlib.Omega.{arith}
use lib.Dec.{eqb}
use borrow.Author.Tests.{eqb-true}
use Rattle.form_spec.specs.Words.{choose, in_range}
use Rattle.page_spec.specs.Layout.{kind12, kind13, kind16, kind, finer}
use Rattle.page_spec.specs.Chosen.{Chosen, Unread, TableDump, PeerTable, Rib, RibGeneric, Change, Message}
use Rattle.std.specs.Prelude.{Err}

-- type 16, or type 17 behind microseconds
abbrev pub Bgp : (type micro : ℕ) → Type 0
Bgp y micro = ((y ≡ 16) × (micro ≡ 0)) ⊎ ((y ≡ 17) × (micro ≡ 4))

abbrev pub Says : (type sub : ℕ) → Chosen → Type 0
Says y u (Err why) = (0 < why.number) × (why.place ≤ 12)
Says y u (Unread micro) = ((finer y ≡ false) × (micro ≡ 0)) ⊎ ((finer y ≡ true) × (micro ≡ 4))
Says y u (TableDump size) = y ≡ 12
Says y u PeerTable = (y ≡ 13) × (u ≡ 1)
Says y u (Rib bits) = y ≡ 13
Says y u RibGeneric = (y ≡ 13) × (u ≡ 6)
Says y u (Change micro w) = Bgp y micro
Says y u (Message micro w) = Bgp y micro

-- by the tests, one after another
pub by_test : (P : Chosen → Type 0) (b : Bool) (k j : Chosen) → (b ≡ true → P k) → P j → P (choose b k j)
unfolding choose
by_test P true k j h g = h refl
by_test P false k j h g = g

pub either : (a b : Bool) → a || b ≡ true → (a ≡ true) ⊎ (b ≡ true)
either true b e = inl refl
either false b e = inr e

says12 : (y u : ℕ) → y ≡ 12 → Says y u (kind12 u)
unfolding kind12
says12 y u e = by_test (Says y u) (eqb u 1) _ _ (λ t. e) (by_test (Says y u) (eqb u 2) _ _ (λ t. e) (omega arith, omega arith))

says13 : (y u : ℕ) → y ≡ 13 → Says y u (kind13 u)
unfolding kind13
says13 y u e =
    by_test (Says y u) (eqb u 1) _ _ (λ t. (e, eqb-true u 1 t))
    (by_test (Says y u) (in_range 2 u 3) _ _ (λ t. e)
    (by_test (Says y u) (in_range 4 u 5) _ _ (λ t. e)
    (by_test (Says y u) (eqb u 6) _ _ (λ t. (e, eqb-true u 6 t)) (omega arith, omega arith))))

says16 : (y u micro : ℕ) → Bgp y micro → Says y u (kind16 micro u)
unfolding kind16
says16 y u micro h =
    by_test (Says y u) (eqb u 0) _ _ (λ t. h)
    (by_test (Says y u) (eqb u 5) _ _ (λ t. h)
    (by_test (Says y u) (eqb u 1 || eqb u 6) _ _ (λ t. h)
    (by_test (Says y u) (eqb u 4 || eqb u 7) _ _ (λ t. h) (omega arith, omega arith))))

coarse : (y n : ℕ) → finer n ≡ false → eqb y n ≡ true → finer y ≡ false
coarse y n h t = rw (eqb-true y n t) h

fine : (y n : ℕ) → finer n ≡ true → eqb y n ≡ true → finer y ≡ true
fine y n h t = rw (eqb-true y n t) h

pub kind_says : (y u : ℕ) → Says y u (kind y u)
unfolding kind finer
kind_says y u =
    by_test (Says y u) (eqb y 11 || eqb y 32 || eqb y 48) _ _
    (λ t. inl (⊎_elim (λ a. ⊎_elim (coarse y 11 refl) (coarse y 32 refl) (either (eqb y 11) (eqb y 32) a)) (coarse y 48 refl) (either (eqb y 11 || eqb y 32) (eqb y 48) t), refl))
    (by_test (Says y u) (eqb y 33 || eqb y 49) _ _ (λ t. inr (⊎_elim (fine y 33 refl) (fine y 49 refl) (either (eqb y 33) (eqb y 49) t), refl))
    (by_test (Says y u) (eqb y 12) _ _ (λ t. says12 y u (eqb-true y 12 t))
    (by_test (Says y u) (eqb y 13) _ _ (λ t. says13 y u (eqb-true y 13 t))
    (by_test (Says y u) (eqb y 16) _ _ (λ t. says16 y u 0 (inl (eqb-true y 16 t, refl)))
    (by_test (Says y u) (eqb y 17) _ _ (λ t. says16 y u 4 (inr (eqb-true y 17 t, refl)))
    (omega arith, omega arith))))))
