-- A look for a number: what it passes, where it stops, and that it goes the same way when more numbers are put.
use mathlib.Core.Path.{◌≡◌, refl, sym, ap, ◌∙◌}
use mathlib.Core.Logic.{⊎_elim}
use mathlib.Core.List.{List}
use Prim.Native.Nat.{ℕ, zero, suc, ◌/◌, ◌≤◌, ◌<◌}
use native.Mathlib.Nat.{eq-or-lt_of_le}
use native.Mathlib.Omega.{arith}
use lib.ListN.{get_or}
use Rattle.std.proofs.lemmas.Bool.{cases_lt}
use Rattle.mutes_spec.specs.Slots.{slot_behind, bits_after, slot_after, GoesOn, Passes, Comes, SlotsHold}

-- ---- how far a look for n has come

module _ (ms slots : List ℕ) (n : ℕ) where
  -- it went on from each slot before
  passed : (t u : ℕ) → u < t → Passes t ms slots n → GoesOn ms slots n (slot_after u slots n)
  passed zero u h p = absurd (omega arith)
  passed (suc t) u h p = let b : u ≤ t = omega arith in ⊎_elim (λ e. rw e p.1) (λ l. passed t u l p.0) (eq-or-lt_of_le b)

  pub passes_fewer : (t u : ℕ) → u ≤ t → Passes t ms slots n → Passes u ms slots n
  passes_fewer zero zero h p = p
  passes_fewer zero (suc u) h p = absurd (omega arith)
  passes_fewer (suc t) u h p = ⊎_elim (λ e. rw e p) (λ l. passes_fewer t u (omega (arith, l)) p.0) (eq-or-lt_of_le h)

  -- it stops once
  one_stop : (t u : ℕ) → Passes t ms slots n → Passes u ms slots n
      → (GoesOn ms slots n (slot_after t slots n) → ⊥) → (GoesOn ms slots n (slot_after u slots n) → ⊥) → t ≡ u
  one_stop t u p q a b =
      ⊎_elim (λ h. absurd (a (passed u t h q))) (λ h. ⊎_elim (λ g. absurd (b (passed t u g p))) (λ g. omega (arith, h, g)) (cases_lt u t)) (cases_lt t u)

  pub stops_at_one : {s r : ℕ} → Comes ms slots n s → Comes ms slots n r → (GoesOn ms slots n s → ⊥) → (GoesOn ms slots n r → ⊥) → s ≡ r
  stops_at_one (t, p, e) (u, q, f) a b =
      sym e ∙ ap (λ (i : ℕ). slot_after i slots n) (one_stop t u p q (λ g. a (rw e at g)) (λ g. b (rw f at g))) ∙ f

-- ---- where what is in a slot stays there

abbrev pub Keeps : (slots more : List ℕ) → Type 0
Keeps slots more = (s : ℕ) → 0 < get_or slots s 0 → get_or more s 0 ≡ get_or slots s 0

-- looks go on as they did
look_kept : (t : ℕ) (ms slots more : List ℕ) (n : ℕ) → Keeps slots more → Passes t ms slots n → Passes t ms more n × (slot_after t more n ≡ slot_after t slots n)
look_kept zero ms slots more n k p = (p, refl)
look_kept (suc t) ms slots more n k p =
    let q = look_kept t ms slots more n k p.0 in
    let e = k (slot_after t slots n) p.1.0 in
    ((q.0, rw (q.1, e) p.1), rw (q.1, e))

pub comes-kept : {ms slots more : List ℕ} {n s : ℕ} → Keeps slots more → Comes ms slots n s → Comes ms more n s
comes-kept {ms} {slots} {more} {n} k (t, p, e) = let q = look_kept t ms slots more n k p in (t, q.0, q.1 ∙ e)

-- ---- a look as a loop has it: come to the slot s, with these bits left

pub record Coming (ms slots : List ℕ) (n s bits : ℕ) : Type 0 where
  pub is_slot : s < 196608
  pub turns : ℕ
  pub went_on : Passes turns ms slots n
  pub slot_is : slot_after turns slots n ≡ s
  pub bits_are : bits_after turns n ≡ bits

abbrev pub look_on : {ms slots : List ℕ} {k n s bits : ℕ} → SlotsHold ms slots k → Coming ms slots n s bits → GoesOn ms slots n s
    → Coming ms slots n (slot_behind (get_or slots s 0) bits) (bits / 2)
look_on {s = s} h c g = record {
  is_slot = omega (arith, h.places s, h.few);
  turns = suc c.turns;
  went_on = (c.went_on, rw c.slot_is g);
  slot_is = rw (c.slot_is, c.bits_are);
  bits_are = rw c.bits_are;
}
