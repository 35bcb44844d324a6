-- A look ends within 17 turns, whatever the list: numbers in slots that it passes agree with it in one bit more each time. So a
-- loop that looks has a measure of 17 at most.
use mathlib.Core.Path.{◌≡◌, refl, sym, subst, ap, ◌∙◌}
use mathlib.Core.Bool.{Bool, true, false, cond, not, ◌&&◌}
use mathlib.Core.Logic.{◌⊎◌, inl, inr, ⊎_elim}
use mathlib.Core.List.{List}
use Prim.Native.Nat.{ℕ, zero, suc, ◌+◌, ◌/◌, ◌%◌, ◌≤◌, ◌<◌}
use native.Mathlib.Omega.{arith}
use lib.ListN.{get_or}
use Rattle.std.proofs.lemmas.Bool.{cases_lt}
use lib.Dec.{ltb, eqb}
use borrow.Author.Tests.{lt-ltb, ltb-true, ne_eqb, eqb-false}
use Rattle.mutes_spec.specs.Slots.{at_place, slot_behind, bits_after, slot_after, GoesOn, Passes, SlotsHold}
use Rattle.mutes.specs.LookEnds.{LookEnds}
use Rattle.mutes.proofs.Look.{passes_fewer, stops_at_one, Coming, look_on}

-- alike in the last 16 bits, and in so many more
abbrev Alike : (bits n m : ℕ) → Type 0
Alike zero n m = n % 65536 ≡ m % 65536
Alike (suc t) n m = Alike t n m × (bits_after t n % 2 ≡ bits_after t m % 2)

-- alike in some bits and in all others
alike_whole : (t n m : ℕ) → Alike t n m → bits_after t n ≡ bits_after t m → n ≡ m
alike_whole zero n m a e = omega arith
alike_whole (suc t) n m a e = alike_whole t n m a.0 (omega (arith, a.1))

no_bits_left : (n : ℕ) → n < 4294967296 → bits_after 16 n ≡ 0
no_bits_left n h = omega arith

alike_same : (n m : ℕ) → n < 4294967296 → m < 4294967296 → Alike 16 n m → n ≡ m
alike_same n m h g a = alike_whole 16 n m a (no_bits_left n h ∙ sym (no_bits_left m g))

-- ---- the turns that a look makes yet which has come to s with these bits left, as far as `most`

abbrev goes_on : (ms slots : List ℕ) (n s : ℕ) → Bool
goes_on ms slots n s = ltb 0 (get_or slots s 0) && not (eqb n (at_place ms (get_or slots s 0)))

abbrev pub turns_left : (most : ℕ) (ms slots : List ℕ) (n s bits : ℕ) → ℕ
turns_left zero ms slots n s bits = 0
turns_left (suc t) ms slots n s bits = cond (goes_on ms slots n s) (suc (turns_left t ms slots n (slot_behind (get_or slots s 0) bits) (bits / 2))) 0

module _ (ms slots : List ℕ) (n s : ℕ) where
  goes : GoesOn ms slots n s → goes_on ms slots n s ≡ true
  goes g = rw (lt-ltb 0 (get_or slots s 0) g.0, ne_eqb n (at_place ms (get_or slots s 0)) g.1)

  goes_or_stops : GoesOn ms slots n s ⊎ (goes_on ms slots n s ≡ false)
  goes_or_stops = go (ltb 0 (get_or slots s 0)) (eqb n (at_place ms (get_or slots s 0))) (ltb-true 0 (get_or slots s 0)) (eqb-false n (at_place ms (get_or slots s 0)))
    where
      go : (t u : Bool) → (t ≡ true → 0 < get_or slots s 0) → (u ≡ false → n ≡ at_place ms (get_or slots s 0) → ⊥) → GoesOn ms slots n s ⊎ ((t && not u) ≡ false)
      go true false a b = inl (a refl, b refl)
      go true true a b = inr refl
      go false u a b = inr refl

module _ {ms slots : List ℕ} {k : ℕ} (h : SlotsHold ms slots k) where
  -- a place is in one slot
  one_slot : (s r : ℕ) → 0 < get_or slots s 0 → get_or slots s 0 ≡ get_or slots r 0 → s ≡ r
  one_slot s r f e =
      let n = at_place ms (get_or slots s 0) in
      let g : 0 < get_or slots r 0 = omega arith in
      stops_at_one ms slots n (h.in_place s f) (rw e (h.in_place r g)) (λ g. g.1 refl) (λ g. g.1 (ap (at_place ms) e))

  -- two looks that come to one slot made as many turns, by the same bits
  one_way : (t u n m : ℕ) → Passes t ms slots n → Passes u ms slots m → slot_after t slots n ≡ slot_after u slots m → (t ≡ u) × Alike t n m
  one_way zero zero n m p q e = (refl, e)
  one_way zero (suc u) n m p q e = absurd (omega arith)
  one_way (suc t) zero n m p q e = absurd (omega arith)
  one_way (suc t) (suc u) n m p q e =
      let w = one_way t u n m p.0 q.0 (one_slot _ _ p.1.0 (omega arith)) in
      let b : bits_after t n % 2 ≡ bits_after u m % 2 = omega arith in
      (ap suc w.0, (w.1, b ∙ ap (λ (i : ℕ). bits_after i m % 2) (sym w.0)))

  -- a number that a look meets is met by as many turns, and is alike to what is looked for
  met : (t n : ℕ) → Passes t ms slots n → let s = slot_after t slots n in 0 < get_or slots s 0 → let m = at_place ms (get_or slots s 0) in
      Passes t ms slots m × Alike t n m
  met t n p f =
      let s = slot_after t slots n in
      let m = at_place ms (get_or slots s 0) in
      let o = h.in_place s f in
      let w = one_way t o.0 n m p o.1 (sym o.2) in
      (subst (λ (u : ℕ). Passes u ms slots m) (sym w.0) o.1, w.1)

  -- a number that is met by 17 turns would be alike in 32 bits to the one before it on its way
  not_met : (n : ℕ) → Passes 18 ms slots n → ⊥
  not_met n p =
      let q = (met 17 n p.0 p.1.0).0 in
      q.1.1 (alike_same _ _ (h.of32_bits _) (h.of32_bits _) (met 16 _ q.0 q.1.0).1)

  within_17 : (t n : ℕ) → Passes t ms slots n → t ≤ 17
  within_17 t n p = ⊎_elim (λ l. absurd (not_met n (passes_fewer ms slots n t 18 l p))) (λ h. h) (cases_lt 17 t)

  -- behind the 17th turn there is nothing to be counted
  same_left : (m : ℕ) {n s bits : ℕ} (c : Coming ms slots n s bits) → 17 ≤ c.turns + m → turns_left (suc m) ms slots n s bits ≡ turns_left m ms slots n s bits
  same_left zero {n} {s} c l =
      ⊎_elim (λ g. let w = within_17 (suc c.turns) n (look_on h c g).went_on in absurd (omega (arith, w, l)))
      (λ e. let stops : goes_on ms slots n s ≡ false = e in rw stops) (goes_or_stops ms slots n s)
  same_left (suc m) {n} {s} c l =
      ⊎_elim (λ g. rw (goes ms slots n s g) (ap suc (same_left m (look_on h c g) (omega (arith, l)))))
      (λ e. let stops : goes_on ms slots n s ≡ false = e in rw stops) (goes_or_stops ms slots n s)

  -- one turn less
  pub turn_less : {n s bits : ℕ} → Coming ms slots n s bits → GoesOn ms slots n s
      → turns_left 17 ms slots n (slot_behind (get_or slots s 0) bits) (bits / 2) < turns_left 17 ms slots n s bits
  turn_less {n} {s} c g = let e = same_left 16 (look_on h c g) (omega arith) in rw (goes ms slots n s g) (omega (arith, e))

  pub look_ends : {n s bits : ℕ} → Coming ms slots n s bits → (0 < get_or slots s 0 → n ≡ at_place ms (get_or slots s 0)) → LookEnds ms slots n s
  look_ends {n} c f =
      record { is_slot = c.is_slot; turns = c.turns; soon = within_17 c.turns n c.went_on; passes = c.went_on; here = c.slot_is; has = f }
