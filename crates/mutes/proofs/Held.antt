-- The slots as they are filled, number by number, and who is on the list then.
use mathlib.Core.Path.{◌≡◌, refl, subst, subst⁻¹, ap, ◌∙◌}
use mathlib.Core.Bool.{Bool, true, false≢true, ◌||◌}
use mathlib.Core.Logic.{⊎_elim}
use mathlib.Core.List.{List}
use Prim.Native.Nat.{ℕ, ◌+◌, ◌≤◌, ◌<◌}
use native.Mathlib.Omega.{arith}
use lib.ListN.{length, take, drop, get_or, set, length-set, length-replicate, get_or-replicate, get_or-eq_default}
use lib.Seq.{get_or-set_same, get_or-set_other}
use Rattle.std.proofs.lemmas.Bool.{cases_Bool, cases_lt, cases_eq}
use Rattle.cut_spec.specs.Cut.{mem}
use Rattle.mutes_spec.specs.Slots.{at_place, Comes, Has, empty_slots, SlotsHold}
use Rattle.mutes.specs.LookEnds.{LookEnds}
use Rattle.mutes.proofs.Members.{mem-parts, mem_at, mem-next}
use Rattle.mutes.proofs.Look.{stops_at_one, Keeps, comes-kept}

empty_long : length empty_slots ≡ 196608
empty_long = length-replicate {A = ℕ} 196608 0

slot_empty : (s : ℕ) → get_or empty_slots s 0 ≡ 0
slot_empty s =
    ⊎_elim (λ l. get_or-replicate 196608 s 0 0 l) (λ h. get_or-eq_default empty_slots 0 {n = s} (omega (arith, h, empty_long))) (cases_lt s 196608)

-- empty slots hold nothing of any list
pub holds_none : (ms slots : List ℕ) → ((i : ℕ) → get_or ms i 0 < 4294967296) → slots ≡ empty_slots → SlotsHold ms slots 0
holds_none ms slots numbers e = rw e (record {
  all_slots = empty_long;
  few = omega arith;
  on_list = omega arith;
  of32_bits = numbers;
  places = λ s. omega (arith, slot_empty s);
  in_place = λ s h. absurd (omega (arith, slot_empty s, h));
  all_held = λ n m. absurd (false≢true m);
})

module _ {ms slots : List ℕ} {k : ℕ} (h : SlotsHold ms slots k) where
  comes : {n e : ℕ} → LookEnds ms slots n e → Comes ms slots n e
  comes ends = (ends.turns, ends.passes, ends.here)

  -- ---- one number more, the next of the list

  module _ (more : k < length ms) (few : k < 65535) {e : ℕ} (ends : LookEnds ms slots (get_or ms k 0) e) where
    -- what was there is there, and so is the next
    all_there : (slots' : List ℕ) → Keeps slots slots' → Has ms slots' (get_or ms k 0) e → (n : ℕ) → mem n (take (k + 1) ms) ≡ true → (s : ℕ) × Has ms slots' n s
    all_there slots' keeps has n m =
        ⊎_elim (λ t. let q = h.all_held n t in (q.0, rw (keeps q.0 q.1.0) q.1))
        (λ z. (e, (has.0, z ∙ has.1))) (mem-next n k ms more m)

    -- it was there before
    pub holds_repeat : 0 < get_or slots e 0 → SlotsHold ms slots (k + 1)
    holds_repeat t = record {
      all_slots = h.all_slots;
      few = omega arith;
      on_list = omega arith;
      of32_bits = h.of32_bits;
      places = λ s. omega (arith, h.places s);
      in_place = h.in_place;
      all_held = all_there slots (λ s z. refl) (t, ends.has t);
    }

    -- it is put there now: e has it, and the other slots are as they were
    module _ (z : get_or slots e 0 ≡ 0) where
      at_end : get_or (set slots e (k + 1)) e 0 ≡ k + 1
      at_end = get_or-set_same slots e (k + 1) 0 (omega (arith, ends.is_slot, h.all_slots))

      elsewhere : (s : ℕ) → (s ≡ e → ⊥) → get_or (set slots e (k + 1)) s 0 ≡ get_or slots s 0
      elsewhere s = get_or-set_other slots e s (k + 1) 0

      -- what holds of e and of each other slot holds of all
      each : (P : ℕ → Type 0) → P e → ((s : ℕ) → (s ≡ e → ⊥) → P s) → (s : ℕ) → P s
      each P p f s = ⊎_elim (λ t. rw t p) (f s) (cases_eq s e)

      named : get_or ms k 0 ≡ at_place ms (get_or (set slots e (k + 1)) e 0)
      named = ap (λ (i : ℕ). get_or ms i 0) (omega (arith, at_end))

      keeps : Keeps slots (set slots e (k + 1))
      keeps s t = elsewhere s (λ q. omega (arith, z, t, ap (λ (j : ℕ). get_or slots j 0) q))

      pub holds-next : SlotsHold ms (set slots e (k + 1)) (k + 1)
      holds-next = record {
        all_slots = length-set slots e (k + 1) ∙ h.all_slots;
        few = omega arith;
        on_list = omega arith;
        of32_bits = h.of32_bits;
        places = each (λ s. get_or (set slots e (k + 1)) s 0 ≤ k + 1) (omega (arith, at_end)) (λ s q. omega (arith, elsewhere s q, h.places s));
        in_place = each (λ s. 0 < get_or (set slots e (k + 1)) s 0 → Comes ms (set slots e (k + 1)) (at_place ms (get_or (set slots e (k + 1)) s 0)) s)
            (λ t. subst (λ (n : ℕ). Comes ms (set slots e (k + 1)) n e) named (comes-kept keeps (comes ends)))
            (λ s q t. subst⁻¹ (λ (p : ℕ). Comes ms (set slots e (k + 1)) (at_place ms p) s) (elsewhere s q) (comes-kept keeps (h.in_place s (omega (arith, elsewhere s q, t)))));
        all_held = all_there (set slots e (k + 1)) keeps (omega (arith, at_end), named);
      }

  -- ---- who is on the list

  pub is_listed : {n e : ℕ} → LookEnds ms slots n e → 0 < get_or slots e 0 → mem n ms ≡ true
  is_listed {n} {e} ends t = mem_at n ms _ (omega (arith, h.places e, h.on_list)) (ends.has t)

  -- a number that is held is found where it stands, and not at an empty slot
  not_among_held : {n e : ℕ} → LookEnds ms slots n e → get_or slots e 0 ≡ 0 → (s : ℕ) → Has ms slots n s → ⊥
  not_among_held {n} {e} ends z s has =
      let c = subst⁻¹ (λ (m : ℕ). Comes ms slots m s) has.1 (h.in_place s has.0) in
      let q = stops_at_one ms slots n (comes ends) c (λ g. omega (arith, g.0, z)) (λ g. g.1 has.1) in
      omega (arith, has.0, z, ap (λ (j : ℕ). get_or slots j 0) q)

  pub not_held : {n e : ℕ} → LookEnds ms slots n e → get_or slots e 0 ≡ 0 → mem n ms ≡ mem n (drop k ms)
  not_held {n} ends z =
      mem-parts n k ms ∙ ⊎_elim (λ t. let q = h.all_held n t in absurd (not_among_held ends z q.0 q.1)) (λ f. ap (λ (b : Bool). b || mem n (drop k ms)) f) (cases_Bool (mem n (take k ms)))
