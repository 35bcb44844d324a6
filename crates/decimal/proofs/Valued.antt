-- Reading a number, a digit at a time.
use mathlib.Core.Path.{◌≡◌, refl, sym, ap, ◌∙◌}
use mathlib.Core.Bool.{true, false, cond}
use mathlib.Core.List.{List, [], ◌∷◌}
use Prim.Native.Nat.{ℕ, ◌+◌, ◌-◌, ◌*◌, ◌≤◌, ◌<◌}
use native.Mathlib.Omega.{arith}
use native.Mathlib.Numerals.{add-one}
use lib.ListN.{length, drop, get_or, drop_of_length-le}
use lib.Seq.{drop-cons}
use borrow.Author.Tests.{le-leb, lt-leb}
use Rattle.form_spec.specs.Words.{choose}
use Rattle.decimal_spec.specs.Decimal.{digit}
use Rattle.decimal_spec.specs.Reading.{is_digit, run, value_from, value, canonical, valued, decimal_at}
use Rattle.std.specs.Prelude.{Option, Some, None, is_some}
use Rattle.decimal_laws.proofs.Reading.{is_digit_lem, value_grows, canonical_first}
use Rattle.decimal.specs.Digit.{DigitAt}

-- ---- one digit

module _ (s : List ℕ) (at : ℕ) where
  pub past_end : (r : Option ℕ) → length s ≤ at → r ≡ None → DigitAt s at r
  unfolding run
  past_end r h e = rw (e, drop_of_length-le s h)

  here : at < length s → run (drop at s) ≡ cond (is_digit (get_or s at 0)) (get_or s at 0 ∷ run (drop (at + 1) s)) []
  unfolding run
  here h = rw (add-one, drop-cons s at 0 h)

  pub no_digit : at < length s → is_digit (get_or s at 0) ≡ false → DigitAt s at None
  no_digit h e = here h ∙ rw e

  pub a_digit : (d : ℕ) → at < length s → get_or s at 0 ≡ digit d → d < 10 → DigitAt s at (Some d)
  a_digit d h e l = (l, h, here h ∙ rw (e, is_digit_lem (digit d) (omega arith) (omega arith)))

-- ---- the loop

-- at offset i, behind digits that spell v
pub record Spelling (most : ℕ) (s : List ℕ) (at i v : ℕ) : Type 0 where
  pub small : v ≤ most
  pub same : value_from v (run (drop i s)) ≡ value (run (drop at s))
  pub ends : i + length (run (drop i s)) ≡ at + length (run (drop at s))

pub starts : (most : ℕ) (s : List ℕ) (at : ℕ) → Spelling most s at at 0
starts most s at = record { small = omega arith; same = refl; ends = refl }

module _ (most : ℕ) (s : List ℕ) (at i v : ℕ) (a : Spelling most s at i v) where
  pub done : run (drop i s) ≡ [] → Some (v, i) ≡ valued most at (run (drop at s))
  unfolding valued choose value_from
  done e =
      let w : v ≡ value (run (drop at s)) = rw e at a.same in
      let n : i ≡ at + length (run (drop at s)) = omega (arith, rw e at a.ends) in
      rw (← w, le-leb v most a.small, ← n)

  module _ (d : ℕ) (e : run (drop i s) ≡ digit d ∷ run (drop (i + 1) s)) where
    next : value_from (v * 10 + d) (run (drop (i + 1) s)) ≡ value (run (drop at s))
    unfolding value_from
    next =
        let z : d ≡ digit d - 48 = omega arith in
        ap (λ (x : ℕ). value_from (v * 10 + x) (run (drop (i + 1) s))) z ∙ ap (value_from v) (sym e) ∙ a.same

    pub turn : (w : ℕ) → w ≡ v * 10 + d → w ≤ most → Spelling most s at (i + 1) w
    turn w q h = rw q (record { small = omega arith; same = next; ends = omega (arith, rw e at a.ends) })

    pub too_large : most < v * 10 + d → None ≡ valued most at (run (drop at s))
    unfolding valued choose
    too_large h =
        let g = value_grows (v * 10 + d) (run (drop (i + 1) s)) in
        rw (lt-leb (value (run (drop at s))) most (omega (arith, next)))

-- ---- what the first digits say

module _ (most : ℕ) (s : List ℕ) (at : ℕ) where
  pub number_none : run (drop at s) ≡ [] → None ≡ decimal_at most s at
  unfolding decimal_at choose canonical
  number_none e = rw e

  pub number_leads : (d : ℕ) (ds : List ℕ) → run (drop at s) ≡ digit d ∷ ds → 0 < d → valued most at (run (drop at s)) ≡ decimal_at most s at
  unfolding decimal_at choose
  number_leads d ds e h = let c : canonical (run (drop at s)) ≡ true = rw e (canonical_first (digit d) ds (omega arith)) in rw c

  -- a digit by itself, and a zero in front of another
  module _ (d : ℕ) (first : run (drop at s) ≡ digit d ∷ run (drop (at + 1) s)) where
    pub number_alone : (r : Option ℕ) → DigitAt s (at + 1) r → false ≡ is_some r → valued most at (run (drop at s)) ≡ decimal_at most s at
    unfolding decimal_at choose canonical
    number_alone (Some e) f q = let z : ◌≡◌ {A = ℕ} 0 1 = cc in absurd (omega arith)
    number_alone None f q = let c : canonical (run (drop at s)) ≡ true = rw (first, f) in rw c

    pub number_zeros : (r : Option ℕ) → DigitAt s (at + 1) r → true ≡ is_some r → d ≡ 0 → None ≡ decimal_at most s at
    unfolding decimal_at choose canonical
    number_zeros (Some e) f q z = rw (first, f.2, z)
    number_zeros None f q z = let y : ◌≡◌ {A = ℕ} 0 1 = cc in absurd (omega arith)
