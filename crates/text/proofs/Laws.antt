-- Text, an octet and a sequence at a time.
use mathlib.Core.Path.{◌≡◌, refl, sym, ◌∙◌}
use mathlib.Core.Bool.{Bool, true, false, cond, false≢true}
use mathlib.Core.List.{List, [], ◌∷◌}
use mathlib.Core.Logic.{inl}
use Prim.Native.Nat.{ℕ, suc, ◌+◌, ◌≤◌, ◌<◌}
use native.Mathlib.Omega.{arith}
use borrow.Author.Tests.{le-leb, lt-leb}
use lib.Dec.{eqb, leb}
use lib.ListN.{length, drop, get_or, drop_of_length-le}
use lib.Seq.{drop-cons}
use Rattle.std.specs.Prelude.{Option, Some, None}
use Rattle.form_spec.specs.Words.{choose, in_range}
use Rattle.text_spec.specs.Check.{ones, start_of, started, goes_on, is_text}
use Rattle.text_spec.specs.declared.Start.{Start}
use Rattle.text_laws.proofs.Behind.{idle}
use Rattle.text_laws.proofs.Sequence.{form_over}
use Rattle.text.specs.Over.{Over, Ends}

-- ---- what a first octet tells

-- no sequence has more than three behind its first
abbrev Few : Option Start → Type 0
Few (Some s) = s.more ≤ 3
Few None = Unit

few_choose : (b : Bool) (s t : Option Start) → Few s → Few t → Few (choose b s t)
unfolding choose
few_choose true s t f g = f
few_choose false s t f g = g

few : (x : ℕ) → Few (start_of x)
unfolding start_of
few x =
    few_choose (eqb (ones x) 0) _ _ (omega arith)
    (few_choose (eqb (ones x) 2) _ _ (few_choose (leb 194 x) _ _ (omega arith) tt)
    (few_choose (eqb (ones x) 3) _ _ (omega arith)
    (few_choose (eqb (ones x) 4) _ _ (few_choose (leb x 244) _ _ (omega arith) tt) tt)))

pub at_most_three : (x : ℕ) (s : Start) → Some s ≡ start_of x → s.more ≤ 3
at_most_three x s e = rw (sym e) at (few x)

-- ---- octets that belong to a sequence

module _ (m : List ℕ) (at low high : ℕ) where
  -- the next octet, where it is there
  next : at < length m → (k : ℕ) → goes_on (drop at m) (1 + k) low high ≡ cond (in_range low (get_or m at 0) high) (goes_on (drop (at + 1) m) k 128 191) false
  unfolding goes_on
  next h k =
      let z : at + 1 ≡ suc at = omega arith in
      let s : 1 + k ≡ suc k = omega arith in
      rw (z, s, drop-cons m at 0 h)

  pub not_there : length m ≤ at → Over m at 1 low high false
  unfolding goes_on
  not_there h =
      let s : (k : ℕ) → 1 + k ≡ suc k = λ k. omega arith in
      record { yes = λ e. absurd (false≢true e); no = λ e k. rw (s k, drop_of_length-le m h) }

  there : at < length m → (r : Bool) → r ≡ in_range low (get_or m at 0) high → Over m at 1 low high r
  there h r e = record { yes = λ t. (omega arith, λ k. next h k ∙ rw (sym e ∙ t)); no = λ f k. next h k ∙ rw (sym e ∙ f) }

  pub too_low : at < length m → get_or m at 0 < low → Over m at 1 low high (leb low (get_or m at 0))
  unfolding in_range
  too_low h p = there h (leb low (get_or m at 0)) (rw (lt-leb low (get_or m at 0) p))

  pub up_to : at < length m → low ≤ get_or m at 0 → Over m at 1 low high (leb (get_or m at 0) high)
  unfolding in_range
  up_to h p = there h (leb (get_or m at 0) high) (rw (le-leb low (get_or m at 0) p))

  -- one, and so many behind it
  pub one_and : (n : ℕ) (s r : Bool) → Over m at 1 low high s → s ≡ true → Over m (at + 1) n 128 191 r → Over m at (1 + n) low high r
  one_and n s r f t g =
      let z : at + 1 + n ≡ at + (1 + n) = omega arith in
      let a : (k : ℕ) → 1 + n + k ≡ 1 + (n + k) = λ k. omega arith in
      record {
        yes = λ e. let w = g.yes e in (omega (arith, w.0), λ k. rw (a k) ((f.yes t).1 (n + k) ∙ rw z at (w.1 k)));
        no = λ e k. rw (a k) ((f.yes t).1 (n + k) ∙ g.no e k);
      }

  -- not even one
  pub not_one : (n : ℕ) (s : Bool) → Over m at 1 low high s → s ≡ false → Over m at (1 + n) low high s
  not_one n s f t =
      let a : (k : ℕ) → 1 + n + k ≡ 1 + (n + k) = λ k. omega arith in
      record { yes = λ e. absurd (false≢true (sym t ∙ e)); no = λ e k. rw (a k) (f.no t (n + k)) }

-- ---- a sequence

module _ (m : List ℕ) (at : ℕ) (here : at < length m) where
  starts : is_text (drop at m) ≡ started (goes_on (drop (at + 1) m)) (start_of (get_or m at 0))
  unfolding goes_on
  starts = let z : at + 1 ≡ suc at = omega arith in rw (z, drop-cons m at 0 here)

  pub no_start : (r : Option ℕ) → None ≡ start_of (get_or m at 0) → r ≡ None → Ends m at r
  no_start r e d = rw d (rw (sym e) at starts)

  module _ (s : Start) (told : Some s ≡ start_of (get_or m at 0)) where
    goes : is_text (drop at m) ≡ goes_on (drop (at + 1) m) s.more s.low s.high
    goes = rw (sym told) at starts

    -- one octet
    pub alone : s.more ≡ 0 → Ends m at (Some (at + 1))
    alone e = (omega arith, omega arith, goes ∙ rw e (idle (drop (at + 1) m) s.low s.high))

    -- or more
    pub more_belong : (b : Bool) → Over m (at + 1) s.more s.low s.high b → b ≡ true → Ends m at (Some (at + 1 + s.more))
    more_belong b f t =
        let w = f.yes t in
        let z : s.more + 0 ≡ s.more = omega arith in
        (omega arith, w.0, goes ∙ rw z at (w.1 0))

    pub more_lack : (b : Bool) → Over m (at + 1) s.more s.low s.high b → b ≡ false → Ends m at None
    more_lack b f t = let z : s.more + 0 ≡ s.more = omega arith in goes ∙ rw z at (f.no t 0)

-- ---- all of them

-- octets of 7 bits are a sequence each
pub plain : (m : List ℕ) → ((k : ℕ) → k < length m → get_or m k 0 ≤ 127) → is_text m ≡ true
unfolding goes_on
plain [] f = refl
plain (x ∷ m) f = form_over (x ∷ []) m (inl (omega (arith, f 0 (omega arith)))) ∙ plain m (λ k h. f (suc k) (omega arith))

-- nothing is left
pub all_over : (m : List ℕ) (at : ℕ) → length m ≤ at → is_text (drop at m) ≡ true
unfolding goes_on
all_over m at h = rw (drop_of_length-le m h)
