-- A loop over the items of a message: what is left to go through is what was there at first. Once for every item's format.
use mathlib.Core.Path.{◌≡◌, refl, sym, ap, ◌∙◌}
use mathlib.Core.List.{List}
use Prim.Native.Nat.{ℕ, zero, suc, ◌-◌, ◌≤◌, ◌<◌}
use native.Mathlib.Nat.{not-suc-le-zero}
use native.Mathlib.Omega.{arith}
use borrow.Author.Tests.{lt-ltb, le-ltb}
use lib.ListN.{length}
use Rattle.form_spec.specs.Fmt.{Fmt}
use Rattle.form_spec.specs.Pass.{Seen, pass, whole, times}
use Rattle.form_laws.proofs.Pass.{pass_then, pass-map}
use Rattle.octets_laws.proofs.Rules.{ends, picks, passes}

-- E is the answer for one item, S that for the whole; `onward` goes on behind an item that was read, and stops at a fault
module _ {E S : Type 0} (to : List Seen → ℕ → ℕ → E) (bad : ℕ → ℕ → E) (fault : ℕ → ℕ → S) (onward : E → (ℕ → S) → S)
    (Goes_to : (fs : List Seen) (a p : ℕ) (k : ℕ → S) → onward (to fs a p) k ≡ k a) (stops : (n p : ℕ) (k : ℕ → S) → onward (bad n p) k ≡ fault n p)
    (item : Fmt) (s : S) (m : List ℕ) where
  -- k items from `at` on and nothing behind them; then the answer is s
  abbrev pub goes : (k at : ℕ) → S
  goes k at = whole (λ fs. s) fault (times k item) m at

  more : (k at : ℕ) → 0 < k → goes k at ≡ onward (pass to bad item m at) (λ a. goes (k - 1) a)
  unfolding times
  more zero at h = absurd (not-suc-le-zero h)
  more (suc k) at h =
      let e : suc k - 1 ≡ k = omega arith in
      rw e (pass_then _ fault item (times k item) m at ∙ sym (pass-map (λ e. onward e (λ a. goes k a)) to bad item m at ∙ same k at))
    where
      same : (k at : ℕ) → pass (λ fs a p. onward (to fs a p) (λ a. goes k a)) (λ n p. onward (bad n p) (λ a. goes k a)) item m at ≡ pass (λ fs a p. goes k a) fault item m at
      same k at = simp (Goes_to, stops)

  -- behind an item that was read as x, which ends at a
  pub goes_on : (k at : ℕ) (r x : E) (a : ℕ) → r ≡ pass to bad item m at → r ≡ x → ((f : ℕ → S) → onward x f ≡ f a) → 0 < k → goes (k - 1) a ≡ goes k at
  goes_on k at r x a e g w h = sym (more k at h ∙ ap (λ (x : E). onward x (λ a. goes (k - 1) a)) (sym e ∙ g) ∙ w (λ a. goes (k - 1) a))

  pub stays : (k at : ℕ) (r : E) (n p : ℕ) → r ≡ pass to bad item m at → r ≡ bad n p → 0 < k → fault n p ≡ goes k at
  stays k at r n p e g h = sym (more k at h ∙ ap (λ (x : E). onward x (λ a. goes (k - 1) a)) (sym e ∙ g) ∙ stops n p (λ a. goes (k - 1) a))

  pub over : (k at : ℕ) → k ≡ 0 → at < length m → fault 6 at ≡ goes k at
  unfolding times
  over k at e h = rw e (ends _ fault m at (fault 6 at) (picks _ _ _ _ (lt-ltb _ _ h) refl))

  pub done : (k at : ℕ) → k ≡ 0 → length m ≤ at → s ≡ goes k at
  unfolding times
  done k at e h = rw e (ends _ fault m at s (passes _ _ _ _ (le-ltb _ _ h) refl))
