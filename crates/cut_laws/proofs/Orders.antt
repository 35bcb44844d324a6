-- Orders for a cut in other words that mean the same: lists with the same members, and windows without a time in them.
use mathlib.Core.Path.{◌≡◌, refl, sym, ap, ◌∙◌, fun_ext}
use mathlib.Core.Bool.{Bool, true, false, ◌&&◌, ◌||◌}
use mathlib.Core.List.{List, ◌∷◌, ◌++◌}
use Prim.Native.Nat.{ℕ, min, max, ◌≤◌}
use native.Mathlib.Omega.{arith}
use lib.Dec.{ltb, leb, eqb}
use borrow.Author.Tests.{leb-true, le-ltb}
use Rattle.form_spec.specs.Octets.{Octets}
use Rattle.page_spec.specs.Layout.{layout}
use Rattle.walk_spec.specs.Walked.{walked}
use Rattle.cut_spec.specs.Cut.{Cut, mem, cutting, cut}
use Rattle.cut_spec.specs.Answer.{left_of, cut_answer, cut_leaves}
use Rattle.cut_laws.proofs.Cut.{mem-append}
use Rattle.cut_laws.proofs.Demand3.{Same, again}

module _ (longest : ℕ) (d out : List ℕ) where
  -- orders with the same members and times, neither or both of them backward
  alike : (from to : ℕ) (ms : List ℕ) (start end : ℕ) (ks : List ℕ) → ltb to from ≡ ltb end start → cutting from to ms ≡ cutting start end ks → Same longest out from to ms d start end ks d
  unfolding cut_answer cut_leaves
  alike from to ms start end ks w e =
      let b : left_of longest from to ms d ≡ left_of longest start end ks d = ap (λ (c : Cut). cut (layout longest) c d) e in
      record { bytes = b; answer = rw (w, b); left = rw (w, b) }

  -- ---- lists

  -- order and repeats mean nothing: only who is on the list counts
  pub same_members : (from to : ℕ) (ms ks : List ℕ) → ((n : ℕ) → mem n ms ≡ mem n ks) → Same longest out from to ms d from to ks d
  same_members from to ms ks h = alike from to ms from to ks refl (ap (λ (g : ℕ → Bool). record { gone = g; inside = λ t. leb from t && ltb t to }) (fun_ext h))

  -- ---- windows

  -- no time is in a window from m up to m
  none_inside : (m t : ℕ) → (leb m t && ltb t m) ≡ false
  none_inside m t = go (leb m t) refl
    where
      go : (b : Bool) → leb m t ≡ b → (b && ltb t m) ≡ false
      go true e = le-ltb t m (leb-true m t e)
      go false e = refl

  pub empty_windows : (m e : ℕ) (ms : List ℕ) → Same longest out m m ms d e e ms d
  empty_windows m e ms =
      alike m m ms e e ms (le-ltb m m (omega arith) ∙ sym (le-ltb e e (omega arith)))
      (ap (λ (i : ℕ → Bool). record { gone = λ n. mem n ms; inside = i }) (fun_ext (λ t. none_inside m t ∙ sym (none_inside e t))))

  -- ---- a cut of a cut whose windows do not overlap is a cut with any empty window

  pub again_apart : (f t g u : ℕ) (ms ks : List ℕ) → Octets d → (walked longest d).fault ≡ 0 → g ≤ u → min t u ≤ max f g → (e : ℕ)
      → Same longest out g u ks (left_of longest f t ms d) e e (ms ++ ks) d
  again_apart f t g u ms ks o a w apart e =
      let z : max (max f g) (min t u) ≡ max f g = omega arith in
      let once = again longest f t g u ms ks d out o a w in
      let same = empty_windows (max f g) e (ms ++ ks) in
      record {
        bytes = once.bytes ∙ rw z same.bytes;
        answer = once.answer ∙ rw z same.answer;
        left = once.left ∙ rw z same.left;
      }

-- ---- what it is to have the same members

-- another order
pub order_means_nothing : (n : ℕ) (ms ks : List ℕ) → mem n (ms ++ ks) ≡ mem n (ks ++ ms)
order_means_nothing n ms ks = mem-append n ms ks ∙ or_swapped (mem n ms) (mem n ks) ∙ sym (mem-append n ks ms)
  where
    or_swapped : (a b : Bool) → (a || b) ≡ (b || a)
    or_swapped true true = refl
    or_swapped true false = refl
    or_swapped false true = refl
    or_swapped false false = refl

-- repeats
pub repeats_mean_nothing : (n m : ℕ) (ms : List ℕ) → mem n (m ∷ m ∷ ms) ≡ mem n (m ∷ ms)
repeats_mean_nothing n m ms = go (eqb n m)
  where
    go : (b : Bool) → (b || (b || mem n ms)) ≡ (b || mem n ms)
    go true = refl
    go false = refl
