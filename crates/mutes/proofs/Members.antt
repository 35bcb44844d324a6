-- Who is on a list, told from parts of it.
use mathlib.Core.Path.{◌≡◌, sym, ap, ◌∙◌}
use mathlib.Core.Bool.{Bool, true, ◌||◌, or-true, or-false}
use mathlib.Core.Logic.{◌⊎◌, inl, inr}
use mathlib.Core.List.{List, [], ◌∷◌}
use Prim.Native.Nat.{ℕ, ◌+◌, ◌<◌}
use native.Mathlib.Numerals.{add-one}
use lib.ListN.{length, take, drop, get_or, take-append-drop}
use lib.Seq.{take-suc, drop-cons}
use lib.Dec.{eqb}
use borrow.Author.Tests.{eq-eqb, eqb-true}
use Rattle.std.proofs.lemmas.Bool.{or_cases}
use Rattle.cut_spec.specs.Cut.{mem}
use Rattle.cut_laws.proofs.Cut.{mem-append}

-- ---- the numbers before a place, and from it on

pub mem-parts : (n k : ℕ) (ms : List ℕ) → mem n ms ≡ (mem n (take k ms) || mem n (drop k ms))
mem-parts n k ms = ap (mem n) (sym (take-append-drop k ms)) ∙ mem-append n (take k ms) (drop k ms)

pub mem_here : (n : ℕ) (ms : List ℕ) (i : ℕ) → i < length ms → n ≡ get_or ms i 0 → mem n (drop i ms) ≡ true
mem_here n ms i h e = rw (drop-cons ms i 0 h, eq-eqb _ _ e)

-- what stands at a place is on the list
pub mem_at : (n : ℕ) (ms : List ℕ) (i : ℕ) → i < length ms → n ≡ get_or ms i 0 → mem n ms ≡ true
mem_at n ms i h e = mem-parts n i ms ∙ ap (λ (b : Bool). mem n (take i ms) || b) (mem_here n ms i h e) ∙ or-true (mem n (take i ms))

-- among the first k + 1: among the first k, or the next
pub mem-suc : (n k : ℕ) (ms : List ℕ) → k < length ms → mem n (take (k + 1) ms) ≡ (mem n (take k ms) || eqb n (get_or ms k 0))
mem-suc n k ms h =
    rw (add-one, take-suc ms k 0 h) (mem-append n (take k ms) (get_or ms k 0 ∷ []) ∙ ap (λ (b : Bool). mem n (take k ms) || b) (or-false (eqb n (get_or ms k 0))))

pub mem-next : (n k : ℕ) (ms : List ℕ) → k < length ms → mem n (take (k + 1) ms) ≡ true → (mem n (take k ms) ≡ true) ⊎ (n ≡ get_or ms k 0)
mem-next n k ms h e = go (or_cases (mem n (take k ms)) (eqb n (get_or ms k 0)) (sym (mem-suc n k ms h) ∙ e))
  where
    go : (mem n (take k ms) ≡ true) ⊎ (eqb n (get_or ms k 0) ≡ true) → (mem n (take k ms) ≡ true) ⊎ (n ≡ get_or ms k 0)
    go (inl a) = inl a
    go (inr b) = inr (eqb-true n (get_or ms k 0) b)
