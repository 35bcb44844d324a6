-- When the reader finds a value where the writer laid it, word by word of a page of layouts.
use mathlib.Core.Path.{◌≡◌, refl}
use mathlib.Core.Bool.{Bool, true, false, cond}
use mathlib.Core.Logic.{inl, inr}
use mathlib.Core.List.{List, [], ◌∷◌, ◌++◌, append-nil}
use Prim.Native.Nat.{ℕ, ◌≤◌, ◌<◌}
use native.Mathlib.Omega.{arith}
use lib.ListN.{length, take, drop, take-append-drop}
use lib.Seq.{length-take-le}
use lib.Dec.{ltb}
use borrow.Author.Tests.{ltb-true, ltb-false}
use Rattle.form_spec.specs.Fmt.{Fmt, end, test, field, Fits, join}
use Rattle.form_spec.specs.Words.{choose, num, skip, checked, tested}
use Rattle.form_spec.specs.Put.{Value, digits, bytes, lay}
use Rattle.form_spec.specs.Gives.{Fit}
use Rattle.form_spec.specs.Aligned.{Full, Aligned}
use Rattle.form_laws.proofs.Octets.{length-to_be, be-to_be}

-- all values in their places, and nothing behind them
pub full-aligned : (f : Fmt) (vs : List Value) → Full f vs → Aligned f vs []
unfolding Full Aligned
full-aligned (end b) [] h = refl
full-aligned (test n b f) vs h = λ e. full-aligned f vs (h e)
full-aligned (field x l b k) (v ∷ vs) h = inl (h.0, full-aligned (k _) vs h.1)
full-aligned (end b) (v ∷ vs) h = elim h [ ]
full-aligned (field x l b k) [] h = elim h [ ]

-- one of two formats, each where its test holds
pub choose_case : (P : Fmt → Type 0) (b : Bool) (f g : Fmt) → (b ≡ true → P f) → (b ≡ false → P g) → P (choose b f g)
unfolding choose
choose_case P true f g h i = h refl
choose_case P false f g h i = i refl

-- a check that failed is a fault
passed : (b : Bool) (n : ℕ) → 0 < n → ◌≡◌ {A = ℕ} (cond b 0 n) 0 → b ≡ true
passed true n h e = refl
passed false n h e = absurd (omega arith)

module _ (x w : ℕ) where
  -- numbers that go into their octets, and parts of the field's size
  pub num-full : (n : ℕ) (k : ℕ → Fmt) (vs : List Value) → Fit (digits w n ∷ vs) → (Fit vs → Full (k n) vs) → Full (num x w k) (digits w n ∷ vs)
  unfolding Full num
  num-full n k vs h a = (length-to_be w n, rw (be-to_be w n h.0) (a h.1))

  pub checked-full : (ok : ℕ → Bool) (fault n : ℕ) (k : ℕ → Fmt) (vs : List Value) → 0 < fault → Fit (digits w n ∷ vs) → (Fit vs → ok n ≡ true → Full (k n) vs)
      → Full (checked x w ok fault k) (digits w n ∷ vs)
  unfolding Full checked
  checked-full ok fault n k vs p h a = (length-to_be w n, rw (be-to_be w n h.0) (λ e. a h.1 (passed (ok n) fault p e)))

  pub skip-full : (f : Fmt) (c : List ℕ) (vs : List Value) → length c ≡ w → Full f vs → Full (skip x w f) (bytes c ∷ vs)
  unfolding Full skip
  skip-full f c vs e a = (e, a)

  pub tested-full : (ok : List ℕ → Bool) (fault : ℕ) (f : Fmt) (c : List ℕ) (vs : List Value) → length c ≡ w → Full f vs → Full (tested x w ok fault f) (bytes c ∷ vs)
  unfolding Full tested
  tested-full ok fault f c vs e a = (e, λ z. a)

  -- the same where octets follow
  pub num-aligned : (n : ℕ) (k : ℕ → Fmt) (vs : List Value) (raw : List ℕ) → Fit (digits w n ∷ vs) → (Fit vs → Aligned (k n) vs raw) → Aligned (num x w k) (digits w n ∷ vs) raw
  unfolding Aligned num
  num-aligned n k vs raw h a = inl (length-to_be w n, rw (be-to_be w n h.0) (a h.1))

  pub skip-aligned : (f : Fmt) (c : List ℕ) (vs : List Value) (raw : List ℕ) → length c ≡ w → Aligned f vs raw → Aligned (skip x w f) (bytes c ∷ vs) raw
  unfolding Aligned skip
  skip-aligned f c vs raw e a = inl (e, a)

-- ---- octets that are laid whole, field by field as they last

-- the first field of them, and what is left for the others
pub first_aligned : (x l b : ℕ) (k : List ℕ → Fmt) (m : List ℕ) (vs : List Value) → join (lay vs) ≡ drop l m → (l ≤ length m → Aligned (k (take l m)) vs [])
    → Aligned (field x l b k) (bytes (take l m) ∷ vs) []
unfolding Aligned
first_aligned x l b k m vs e a = go (ltb (length m) l) refl
  where
    laid : length (join (lay (bytes (take l m) ∷ vs)) ++ []) ≡ length m
    laid = rw (append-nil, e, take-append-drop)

    go : (t : Bool) → ltb (length m) l ≡ t → Aligned (field x l b k) (bytes (take l m) ∷ vs) []
    go true t = inr (inl (omega (arith, laid, ltb-true (length m) l t)))
    go false t = let h = ltb-false (length m) l t in inl (length-take-le l m h, a h)

-- the last
pub last_aligned : (x l b q : ℕ) (m : List ℕ) → Aligned (field x l b λ c. end q) (bytes m ∷ []) []
unfolding Aligned Fits
last_aligned x l b q m = go (ltb (length m) l) (ltb l (length m)) refl refl
  where
    laid : length (m ++ [] ++ []) ≡ length m
    laid = simp append-nil

    go : (t u : Bool) → ltb (length m) l ≡ t → ltb l (length m) ≡ u → Aligned (field x l b λ c. end q) (bytes m ∷ []) []
    go true u t v = inr (inl (omega (arith, laid, ltb-true (length m) l t)))
    go false true t v = inr (inr (ltb-true l (length m) v, tt))
    go false false t v = inl (omega (arith, ltb-false (length m) l t, ltb-false l (length m) v), refl)
