-- What is true of a format's answer however its fields turn out, field by field.
use mathlib.Core.Path.{◌≡◌, refl}
use mathlib.Core.Bool.{Bool, true, false, cond}
use mathlib.Core.List.{List}
use Prim.Native.Nat.{ℕ, zero, suc, ◌+◌, ◌≤◌}
use lib.Dec.{ltb}
use lib.ListN.{length, take, drop}
use borrow.Author.Tests.{ltb-false}
use Rattle.form_spec.specs.Octets.{be}
use Rattle.form_spec.specs.Fmt.{Fmt, end, test, field}
use Rattle.form_spec.specs.Words.{choose}
use Rattle.form_spec.specs.Pass.{Seen, note, pass}

pub by_cond : {A : Type 0} (P : A → Type 0) (b : Bool) (x y : A) → (b ≡ true → P x) → (b ≡ false → P y) → P (cond b x y)
by_cond P true x y f g = f refl
by_cond P false x y f g = g refl

pub by_choose : {A : Type 0} (P : A → Type 0) (b : Bool) (x y : A) → P x → P y → P (choose b x y)
unfolding choose
by_choose P true x y f g = f
by_choose P false x y f g = g

-- P holds of every fault
module _ {A : Type 0} (P : A → Type 0) (fault : ℕ → ℕ → A) (bad : (n p : ℕ) → P (fault (suc n) p)) (m : List ℕ) where
  -- a field that is there
  pub field_then : (to : List Seen → ℕ → ℕ → A) (x l b : ℕ) (k : List ℕ → Fmt) (i : ℕ)
      → (i + l ≤ length m → P (pass (λ fs. to (note x i l (i + l) (be (take l (drop i m))) fs)) fault (k (take l (drop i m))) m (i + l)))
      → P (pass to fault (field x l b k) m i)
  unfolding pass
  field_then to x l b k i h = by_cond P (ltb (length m) (i + l)) _ _ (λ e. bad 4 _) (λ e. h (ltb-false (length m) (i + l) e))

  -- a check that is passed
  pub test_then : (to : List Seen → ℕ → ℕ → A) (n b : ℕ) (f : Fmt) (i : ℕ) → P (pass to fault f m i) → P (pass to fault (test n b f) m i)
  unfolding pass
  test_then to zero b f i h = h
  test_then to (suc n) b f i h = bad n _

  -- whatever fields are left
  pub every : (f : Fmt) (to : List Seen → ℕ → ℕ → A) (i : ℕ) → ((fs : List Seen) (a p : ℕ) → P (to fs a p)) → P (pass to fault f m i)
  unfolding pass
  every (end b) to i h = h _ _ _
  every (test zero b f) to i h = every f to i h
  every (test (suc n) b f) to i h = bad n _
  every (field x l b k) to i h = by_cond P (ltb (length m) (i + l)) _ _ (λ e. bad 4 _) (λ e. every (k (take l (drop i m))) _ (i + l) (λ fs a p. h _ a p))
