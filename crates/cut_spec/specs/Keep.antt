-- Keeping some elements of a list, and the place of a kept one among the kept.
use Rattle.std.specs.Prelude.{Bool, true, false, List, [], ◌∷◌, ℕ, length, take}

module _ {A : Type 0} where
  -- x before xs, unless it goes
  abbrev pub cons_unless : Bool → A → List A → List A
  cons_unless true x xs = xs
  cons_unless false x xs = x ∷ xs

  -- those that do not go
  abbrev pub kept : (A → Bool) → List A → List A
  kept g [] = []
  kept g (x ∷ xs) = cons_unless (g x) x (kept g xs)

-- how many of those before place i are kept
abbrev pub rank : (ℕ → Bool) → List ℕ → ℕ → ℕ
rank g ns i = length (kept g (take i ns))
