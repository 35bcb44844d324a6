-- Laws of keeping and of rank.
use mathlib.Core.Path.{◌≡◌, refl, ap}
use mathlib.Core.Bool.{Bool, true, false, ◌||◌}
use mathlib.Core.List.{List, [], ◌∷◌, ◌++◌, map}
use Prim.Native.Nat.{ℕ, zero, suc, ◌≤◌, ◌<◌, suc-le-suc, zero-le}
use native.Mathlib.Nat.{le_of_suc-le-suc, not-suc-le-zero, le_refl, le_step}
use lib.ListN.{length, take, get_or}
use Rattle.cut_spec.specs.Keep.{cons_unless, kept, rank}

module _ {A : Type 0} where
  pub kept-length : (g : A → Bool) (xs : List A) → length (kept g xs) ≤ length xs
  kept-length g [] = zero-le
  kept-length g (x ∷ xs) = go (g x) (kept-length g xs)
    where
      go : (t : Bool) → length (kept g xs) ≤ length xs → length (cons_unless t x (kept g xs)) ≤ suc (length xs)
      go true h = le_step h
      go false h = suc-le-suc h

  pub kept-kept : (g h : A → Bool) (xs : List A) → kept h (kept g xs) ≡ kept (λ x. g x || h x) xs
  kept-kept g h [] = refl
  kept-kept g h (x ∷ xs) = go (g x) (kept-kept g h xs)
    where
      go : (t : Bool) → kept h (kept g xs) ≡ kept (λ x. g x || h x) xs → kept h (cons_unless t x (kept g xs)) ≡ cons_unless (t || h x) x (kept (λ x. g x || h x) xs)
      go true e = e
      go false e = rw e

  pub kept_append : (g : A → Bool) (xs ys : List A) → kept g (xs ++ ys) ≡ kept g xs ++ kept g ys
  kept_append g [] ys = refl
  kept_append g (x ∷ xs) ys = go (g x) (kept_append g xs ys)
    where
      go : (t : Bool) → kept g (xs ++ ys) ≡ kept g xs ++ kept g ys → cons_unless t x (kept g (xs ++ ys)) ≡ cons_unless t x (kept g xs) ++ kept g ys
      go true e = e
      go false e = ap (λ (l : List A). x ∷ l) e

pub kept_map : {A : Type 0} (f : A → ℕ) (g : ℕ → Bool) (xs : List A) → map f (kept (λ x. g (f x)) xs) ≡ kept g (map f xs)
kept_map f g [] = refl
kept_map f g (x ∷ xs) = go (g (f x)) (kept_map f g xs)
  where
    go : (t : Bool) → map f (kept (λ x. g (f x)) xs) ≡ kept g (map f xs) → map f (cons_unless t x (kept (λ x. g (f x)) xs)) ≡ cons_unless t (f x) (kept g (map f xs))
    go true e = e
    go false e = ap (λ (l : List ℕ). f x ∷ l) e

-- the kept before place i are the first of the kept
pub kept-take : (g : ℕ → Bool) (ns : List ℕ) (i : ℕ) → kept g (take i ns) ≡ take (rank g ns i) (kept g ns)
kept-take g ns zero = refl
kept-take g [] (suc i) = refl
kept-take g (n ∷ ns) (suc i) = go (g n) (kept-take g ns i)
  where
    go : (t : Bool) → kept g (take i ns) ≡ take (rank g ns i) (kept g ns)
        → cons_unless t n (kept g (take i ns)) ≡ take (length (cons_unless t n (kept g (take i ns)))) (cons_unless t n (kept g ns))
    go true e = e
    go false e = ap (λ (l : List ℕ). n ∷ l) e

-- a kept one stands at its rank
pub kept_at : (g : ℕ → Bool) (ns : List ℕ) (i : ℕ) → i < length ns → g (get_or ns i 0) ≡ false → get_or (kept g ns) (rank g ns i) 0 ≡ get_or ns i 0
kept_at g [] i h e = absurd (not-suc-le-zero h)
kept_at g (n ∷ ns) zero h e = rw e
kept_at g (n ∷ ns) (suc i) h e = go (g n) (kept_at g ns i (le_of_suc-le-suc h) e)
  where
    go : (t : Bool) → get_or (kept g ns) (rank g ns i) 0 ≡ get_or ns i 0
        → get_or (cons_unless t n (kept g ns)) (length (cons_unless t n (kept g (take i ns)))) 0 ≡ get_or ns i 0
    go true q = q
    go false q = q

pub rank_lt : (g : ℕ → Bool) (ns : List ℕ) (i : ℕ) → i < length ns → g (get_or ns i 0) ≡ false → rank g ns i < length (kept g ns)
rank_lt g [] i h e = absurd (not-suc-le-zero h)
rank_lt g (n ∷ ns) zero h e = rw e (suc-le-suc zero-le)
rank_lt g (n ∷ ns) (suc i) h e = go (g n) (rank_lt g ns i (le_of_suc-le-suc h) e)
  where
    go : (t : Bool) → rank g ns i < length (kept g ns) → length (cons_unless t n (kept g (take i ns))) < length (cons_unless t n (kept g ns))
    go true q = q
    go false q = suc-le-suc q

pub rank-le : (g : ℕ → Bool) (ns : List ℕ) (i : ℕ) → rank g ns i ≤ i
rank-le g ns zero = le_refl 0
rank-le g [] (suc i) = zero-le
rank-le g (n ∷ ns) (suc i) = go (g n) (rank-le g ns i)
  where
    go : (t : Bool) → rank g ns i ≤ i → length (cons_unless t n (kept g (take i ns))) ≤ suc i
    go true q = le_step q
    go false q = suc-le-suc q

-- the rank among the kept of the rank is the rank in both
pub rank-rank : (g h : ℕ → Bool) (ns : List ℕ) (i : ℕ) → rank h (kept g ns) (rank g ns i) ≡ rank (λ n. g n || h n) ns i
rank-rank g h ns i = rw (← (kept-take g ns i), kept-kept)
