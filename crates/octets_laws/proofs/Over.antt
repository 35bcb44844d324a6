-- Laws of `over`: what follows is laid behind what was laid before.
use mathlib.Core.Path.{◌≡◌, sym, ap, ◌∙◌}
use mathlib.Core.List.{List, [], ◌∷◌, ◌++◌, append_assoc}
use Prim.Native.Nat.{ℕ, suc, ◌+◌, ◌≤◌, ◌<◌}
use native.Mathlib.Omega.{arith}
use lib.ListN.{length, take, drop, set, length-append, length-take, length-drop, take-append-drop}
use lib.Seq.{paste, drop-drop, length-take-le, take_at, drop_at, set_split}
use Rattle.octets_spec.specs.Over.{over}

-- the length stays
pub length_over : (out : List ℕ) (at : ℕ) (s : List ℕ) → at + length s ≤ length out → length (over out at s) ≡ length out
unfolding over
length_over out at s h = simp (length-append, length-take, length-drop) (omega arith)

-- s, and then t behind it, is both at once
pub over_over : (out : List ℕ) (at : ℕ) (s t : List ℕ) → at + (length s + length t) ≤ length out → over (over out at s) (at + length s) t ≡ over out at (s ++ t)
unfolding over
over_over out at s t h =
    let front : List ℕ = take at out ++ s in
    let back : List ℕ = drop (at + length s) out in
    let l : length front ≡ at + length s = length-append (take at out) s ∙ ap (λ (n : ℕ). n + length s) (length-take-le at out (omega arith)) in
    let e : take at out ++ (s ++ back) ≡ front ++ back = sym (append_assoc (take at out) s back) in
    let a : at + length s + length t ≡ at + (length s + length t) = omega arith in
    let d : drop (at + length s + length t) (front ++ back) ≡ drop (length t) back = sym (drop-drop (length t) (at + length s) (front ++ back)) ∙ ap (drop (length t)) (drop_at front back (at + length s) l) in
    rw (e, take_at front back (at + length s) l, d, drop-drop, length-append s t, a) (simp append_assoc)

-- nothing laid
pub over_none : (out : List ℕ) (at : ℕ) → at ≤ length out → over out at [] ≡ out
unfolding over
over_none out at h = let e : at + 0 ≡ at = omega arith in rw e (take-drop at out)
  where
    take-drop : (n : ℕ) (l : List ℕ) → take n l ++ drop n l ≡ l
    take-drop n l = rw take-append-drop

-- one octet stored
pub over_one : (out : List ℕ) (at x : ℕ) → at < length out → set out at x ≡ over out at (x ∷ [])
unfolding over
over_one out at x h = let e : at + 1 ≡ suc at = omega arith in set_split out at x h ∙ rw e

-- what the copying loop has done
pub over_paste : (out : List ℕ) (at : ℕ) (s : List ℕ) (n : ℕ) → n ≤ length s → paste out at s n ≡ over out at (take n s)
unfolding over
over_paste out at s n h = rw (length-take-le n s h) (append_assoc (take at out) (take n s) (drop (at + n) out))

-- one store more: s goes where p ends
pub more : (out p s l k : List ℕ) (at i : ℕ) → l ≡ over out at p → k ≡ over l i s → i ≡ at + length p → at + (length p + length s) ≤ length out → k ≡ over out at (p ++ s)
more out p s l k at i e d h b = d ∙ rw (e, h) (over_over out at p s b)
