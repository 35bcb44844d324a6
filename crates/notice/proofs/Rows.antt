-- A table of rows of six, laid out row by row.
use Rattle.std.proofs.Common.{◌≡◌, ℕ, suc, ◌+◌, ◌-◌, ◌*◌, ◌/◌, ◌%◌, ◌<◌, ◌≤◌, Bool, true, false, ltb, List, [], ◌∷◌, ◌++◌, length, get_or, take, drop, set, sym, refl, ap, ◌∙◌, append-nil, arith, length-append, drop_of_length-le, take_all, drop-cons, take-suc-set, get_or-append-add, ltb-false, ltb-true}
use lib.ListN.{get_or-append}
use lib.Seq.{append_snoc}
use mir.Syntax.{Width}
use mir.Val.{Val}
use denote.Shadow.{shadow}
use denote.Array.{Array, each}
use denote.Plain.{UInt}
use Rattle.report_spec.specs.Own.{joined}

abbrev pub Rows : List (List ℕ) → Type 0
Rows [] = Unit
Rows (r ∷ rs) = (length r ≡ 6) × Rows rs

-- an array of arrays of six has such rows
pub array_rows : (w : Width) (t : List (List ℕ)) (us : List Val) → shadow (each (List ℕ) (Array (UInt w) 6).own_val t us) → Rows t
array_rows w [] us h = tt
array_rows w (r ∷ rs) [] h = absurd h
array_rows w (r ∷ rs) (u ∷ us) h = (h.0.1.0.1, array_rows w rs us h.1)

pub joined_length : (t : List (List ℕ)) → Rows t → length (joined t) ≡ 6 * length t
joined_length [] h = refl
joined_length (r ∷ rs) h = let e = joined_length rs h.1 in simp (length-append, h.0, e) (omega arith)

-- the number in row k / 6 and column k % 6
pub joined_at : (t : List (List ℕ)) → Rows t → (k : ℕ) → k < 6 * length t → get_or (joined t) k 0 ≡ get_or (get_or t (k / 6) []) (k % 6) 0
joined_at [] h k l = absurd (omega arith)
joined_at (r ∷ rs) h k l = by_cases (ltb k 6) refl (joined_at rs h.1 (k - 6))
  where
    first : k < 6 → get_or (r ++ joined rs) k 0 ≡ get_or (get_or (r ∷ rs) (k / 6) []) (k % 6) 0
    first g =
        let d : k / 6 ≡ 0 = omega arith in
        let m : k % 6 ≡ k = omega arith in
        rw (d, m) (get_or-append r (joined rs) 0 k (omega (arith, h.0)))

    later : (j : ℕ) → k ≡ 6 + j → get_or (joined rs) j 0 ≡ get_or (get_or rs (j / 6) []) (j % 6) 0 → get_or (r ++ joined rs) k 0 ≡ get_or (get_or (r ∷ rs) (k / 6) []) (k % 6) 0
    later j e i =
        let d : k / 6 ≡ suc (j / 6) = omega arith in
        let m : k % 6 ≡ j % 6 = omega arith in
        let s : k ≡ length r + j = omega (arith, h.0) in
        rw (d, m) (ap (λ (n : ℕ). get_or (r ++ joined rs) n 0) s ∙ get_or-append-add r (joined rs) j 0 ∙ i)

    by_cases : (t : Bool) → ltb k 6 ≡ t → (k - 6 < 6 * length rs → get_or (joined rs) (k - 6) 0 ≡ get_or (get_or rs ((k - 6) / 6) []) ((k - 6) % 6) 0)
        → get_or (r ++ joined rs) k 0 ≡ get_or (get_or (r ∷ rs) (k / 6) []) (k % 6) 0
    by_cases true e i = first (ltb-true k 6 e)
    by_cases false e i = let g = ltb-false k 6 e in later (k - 6) (omega arith) (i (omega arith))

-- one number more is laid, behind three others
pub laid_more : (all js : List ℕ) (k v : ℕ) → 3 + k < length all → k < length js → get_or js k 0 ≡ v → take (3 + (k + 1)) (set all (3 + k) v) ++ drop (k + 1) js ≡ take (3 + k) all ++ drop k js
laid_more all js k v h g e =
    let a : 3 + (k + 1) ≡ suc (3 + k) = omega arith in
    let b : k + 1 ≡ suc k = omega arith in
    rw (a, b, take-suc-set all (3 + k) v h, drop-cons js k 0 g, e) (append_snoc (take (3 + k) all) v (drop (suc k) js))

-- and all of them
pub laid_all : (all js ns : List ℕ) (k : ℕ) → length all ≤ 3 + k → length js ≤ k → take (3 + k) all ++ drop k js ≡ ns → all ≡ ns
laid_all all js ns k h g e = sym (rw (take_all (3 + k) all h, drop_of_length-le js g) (append-nil all)) ∙ e
