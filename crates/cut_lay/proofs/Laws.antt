-- A record with other items, as it is laid: its items behind room for the front, and then the front.
use mathlib.Core.Path.{◌≡◌, refl, sym, ap, ◌∙◌}
use mathlib.Core.Bool.{Bool, true, false, cond, ◌||◌, or-true, false≢true}
use mathlib.Core.List.{List, [], ◌∷◌, ◌++◌, append_assoc}
use Prim.Native.Nat.{ℕ, ◌+◌, ◌-◌, ◌≤◌, ◌<◌}
use native.Mathlib.Omega.{arith}
use lib.Dec.{ltb, eqb}
use lib.ListN.{length, take, drop, length-append, length-drop}
use lib.Seq.{take-add, drop-drop, length-take-le}
use borrow.Author.Tests.{lt-ltb, ltb-false}
use Rattle.form_spec.specs.Octets.{to_be}
use Rattle.form_spec.specs.Body.{joins}
use Rattle.form_laws.proofs.Octets.{length-to_be}
use Rattle.octets_spec.specs.Over.{over}
use Rattle.octets_laws.proofs.Over.{more}
use Rattle.cut_spec.specs.One.{items_left}
use Rattle.cut_spec.specs.Laid.{laid, Room}
use Rattle.cut_laws.proofs.Laid.{over_within, laid_before, length-laid}
use Rattle.cut_spec.specs.Left.{front_left}

length_part : (d : List ℕ) (at n : ℕ) → at + n ≤ length d → length (take n (drop at d)) ≡ n
length_part d at n h = let k : n ≤ length (drop at d) = simp length-drop (omega arith) in length-take-le n (drop at d) k

-- ---- the octets before the items

module _ (d : List ℕ) (at front size count : ℕ) (fits : at + 12 + front ≤ length d) where
  abbrev a : List ℕ
  a = take 8 (drop at d)

  -- the Length that the record had, and the one that it gets
  abbrev y : List ℕ
  y = take 4 (drop (at + 8) d)

  abbrev z : List ℕ
  z = to_be 4 size

  abbrev e : List ℕ
  e = take front (drop (at + 12) d)

  abbrev g : List ℕ
  g = to_be 2 count

  pub length_front : length (front_left d at front size count) ≡ front + 14
  unfolding front_left
  length_front =
      let p = length_part d at 8 (omega arith) in
      let q = length_part d (at + 12) front (omega arith) in
      simp (length-append, length-to_be, p, q) (omega arith)

  -- the front as it was has the old Length in its midst
  parts : take (front + 12) (drop at d) ≡ a ++ (y ++ e)
  parts =
      let n : front + 12 ≡ 8 + (4 + front) = omega arith in
      let m : at + 8 + 4 ≡ at + 12 = omega arith in
      let q : take (4 + front) (drop (at + 8) d) ≡ y ++ e = take-add 4 front (drop (at + 8) d) ∙ rw (drop-drop 4 (at + 8) d, m) in
      ap (λ (k : ℕ). take k (drop at d)) n ∙ take-add 8 (4 + front) (drop at d) ∙ rw (drop-drop 8 at d, q)

  -- copied, its Length corrected, and the count behind it
  pub laid-front : (out l m k : List ℕ) (put n : ℕ) → n ≡ front + 12 → put + (front + 14) ≤ length out
      → l ≡ over out put (take n (drop at d)) → m ≡ over l (put + 8) (to_be 4 size) → k ≡ over m (put + n) (to_be 2 count) → k ≡ over out put (front_left d at front size count)
  unfolding front_left
  laid-front out l m k put n en h p q r =
      let la : length a ≡ 8 = length_part d at 8 (omega arith) in
      let ly : length y ≡ 4 = length_part d (at + 8) 4 (omega arith) in
      let le : length e ≡ front = length_part d (at + 12) front (omega arith) in
      let lz : length z ≡ 4 = length-to_be 4 size in
      let lg : length g ≡ 2 = length-to_be 2 count in
      let w1 : length (a ++ (y ++ e)) ≡ front + 12 = simp length-append (omega arith) in
      let w2 : length (a ++ (z ++ e)) ≡ front + 12 = simp length-append (omega arith) in
      let p2 : l ≡ over out put (a ++ (y ++ e)) = p ∙ ap (over out put) (ap (λ (i : ℕ). take i (drop at d)) en ∙ parts) in
      let n8 : put + length a ≡ put + 8 = omega arith in
      let q2 : m ≡ over out put (a ++ (z ++ e)) = q ∙ rw p2 (rw n8 at (over_within out put a y e z (lz ∙ sym ly) (omega arith))) in
      let r2 : k ≡ over out put ((a ++ (z ++ e)) ++ g) = more out (a ++ (z ++ e)) g m k put (put + n) q2 r (omega arith) (omega arith) in
      r2 ∙ ap (over out put) (append_assoc a (z ++ e) g ∙ ap (λ (x : List ℕ). a ++ x) (append_assoc z e g))

-- ---- and the items

front_items : (d : List ℕ) (at front : ℕ) (its : List (List (List ℕ))) → front_left d at front (front + 2 + length (joins its)) (length its) ++ joins its ≡ items_left d at front its
unfolding front_left items_left
front_items d at front its = simp append_assoc

module _ (d : List ℕ) (at off : ℕ) (its : List (List (List ℕ))) (past : 14 ≤ off) (fits : at + off ≤ length d) where
  abbrev f : List ℕ
  f = front_left d at (off - 14) (off - 14 + 2 + length (joins its)) (length its)

  front_long : length f ≡ off
  front_long = length_front d at (off - 14) (off - 14 + 2 + length (joins its)) (length its) (omega arith) ∙ omega arith

  pub length-items : length (items_left d at (off - 14) its) ≡ off + length (joins its)
  length-items = sym (ap length (front_items d at (off - 14) its)) ∙ length-append f (joins its) ∙ rw front_long

  module _ (lays : Bool) (out : List ℕ) (put : ℕ) (room : Room lays out put (length (items_left d at (off - 14) its))) where
    pub items-room : Room lays out (put + off) (length (joins its))
    items-room q = omega (arith, room q, length-items)

    module _ {l : List ℕ} {kept end counted : ℕ} (first : l ≡ laid lays out (put + off) (joins its)) (many : kept ≡ length its) (ends : end ≡ put + off + length (joins its)) (stands : counted ≡ at + off - 2) where
      -- the front has room before the items
      pub front-room : Room lays l put (counted - at + 2)
      front-room q = let n : length l ≡ length out = rw first (length-laid lays out (put + off) (joins its) items-room) in omega (arith, room q, length-items, n)

      pub laid-items : {k : List ℕ} → k ≡ laid lays l put (front_left d at (counted - at - 12) (end - put - 12) kept)
          → (end ≡ put + length (items_left d at (off - 14) its)) × (k ≡ laid lays out put (items_left d at (off - 14) its))
      laid-items {k} e =
          let a : counted - at - 12 ≡ off - 14 = omega arith in
          let b : end - put - 12 ≡ off - 14 + 2 + length (joins its) = omega arith in
          let e2 : k ≡ laid lays l put f = e ∙ rw (a, b, many) in
          let n : put + off ≡ put + length f = omega (arith, front_long) in
          let w : length (f ++ joins its) ≡ length (items_left d at (off - 14) its) = ap length (front_items d at (off - 14) its) in (
            omega (arith, length-items),
            e2 ∙ rw (first, n) (laid_before lays out put f (joins its) (rw w room)) ∙ ap (laid lays out put) (front_items d at (off - 14) its),
          )

-- ---- a RIB record that is left, or not

or-false : (b c : Bool) → (b || c) ≡ false → c ≡ false
or-false true c e = absurd (false≢true (sym e))
or-false false c e = e

module _ (n : ℕ) (its : List (List (List ℕ))) (xs : List ℕ) where
  -- one entry stays: so does the record
  pub some_left : 0 < length its → cond (eqb n 0 || ltb 0 (length its)) xs [] ≡ xs
  some_left h = rw (lt-ltb 0 (length its) h, or-true (eqb n 0))

  pub rib-stays : {b : Bool} {k : ℕ} → b ≡ (eqb n 0 || ltb 0 k) → k ≡ length its → b ≡ true → cond (eqb n 0 || ltb 0 (length its)) xs [] ≡ xs
  rib-stays e m t = rw (← m, ← e, t)

  pub rib_goes : {b : Bool} {k : ℕ} → b ≡ (eqb n 0 || ltb 0 k) → k ≡ length its → b ≡ false → (cond (eqb n 0 || ltb 0 (length its)) xs [] ≡ []) × (its ≡ [])
  rib_goes {b} {k} e m t =
      let z : ltb 0 k ≡ false = or-false (eqb n 0) (ltb 0 k) (sym e ∙ t) in
      (rw (← m, ← e, t), none its (omega (arith, ltb-false 0 k z, m)))
    where
      none : (js : List (List (List ℕ))) → length js ≤ 0 → js ≡ []
      none [] h = refl
      none (j ∷ js) h = absurd (omega arith)
