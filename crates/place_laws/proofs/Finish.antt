-- A format read to the last octet.
use mathlib.Core.Path.{◌≡◌, refl, sym, ap, ◌∙◌}
use mathlib.Core.Bool.{Bool, true, false}
use mathlib.Core.List.{List, [], ◌∷◌, ◌++◌}
use Prim.Native.Nat.{ℕ, zero, suc, ◌+◌, ◌-◌}
use native.Mathlib.Omega.{arith}
use lib.ListN.{length, take, drop, length-append}
use lib.Seq.{length-take-le}
use lib.Dec.{ltb}
use borrow.Author.Tests.{ltb-false}
use Rattle.form_spec.specs.Fmt.{Out, bad, good, refuse_if, bind, Fmt, end, test, field, read, join, over_at}
use Rattle.form_spec.specs.Body.{Body, ended, plain, just, read_body}

-- 6 where something is left over

abbrev over : ℕ → List ℕ → Out Unit
over p [] = good tt []
over p (x ∷ r) = bad 6 p

unfoldable pub finish : Fmt → ℕ → List ℕ → Out Unit
finish (end b) at bs = over (at - b) bs
finish (test zero b f) at bs = finish f at bs
finish (test (suc n) b f) at bs = bad (suc n) (at - b)
finish (field x l b k) at bs = refuse_if (ltb (length bs) l) 5 (at - b) (finish (k (take l bs)) (at + l) (drop l bs))

-- what reading finds, to the last octet
abbrev last : Fmt → ℕ → Out (List (List ℕ)) → Out Unit
last f at (bad n p) = bad n p
last f at (good cs r) = over (at + length (join cs) - over_at f cs) r

last_test : (b at : ℕ) (f : Fmt) (o : Out (List (List ℕ))) → last f at o ≡ last (test zero b f) at o
unfolding over_at
last_test b at f (bad n p) = refl
last_test b at f (good cs r) = refl

last_field : (x l b at : ℕ) (k : List ℕ → Fmt) (c : List ℕ) (o : Out (List (List ℕ))) → length c ≡ l → last (k c) (at + l) o ≡ last (field x l b k) at (bind o (λ cs r. good (c ∷ cs) r))
unfolding over_at
last_field x l b at k c (bad n p) e = refl
last_field x l b at k c (good cs r) e =
    let h : at + l + length (join cs) - over_at (k c) cs ≡ at + length (c ++ join cs) - over_at (k c) cs = rw (length-append, e) (omega arith) in
    ap (λ (p : ℕ). over p r) h

pub finish_read : (f : Fmt) (at : ℕ) (bs : List ℕ) → finish f at bs ≡ last f at (read f at bs)
unfolding finish read over_at
finish_read (end b) at bs = let h : at + 0 - b ≡ at - b = omega arith in rw h
finish_read (test zero b f) at bs = finish_read f at bs ∙ last_test b at f (read f at bs)
finish_read (test (suc n) b f) at bs = refl
finish_read (field x l b k) at bs = go (ltb (length bs) l) refl (finish_read (k (take l bs)) (at + l) (drop l bs))
  where
    go : (t : Bool) → ltb (length bs) l ≡ t → finish (k (take l bs)) (at + l) (drop l bs) ≡ last (k (take l bs)) (at + l) (read (k (take l bs)) (at + l) (drop l bs))
        → refuse_if t 5 (at - b) (finish (k (take l bs)) (at + l) (drop l bs))
        ≡ last (field x l b k) at (refuse_if t 5 (at - b) (bind (read (k (take l bs)) (at + l) (drop l bs)) (λ cs r. good (take l bs ∷ cs) r)))
    go true e h = refl
    go false e h = h ∙ last_field x l b at k (take l bs) (read (k (take l bs)) (at + l) (drop l bs)) (length-take-le l bs (ltb-false _ _ e))

-- so a body's fault is the fault of its fields, read to the last octet
pub finish_body : (f : Fmt) (at : ℕ) (bs : List ℕ) (n p : ℕ) → read_body (just f) at bs ≡ bad n p → finish f at bs ≡ bad n p
unfolding read_body
finish_body f at bs n p h = finish_read f at bs ∙ go (read f at bs) h
  where
    left : (q : ℕ) (cs : List (List ℕ)) (r : List ℕ) → ended q (plain cs) r ≡ bad n p → over q r ≡ bad n p
    left q cs [] e = let z : ◌≡◌ {A = ℕ} 0 1 = cc in absurd (omega arith)
    left q cs (x ∷ r) e = let a : ◌≡◌ {A = ℕ} 6 n = cc in let b : q ≡ p = cc in rw (← a, ← b)

    go : (o : Out (List (List ℕ))) → bind o (λ cs r. ended (at + length (join cs) - over_at f cs) (plain cs) r) ≡ bad n p → last f at o ≡ bad n p
    go (bad m q) e = let a : m ≡ n = cc in let b : q ≡ p = cc in rw (a, b)
    go (good cs r) e = left _ cs r e

pub finish_bad : (f : Fmt) (at : ℕ) (bs : List ℕ) (n p : ℕ) → read f at bs ≡ bad n p → finish f at bs ≡ bad n p
finish_bad f at bs n p h = rw (finish_read f at bs, h)

-- and so where it has none
pub finish_good : (f : Fmt) (at : ℕ) (bs : List ℕ) (y : Body) (z : List ℕ) → read_body (just f) at bs ≡ good y z → finish f at bs ≡ good tt []
unfolding read_body
finish_good f at bs y z h = finish_read f at bs ∙ go (read f at bs) h
  where
    left : (q : ℕ) (cs : List (List ℕ)) (r : List ℕ) → ended q (plain cs) r ≡ good y z → over q r ≡ good tt []
    left q cs [] e = refl
    left q cs (x ∷ r) e = let x : ◌≡◌ {A = ℕ} 0 1 = cc in absurd (omega arith)

    go : (o : Out (List (List ℕ))) → bind o (λ cs r. ended (at + length (join cs) - over_at f cs) (plain cs) r) ≡ good y z → last f at o ≡ good tt []
    go (bad m q) e = let x : ◌≡◌ {A = ℕ} 0 1 = cc in absurd (omega arith)
    go (good cs r) e = left _ cs r e

-- fields and then anything: the only fault that more can be read for is 6
pub finish_free : (f : Fmt) (at : ℕ) (bs : List ℕ) (cs : List (List ℕ)) (r : List ℕ) → read f at bs ≡ good cs r → (n p : ℕ) → finish f at bs ≡ bad n p → n ≡ 6
finish_free f at bs cs r h n p e = left r (sym (finish_read f at bs ∙ rw h) ∙ e)
  where
    left : (r : List ℕ) → over (at + length (join cs) - over_at f cs) r ≡ bad n p → n ≡ 6
    left [] e = let x : ◌≡◌ {A = ℕ} 0 1 = cc in absurd (omega arith)
    left (x ∷ r) e = cc
