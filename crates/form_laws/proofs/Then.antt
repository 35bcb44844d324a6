-- Reading one format after another, and n items of one.
use mathlib.Core.Path.{◌≡◌, refl, ◌∙◌}
use mathlib.Core.Bool.{Bool, true, false}
use mathlib.Core.List.{List, [], ◌∷◌, ◌++◌}
use Prim.Native.Nat.{ℕ, zero, suc, ◌+◌, ◌-◌}
use native.Mathlib.Omega.{arith}
use native.Mathlib.Nat.{add_assoc}
use lib.ListN.{length, take, drop, length-append}
use lib.Seq.{length-take-le}
use lib.Dec.{ltb}
use borrow.Author.Tests.{ltb-false}
use Rattle.form_spec.specs.Fmt.{Out, bad, good, bind, refuse_if, Fmt, end, test, field, read, join}
use Rattle.form_spec.specs.Body.{read_n}
use Rattle.form_spec.specs.Pass.{◌⨾◌, times}

abbrev pub after : Fmt → ℕ → List (List ℕ) → List ℕ → Out (List (List ℕ))
after g at cs r = bind (read g (at + length (join cs)) r) (λ ds q. good (cs ++ ds) q)

after_keep : (g : Fmt) (at l : ℕ) (c : List ℕ) (o : Out (List (List ℕ))) → length c ≡ l
    → bind (bind o (after g (at + l))) (λ cs r. good (c ∷ cs) r) ≡ bind (bind o (λ cs r. good (c ∷ cs) r)) (after g at)
after_keep g at l c (bad n p) e = refl
after_keep g at l c (good cs r) e =
    let h : at + l + length (join cs) ≡ at + length (c ++ join cs) = rw (length-append, e, add_assoc) in
    rw h (go (read g (at + length (c ++ join cs)) r))
  where
    go : (o : Out (List (List ℕ))) → bind (bind o (λ ds q. good (cs ++ ds) q)) (λ cs r. good (c ∷ cs) r) ≡ bind o (λ ds q. good (c ∷ cs ++ ds) q)
    go (bad n p) = refl
    go (good ds q) = refl

same : (o : Out (List (List ℕ))) → o ≡ bind o (λ ds q. good ds q)
same (bad n p) = refl
same (good ds q) = refl

pub read_then : (f g : Fmt) (at : ℕ) (bs : List ℕ) → read (f ⨾ g) at bs ≡ bind (read f at bs) (after g at)
unfolding read ◌⨾◌
read_then (end b) g at bs = let e : at + 0 ≡ at = omega arith in rw e (same (read g at bs))
read_then (test zero b f) g at bs = read_then f g at bs
read_then (test (suc n) b f) g at bs = refl
read_then (field x l b k) g at bs = go (ltb (length bs) l) refl (read_then (k (take l bs)) g (at + l) (drop l bs))
  where
    go : (t : Bool) → ltb (length bs) l ≡ t → read (k (take l bs) ⨾ g) (at + l) (drop l bs) ≡ bind (read (k (take l bs)) (at + l) (drop l bs)) (after g (at + l))
        → refuse_if t 5 (at - b) (bind (read (k (take l bs) ⨾ g) (at + l) (drop l bs)) (λ cs r. good (take l bs ∷ cs) r))
        ≡ bind (refuse_if t 5 (at - b) (bind (read (k (take l bs)) (at + l) (drop l bs)) (λ cs r. good (take l bs ∷ cs) r))) (after g at)
    go true e r = refl
    go false e r = rw r (after_keep g at l (take l bs) (read (k (take l bs)) (at + l) (drop l bs)) (length-take-le l bs (ltb-false _ _ e)))

-- the items' fields, one after another
abbrev pub flat : List (List (List ℕ)) → List (List ℕ)
flat [] = []
flat (c ∷ cs) = c ++ flat cs

abbrev pub flatly : Out (List (List (List ℕ))) → Out (List (List ℕ))
flatly (bad n p) = bad n p
flatly (good its r) = good (flat its) r

flat_keep : (cs : List (List ℕ)) (o : Out (List (List (List ℕ)))) → bind (flatly o) (λ ds q. good (cs ++ ds) q) ≡ flatly (bind o (λ its q. good (cs ∷ its) q))
flat_keep cs (bad n p) = refl
flat_keep cs (good its r) = refl

pub read-times : (n : ℕ) (f : Fmt) (at : ℕ) (bs : List ℕ) → read (times n f) at bs ≡ flatly (read_n f n at bs)
unfolding times read read_n
read-times zero f at bs = refl
read-times (suc n) f at bs = read_then f (times n f) at bs ∙ go (read f at bs) (λ a r. read-times n f a r)
  where
    go : (o : Out (List (List ℕ))) → ((a : ℕ) (r : List ℕ) → read (times n f) a r ≡ flatly (read_n f n a r))
        → bind o (after (times n f) at) ≡ flatly (bind o (λ cs r. bind (read_n f n (at + length (join cs)) r) (λ its q. good (cs ∷ its) q)))
    go (bad m p) h = refl
    go (good cs r) h = rw (h (at + length (join cs)) r) (flat_keep cs (read_n f n (at + length (join cs)) r))
