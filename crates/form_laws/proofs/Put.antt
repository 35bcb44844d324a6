-- What a writer does not refuse of a format's values is the grammar's, and the other way round.
use mathlib.Core.Path.{◌≡◌, refl}
use mathlib.Core.Bool.{Bool, true, false, cond}
use mathlib.Core.List.{List, [], ◌∷◌}
use Prim.Native.Nat.{ℕ, zero, suc, ◌^◌, ◌<◌}
use native.Mathlib.Omega.{arith}
use lib.ListN.{length}
use lib.Dec.{ltb}
use borrow.Author.Tests.{ltb-true, ltb-false, lt-ltb, le-ltb}
use Rattle.form_spec.specs.Octets.{Octets}
use Rattle.form_spec.specs.Fmt.{Fmt, end, test, field, Fits}
use Rattle.form_spec.specs.Put.{Value, digits, bytes, spelled, or_else, sized, large, misfit, refusal, lay}
use Rattle.form_spec.specs.Gives.{FitOne, Fit, OctetsOne, OctetsIn}
use Rattle.form_laws.proofs.Octets.{length-to_be, octets-to_be}

-- ---- no fault of two is neither

pub or_else-zero : (n m : ℕ) → or_else n m ≡ 0 → (n ≡ 0) × (m ≡ 0)
or_else-zero zero m e = (refl, e)
or_else-zero (suc n) m e = absurd (omega arith)

pub zero-or_else : (n m : ℕ) → n ≡ 0 → m ≡ 0 → or_else n m ≡ 0
zero-or_else n m e d = rw (e, d)

-- ---- one value and its field

pub large_zero : (w n : ℕ) → large w n ≡ 0 → n < 256 ^ w
large_zero w n e = go (ltb n (256 ^ w)) refl e
  where
    go : (t : Bool) → ltb n (256 ^ w) ≡ t → ◌≡◌ {A = ℕ} (cond t 0 6) 0 → n < 256 ^ w
    go true p z = ltb-true n (256 ^ w) p
    go false p z = absurd (omega arith)

pub zero_large : (w n : ℕ) → n < 256 ^ w → large w n ≡ 0
zero_large w n h = rw (lt-ltb n (256 ^ w) h)

sized-zero : (n l : ℕ) → sized n l ≡ 0 → n ≡ l
sized-zero n l e = go (ltb n l) (ltb l n) refl refl e
  where
    go : (t u : Bool) → ltb n l ≡ t → ltb l n ≡ u → ◌≡◌ {A = ℕ} (cond t 5 (cond u 6 0)) 0 → n ≡ l
    go true u p q z = absurd (omega arith)
    go false true p q z = absurd (omega arith)
    go false false p q z = omega (arith, ltb-false n l p, ltb-false l n q)

zero-sized : (n l : ℕ) → n ≡ l → sized n l ≡ 0
zero-sized n l e = rw (le-ltb n l (omega arith), le-ltb l n (omega arith))

misfit-zero : (v : Value) (l : ℕ) → misfit v l ≡ 0 → FitOne v × (length (spelled v) ≡ l)
misfit-zero (digits w n) l e =
    let z = or_else-zero (large w n) (sized w l) e in
    (large_zero w n z.0, rw length-to_be (sized-zero w l z.1))
misfit-zero (bytes c) l e = (tt, sized-zero (length c) l e)

pub zero-misfit : (v : Value) (l : ℕ) → FitOne v → length (spelled v) ≡ l → misfit v l ≡ 0
zero-misfit (digits w n) l h e = zero-or_else (large w n) (sized w l) (zero_large w n h) (zero-sized w l (rw length-to_be at e))
zero-misfit (bytes c) l h e = zero-sized (length c) l e

octets-spelled : (v : Value) → OctetsOne v → Octets (spelled v)
octets-spelled (digits w n) o = octets-to_be w n
octets-spelled (bytes c) o = o

-- ---- the values of a format

pub refusal-fit : (f : Fmt) (vs : List Value) → refusal f vs ≡ 0 → Fit vs
unfolding refusal
refusal-fit (end b) [] e = tt
refusal-fit (end b) (v ∷ vs) e = absurd (omega arith)
refusal-fit (test n b f) vs e = refusal-fit f vs (or_else-zero n _ e).1
refusal-fit (field x l b k) [] e = absurd (omega arith)
refusal-fit (field x l b k) (v ∷ vs) e =
    let z = or_else-zero (misfit v l) _ e in
    ((misfit-zero v l z.0).0, refusal-fit (k (spelled v)) vs z.1)

pub refusal-fits : (f : Fmt) (vs : List Value) → OctetsIn vs → refusal f vs ≡ 0 → Fits f (lay vs)
unfolding refusal Fits
refusal-fits (end b) [] o e = tt
refusal-fits (end b) (v ∷ vs) o e = absurd (omega arith)
refusal-fits (test n b f) vs o e = let z = or_else-zero n _ e in (z.0, refusal-fits f vs o z.1)
refusal-fits (field x l b k) [] o e = absurd (omega arith)
refusal-fits (field x l b k) (v ∷ vs) o e =
    let z = or_else-zero (misfit v l) _ e in
    ((misfit-zero v l z.0).1, octets-spelled v o.0, refusal-fits (k (spelled v)) vs o.1 z.1)

pub fits-refusal : (f : Fmt) (vs : List Value) → Fit vs → Fits f (lay vs) → refusal f vs ≡ 0
unfolding refusal Fits
fits-refusal (end b) [] h q = refl
fits-refusal (test n b f) vs h q = zero-or_else n _ q.0 (fits-refusal f vs h q.1)
fits-refusal (field x l b k) (v ∷ vs) h q = zero-or_else (misfit v l) _ (zero-misfit v l h.0 q.0) (fits-refusal (k (spelled v)) vs h.1 q.2)
fits-refusal (end b) (v ∷ vs) h q = elim q [ ]
fits-refusal (field x l b k) [] h q = elim q [ ]
