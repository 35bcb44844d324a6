-- What is read by a format is what its grammar says, both ways.
use mathlib.Core.Path.{◌≡◌, refl, ◌∙◌}
use mathlib.Core.Bool.{Bool, true, false}
use mathlib.Core.List.{List, [], ◌∷◌, ◌++◌, append_assoc}
use Prim.Native.Nat.{ℕ, zero, suc, ◌+◌, ◌-◌, ◌≤◌}
use native.Mathlib.Omega.{arith}
use lib.ListN.{length, take, drop, length-append, take-append-drop}
use lib.Seq.{take_at, drop_at, length-take-le}
use lib.Dec.{ltb}
use borrow.Author.Tests.{ltb-false, le-ltb}
use Rattle.form_spec.specs.Octets.{Octets}
use Rattle.form_spec.specs.Fmt.{Out, bad, good, guard, refuse_if, bind, Fmt, end, test, field, read, Fits, join}
use Rattle.form_laws.proofs.Octets.{octets-take, octets-drop, octets-append}

-- what is right of an outcome of reading bs: a fault has a number; a value is valid, and its octets and those left are bs
module _ {A : Type 0} (P : A → Type 0) (e : A → List ℕ) where
  abbrev pub Right : List ℕ → Out A → Type 0
  Right bs (bad n p) = n ≡ 0 → ⊥
  Right bs (good a r) = P a × (e a ++ r ≡ bs)

  pub right_guard : (bs : List ℕ) (n p : ℕ) (o : Out A) → (n ≡ 0 → Right bs o) → Right bs (guard n p o)
  right_guard bs zero p o h = h refl
  right_guard bs (suc n) p o h = λ z. omega arith

pub refuse_case : {A : Type 0} (Z : Out A → Type 0) (n p : ℕ) (o : Out A) (t : Bool) → Z (bad n p) → (t ≡ false → Z o) → Z (refuse_if t n p o)
refuse_case Z n p o true z h = z
refuse_case Z n p o false z h = h refl

module _ {A B : Type 0} (P : A → Type 0) (e : A → List ℕ) (Z : Out B → Type 0) where
  pub right_bind : (bs : List ℕ) (o : Out A) (k : A → List ℕ → Out B) → ((n p : ℕ) → (n ≡ 0 → ⊥) → Z (bad n p)) → Right P e bs o
      → ((a : A) (r : List ℕ) → P a → e a ++ r ≡ bs → Z (k a r)) → Z (bind o k)
  right_bind bs (bad n p) k b q h = b n p q
  right_bind bs (good a r) k b q h = h a r q.0 q.1

right_field : (x l b : ℕ) (k : List ℕ → Fmt) (bs : List ℕ) → Octets bs → l ≤ length bs → (o : Out (List (List ℕ)))
    → Right (Fits (k (take l bs))) join (drop l bs) o → Right (Fits (field x l b k)) join bs (bind o (λ cs r. good (take l bs ∷ cs) r))
unfolding Fits
right_field x l b k bs oc h (bad n p) q = q
right_field x l b k bs oc h (good cs r) q = ((length-take-le l bs h, octets-take l bs oc, q.0), rw (append_assoc, q.1, take-append-drop))

right_test : (n b p : ℕ) (f : Fmt) (bs : List ℕ) (o : Out (List (List ℕ))) → Right (Fits f) join bs o → Right (Fits (test n b f)) join bs (guard n p o)
unfolding Fits
right_test zero b p f bs (bad m q) h = h
right_test zero b p f bs (good cs r) h = ((refl, h.0), h.1)
right_test (suc n) b p f bs o h = λ z. omega arith

-- what reading accepts is the grammar's, with the octets that were there
pub sound : (f : Fmt) (at : ℕ) (bs : List ℕ) → Octets bs → Right (Fits f) join bs (read f at bs)
unfolding read Fits
sound (end b) at bs oc = (tt, refl)
sound (test n b f) at bs oc = right_test n b (at - b) f bs (read f at bs) (sound f at bs oc)
sound (field x l b k) at bs oc =
    refuse_case (Right (Fits (field x l b k)) join bs) 5 (at - b) _ (ltb (length bs) l) (λ z. omega arith)
    (λ h. right_field x l b k bs oc (ltb-false _ _ h) (read (k (take l bs)) (at + l) (drop l bs)) (sound (k (take l bs)) (at + l) (drop l bs) (octets-drop l bs oc)))

-- a field whose octets are there is read, whatever follows
pub read_field : (x l b : ℕ) (k : List ℕ → Fmt) (at : ℕ) (c q : List ℕ) → length c ≡ l
    → read (field x l b k) at (c ++ q) ≡ bind (read (k c) (at + l) q) (λ cs r. good (c ∷ cs) r)
unfolding read
read_field x l b k at c q e =
    let g : l ≤ length (c ++ q) = simp length-append (omega arith) in
    rw (le-ltb _ _ g, take_at c q l e, drop_at c q l e)

-- what is the grammar's is read back, whatever follows
pub complete : (f : Fmt) (at : ℕ) (cs : List (List ℕ)) (r : List ℕ) → Fits f cs → read f at (join cs ++ r) ≡ good cs r
unfolding read Fits
complete (end b) at [] r h = refl
complete (test n b f) at cs r h = rw h.0 (complete f at cs r h.1)
complete (field x l b k) at (c ∷ cs) r h = rw (append_assoc c (join cs) r) (read_field x l b k at c (join cs ++ r) h.0 ∙ rw (complete (k c) (at + l) cs r h.2))
complete (end b) at (c ∷ cs) r h = elim h [ ]
complete (field x l b k) at [] r h = elim h [ ]

pub fits-octets : (f : Fmt) (cs : List (List ℕ)) → Fits f cs → Octets (join cs)
unfolding Fits
fits-octets (end b) [] h = tt
fits-octets (test n b f) cs h = fits-octets f cs h.1
fits-octets (field x l b k) (c ∷ cs) h = octets-append c (join cs) h.1 (fits-octets (k c) cs h.2)
fits-octets (end b) (c ∷ cs) h = elim h [ ]
fits-octets (field x l b k) [] h = elim h [ ]
