-- A body of fields, a count and items is read as one format is that has the items one after another.
use mathlib.Core.Path.{◌≡◌, refl, sym, ap, ◌∙◌, subst}
use mathlib.Core.Bool.{Bool, true, false}
use mathlib.Core.List.{List, [], ◌∷◌, ◌++◌, append_assoc}
use Prim.Native.Nat.{ℕ, zero, suc, ◌+◌, ◌-◌, ◌≤◌}
use native.Mathlib.Omega.{arith}
use lib.ListN.{length, take, drop, length-append}
use lib.Seq.{length-take-le}
use lib.Dec.{ltb}
use borrow.Author.Tests.{ltb-false}
use Rattle.form_spec.specs.Octets.{Octets, be, to_be}
use Rattle.form_spec.specs.Fmt.{Out, bad, good, bind, refuse_if, Fmt, end, test, field, read, join, over_at}
use Rattle.form_spec.specs.Words.{num}
use Rattle.form_spec.specs.Body.{read_n, joins, just, many, Body, plain, listed, ended, read_body}
use Rattle.form_spec.specs.Shape.{front_of, items_of}
use Rattle.form_spec.specs.Pass.{Seen, whole, ◌⨾◌, times, counted}
use Rattle.form_laws.proofs.Octets.{octets-take, octets_right, to_be_at}
use Rattle.form_laws.proofs.Then.{after, flat, flatly, read_then, read-times}
use Rattle.form_laws.proofs.Whole.{Kept, read_kept, outcome_body, whole_body}

-- ---- where what is left over is placed

module _ (g : Fmt) where
  abbrev Over : Fmt → Out (List (List ℕ)) → Type 0
  Over f (bad n p) = Unit
  Over f (good cs r) = (ds : List (List ℕ)) → over_at (f ⨾ g) (cs ++ ds) ≡ over_at g ds

  over_test : (n b : ℕ) (f : Fmt) (o : Out (List (List ℕ))) → Over f o → Over (test n b f) o
  unfolding over_at ◌⨾◌
  over_test n b f (bad m p) h = tt
  over_test n b f (good cs r) h = h

  over_field : (x l b : ℕ) (k : List ℕ → Fmt) (c : List ℕ) (o : Out (List (List ℕ))) → Over (k c) o → Over (field x l b k) (bind o (λ cs r. good (c ∷ cs) r))
  unfolding over_at ◌⨾◌
  over_field x l b k c (bad n p) h = tt
  over_field x l b k c (good cs r) h = h

  over_refuse : (t : Bool) (p : ℕ) (f : Fmt) (o : Out (List (List ℕ))) → Over f o → Over f (refuse_if t 5 p o)
  over_refuse true p f o h = tt
  over_refuse false p f o h = h

  over_read : (f : Fmt) (at : ℕ) (bs : List ℕ) → Over f (read f at bs)
  unfolding read ◌⨾◌
  over_read (end b) at bs = λ ds. refl
  over_read (test zero b f) at bs = over_test zero b f (read f at bs) (over_read f at bs)
  over_read (test (suc n) b f) at bs = tt
  over_read (field x l b k) at bs =
      over_refuse (ltb (length bs) l) (at - b) (field x l b k) _
      (over_field x l b k (take l bs) (read (k (take l bs)) (at + l) (drop l bs)) (over_read (k (take l bs)) (at + l) (drop l bs)))

-- n items were read, and what is left over is placed where they end
abbrev Read : Fmt → ℕ → Out (List (List (List ℕ))) → Type 0
Read f n (bad m p) = Unit
Read f n (good its r) = (length its ≡ n) × (over_at (times n f) (flat its) ≡ 0)

read-items : (f : Fmt) (n at : ℕ) (bs : List ℕ) → Read f n (read_n f n at bs)
unfolding read_n times over_at
read-items f zero at bs = (refl, refl)
read-items f (suc n) at bs = go (read f at bs) (over_read (times n f) f at bs) (λ a r. read-items f n a r)
  where
    keep : (cs : List (List ℕ)) → ((ds : List (List ℕ)) → over_at (f ⨾ times n f) (cs ++ ds) ≡ over_at (times n f) ds) → (o : Out (List (List (List ℕ)))) → Read f n o
        → Read f (suc n) (bind o (λ its q. good (cs ∷ its) q))
    keep cs h (bad m p) q = tt
    keep cs h (good its r) q = (ap suc q.0, h (flat its) ∙ q.1)

    go : (o : Out (List (List ℕ))) → Over (times n f) f o → ((a : ℕ) (r : List ℕ) → Read f n (read_n f n a r))
        → Read f (suc n) (bind o (λ cs r. bind (read_n f n (at + length (join cs)) r) (λ its q. good (cs ∷ its) q)))
    go (bad m p) h i = tt
    go (good cs r) h i = keep cs h (read_n f n (at + length (join cs)) r) (i (at + length (join cs)) r)

join-append : (cs ds : List (List ℕ)) → join (cs ++ ds) ≡ join cs ++ join ds
join-append [] ds = refl
join-append (c ∷ cs) ds = rw (join-append cs ds, append_assoc)

join_flat : (its : List (List (List ℕ))) → join (flat its) ≡ joins its
join_flat [] = refl
join_flat (c ∷ cs) = join-append c (flat cs) ∙ rw (join_flat cs)

-- ---- the law

-- a body's fields, the count's octets and the items' fields
abbrev pub in_row : Body → List (List ℕ)
in_row b = front_of b ++ (to_be 2 (length (items_of b)) ∷ flat (items_of b))

abbrev pub flat_body : Out Body → Out Body
flat_body (bad n p) = bad n p
flat_body (good b r) = good (plain (in_row b)) r

module _ (x : ℕ) (f g : Fmt) (at : ℕ) where
  last : (cs : List (List ℕ)) (c : List ℕ) (its : List (List (List ℕ))) (q : List ℕ) → length c ≡ 2 → Octets c
      → ((ds : List (List ℕ)) → over_at (f ⨾ counted x g) (cs ++ ds) ≡ over_at (counted x g) ds) → (length its ≡ be c) × (over_at (times (be c) g) (flat its) ≡ 0)
      → ended (at + length (join (cs ++ (c ∷ flat its))) - over_at (f ⨾ counted x g) (cs ++ (c ∷ flat its))) (plain (cs ++ (c ∷ flat its))) q
      ≡ flat_body (ended (at + length (join cs) + 2 + length (joins its)) (listed cs its) q)
  unfolding num over_at
  last cs c its [] l o h i = rw (i.0, to_be_at 2 c l o)
  last cs c its (y ∷ q) l o h i =
      let e : length (join (cs ++ (c ∷ flat its))) ≡ length (join cs) + (2 + length (joins its)) = rw (join-append cs (c ∷ flat its), join_flat its, length-append (join cs), length-append c, l) in
      let z : over_at (f ⨾ counted x g) (cs ++ (c ∷ flat its)) ≡ 0 = h (c ∷ flat its) ∙ i.1 in
      ap (bad 6) (omega arith)

  from_count : (cs : List (List ℕ)) (r : List ℕ) → Octets r → ((ds : List (List ℕ)) → over_at (f ⨾ counted x g) (cs ++ ds) ≡ over_at (counted x g) ds)
      → bind (after (counted x g) at cs r) (λ ds q. ended (at + length (join ds) - over_at (f ⨾ counted x g) ds) (plain ds) q)
      ≡ flat_body (refuse_if (ltb (length r) 2) 5 (at + length (join cs))
      (bind (read_n g (be (take 2 r)) (at + length (join cs) + 2) (drop 2 r)) (λ its q. ended (at + length (join cs) + 2 + length (joins its)) (listed cs its) q)))
  unfolding num read
  from_count cs r oc h =
      rw (read-times (be (take 2 r)) g (at + length (join cs) + 2) (drop 2 r))
      (go (ltb (length r) 2) refl (read_n g (be (take 2 r)) (at + length (join cs) + 2) (drop 2 r)) (read-items g (be (take 2 r)) (at + length (join cs) + 2) (drop 2 r)))
    where
      go : (t : Bool) → ltb (length r) 2 ≡ t → (o : Out (List (List (List ℕ)))) → Read g (be (take 2 r)) o
          → bind (bind (refuse_if t 5 (at + length (join cs) - 0) (bind (flatly o) (λ ds q. good (take 2 r ∷ ds) q))) (λ ds q. good (cs ++ ds) q))
          (λ ds q. ended (at + length (join ds) - over_at (f ⨾ counted x g) ds) (plain ds) q)
          ≡ flat_body (refuse_if t 5 (at + length (join cs)) (bind o (λ its q. ended (at + length (join cs) + 2 + length (joins its)) (listed cs its) q)))
      go true e o i = ap (bad 5) (omega arith)
      go false e (bad n p) i = refl
      go false e (good its q) i = last cs (take 2 r) its q (length-take-le 2 r (ltb-false _ _ e)) (octets-take 2 r oc) h i

  pub body-many : (bs : List ℕ) → Octets bs → read_body (just (f ⨾ counted x g)) at bs ≡ flat_body (read_body (many f g) at bs)
  unfolding read_body
  body-many bs oc = rw (read_then f (counted x g) at bs) (go (read f at bs) (read_kept f at bs) (over_read (counted x g) f at bs))
    where
      go : (o : Out (List (List ℕ))) → Kept bs o → Over (counted x g) f o
          → bind (bind o (after (counted x g) at)) (λ ds q. ended (at + length (join ds) - over_at (f ⨾ counted x g) ds) (plain ds) q)
          ≡ flat_body (bind o (λ cs r. refuse_if (ltb (length r) 2) 5 (at + length (join cs))
          (bind (read_n g (be (take 2 r)) (at + length (join cs) + 2) (drop 2 r)) (λ its q. ended (at + length (join cs) + 2 + length (joins its)) (listed cs its) q))))
      go (bad n p) k h = refl
      go (good cs r) k h = from_count cs r (octets_right (join cs) r (subst Octets (sym k) oc)) h

-- `whole` of a head, a count and items is `read_body (many ..)`: number, place and fields
pub whole_many : {A : Type 0} (to : List Seen → A) (fault : ℕ → ℕ → A) (x : ℕ) (f g : Fmt) (m : List ℕ) (i : ℕ) → i ≤ length m → Octets (drop i m)
    → whole to fault (f ⨾ counted x g) m i ≡ outcome_body to fault (f ⨾ counted x g) i (flat_body (read_body (many f g) i (drop i m)))
whole_many to fault x f g m i h oc = whole_body to fault (f ⨾ counted x g) m i h ∙ ap (outcome_body to fault (f ⨾ counted x g) i) (body-many x f g i (drop i m) oc)
