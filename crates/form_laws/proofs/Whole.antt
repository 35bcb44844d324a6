-- What a function's contract by `whole` says, of the reading of a message's body.
use mathlib.Core.Path.{◌≡◌, refl, sym, ap, ◌∙◌}
use mathlib.Core.Bool.{Bool, true, false, cond}
use mathlib.Core.List.{List, [], ◌∷◌, ◌++◌, append_assoc}
use mathlib.Core.Option.{Option, none, some}
use Prim.Native.Nat.{ℕ, zero, suc, ◌+◌, ◌-◌, ◌≤◌, ◌<◌}
use native.Mathlib.Omega.{arith}
use lib.ListN.{length, take, drop, length-append, length-drop, take-append-drop}
use lib.Seq.{drop-drop, take_at, drop_at}
use lib.Dec.{ltb, eqb}
use borrow.Author.Tests.{lt-ltb, le-ltb, ne_eqb}
use Rattle.form_spec.specs.Octets.{be}
use Rattle.form_spec.specs.Fmt.{Out, bad, good, bind, refuse_if, Fmt, end, test, field, read, join, over_at, find}
use Rattle.form_spec.specs.Words.{choose}
use Rattle.form_spec.specs.Body.{Body, plain, loose, just, free, ended, read_body}
use Rattle.form_spec.specs.Shape.{front_of, value}
use Rattle.form_spec.specs.Pass.{Seen, number_of, size_of, place_of, field_octets, pass, whole}
use Rattle.form_laws.proofs.Pass.{seen, outcome, pass-read}

-- ---- the fields and the rest are the octets that were there

abbrev pub Kept : List ℕ → Out (List (List ℕ)) → Type 0
Kept bs (bad n p) = Unit
Kept bs (good cs r) = join cs ++ r ≡ bs

kept_field : (l : ℕ) (bs : List ℕ) (o : Out (List (List ℕ))) → Kept (drop l bs) o → Kept bs (bind o (λ cs r. good (take l bs ∷ cs) r))
kept_field l bs (bad n p) h = tt
kept_field l bs (good cs r) h = rw (append_assoc, h, take-append-drop)

kept_refuse : (t : Bool) (bs : List ℕ) (p : ℕ) (o : Out (List (List ℕ))) → Kept bs o → Kept bs (refuse_if t 5 p o)
kept_refuse true bs p o h = tt
kept_refuse false bs p o h = h

pub read_kept : (f : Fmt) (at : ℕ) (bs : List ℕ) → Kept bs (read f at bs)
unfolding read
read_kept (end b) at bs = refl
read_kept (test zero b f) at bs = read_kept f at bs
read_kept (test (suc n) b f) at bs = tt
read_kept (field x l b k) at bs =
    kept_refuse (ltb (length bs) l) bs (at - b) _ (kept_field l bs (read (k (take l bs)) (at + l) (drop l bs)) (read_kept (k (take l bs)) (at + l) (drop l bs)))

-- ---- the whole of a message

module _ {A : Type 0} where
  unfoldable pub outcome_body : (List Seen → A) → (ℕ → ℕ → A) → Fmt → ℕ → Out Body → A
  outcome_body to fault f i (bad n p) = fault n p
  outcome_body to fault f i (good b r) = to (seen f i (front_of b))

  -- `whole` is `read_body`: number, place and fields
  pub whole_body : (to : List Seen → A) (fault : ℕ → ℕ → A) (f : Fmt) (m : List ℕ) (i : ℕ) → i ≤ length m
      → whole to fault f m i ≡ outcome_body to fault f i (read_body (just f) i (drop i m))
  unfolding read_body outcome outcome_body choose
  whole_body to fault f m i h =
      pass-read (λ fs a p. choose (ltb a (length m)) (fault 6 p) (to fs)) fault f m i h ∙ go (read f i (drop i m)) (read_kept f i (drop i m))
    where
      left : (cs : List (List ℕ)) (r : List ℕ) → join cs ++ r ≡ drop i m → i + length (join cs) + length r ≡ length m
      left cs r e =
          let q : length (join cs) + length r ≡ length m - i = sym (length-append (join cs) r) ∙ ap length e ∙ length-drop i m in
          omega arith

      go : (o : Out (List (List ℕ))) → Kept (drop i m) o
          → outcome (λ fs a p. choose (ltb a (length m)) (fault 6 p) (to fs)) fault f i o
          ≡ outcome_body to fault f i (bind o (λ cs r. ended (i + length (join cs) - over_at f cs) (plain cs) r))
      go (bad n p) e = refl
      go (good cs []) e = let q : length m ≤ i + length (join cs) = omega (arith, left cs [] e) in rw (le-ltb _ _ q)
      go (good cs (x ∷ r)) e = let q : i + length (join cs) < length m = omega (arith, left cs (x ∷ r) e) in rw (lt-ltb _ _ q)

-- fields, and then anything: the offset after the fields is where it starts
module _ {A : Type 0} where
  unfoldable pub outcome_free : (List Seen → ℕ → A) → (ℕ → ℕ → A) → Fmt → ℕ → Out Body → A
  outcome_free to fault f i (bad n p) = fault n p
  outcome_free to fault f i (good b r) = to (seen f i (front_of b)) (i + length (join (front_of b)))

  pub pass_free : (to : List Seen → ℕ → A) (fault : ℕ → ℕ → A) (f : Fmt) (m : List ℕ) (i : ℕ) → i ≤ length m
      → pass (λ fs a p. to fs a) fault f m i ≡ outcome_free to fault f i (read_body (free f) i (drop i m))
  unfolding read_body outcome outcome_free
  pass_free to fault f m i h = pass-read (λ fs a p. to fs a) fault f m i h ∙ go (read f i (drop i m))
    where
      go : (o : Out (List (List ℕ))) → outcome (λ fs a p. to fs a) fault f i o ≡ outcome_free to fault f i (bind o (λ cs r. good (loose cs r) []))
      go (bad n p) = refl
      go (good cs r) = refl

-- ---- fields by name

abbrev pub octets_in : Option (List ℕ) → List ℕ
octets_in none = []
octets_in (some c) = c

unnamed : (x : ℕ) → eqb (suc x) 0 ≡ false
unnamed x = ne_eqb (suc x) 0 (λ e. omega arith)

rest_at : (c : List ℕ) (cs : List (List ℕ)) (i : ℕ) (m r : List ℕ) → (c ++ join cs) ++ r ≡ drop i m → join cs ++ r ≡ drop (i + length c) m
rest_at c cs i m r h = sym (drop_at c (join cs ++ r) (length c) refl) ∙ ap (drop (length c)) (sym (append_assoc c (join cs) r) ∙ h) ∙ drop-drop (length c) i m

-- the octets of a field that was shown are those that the grammar finds; 0 is no name
pub octets-find : (x : ℕ) (f : Fmt) (i : ℕ) (cs : List (List ℕ)) (m r : List ℕ) → join cs ++ r ≡ drop i m
    → field_octets (suc x) m (seen f i cs) ≡ octets_in (find (suc x) f cs)
unfolding seen find
octets-find x (end b) i cs m r h = refl
octets-find x (test n b f) i cs m r h = octets-find x f i cs m r h
octets-find x (field y l b k) i [] m r h = refl
octets-find x (field zero l b k) i (c ∷ cs) m r h = rw (unnamed x) (octets-find x (k c) (i + length c) cs m r (rest_at c cs i m r h))
octets-find x (field (suc y) l b k) i (c ∷ cs) m r h = go (eqb (suc x) (suc y)) (octets-find x (k c) (i + length c) cs m r (rest_at c cs i m r h))
  where
    fs : List Seen
    fs = seen (k c) (i + length c) cs

    go : (t : Bool) → field_octets (suc x) m fs ≡ octets_in (find (suc x) (k c) cs)
        → take (cond t (length c) (size_of (suc x) fs)) (drop (cond t i (place_of (suc x) fs)) m) ≡ octets_in (cond t (some c) (find (suc x) (k c) cs))
    go true e = rw (← h, append_assoc) (take_at c (join cs ++ r) (length c) refl)
    go false e = e

-- and so is its number
pub number-find : (x : ℕ) (f : Fmt) (i : ℕ) (cs : List (List ℕ)) → number_of (suc x) (seen f i cs) ≡ value (find (suc x) f cs)
unfolding seen find
number-find x (end b) i cs = refl
number-find x (test n b f) i cs = number-find x f i cs
number-find x (field y l b k) i [] = refl
number-find x (field zero l b k) i (c ∷ cs) = rw (unnamed x) (number-find x (k c) (i + length c) cs)
number-find x (field (suc y) l b k) i (c ∷ cs) = go (eqb (suc x) (suc y)) (number-find x (k c) (i + length c) cs)
  where
    go : (t : Bool) → number_of (suc x) (seen (k c) (i + length c) cs) ≡ value (find (suc x) (k c) cs)
        → cond t (be c) (number_of (suc x) (seen (k c) (i + length c) cs)) ≡ value (cond t (some c) (find (suc x) (k c) cs))
    go true e = refl
    go false e = e
