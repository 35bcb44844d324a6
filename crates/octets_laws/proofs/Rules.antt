-- The rules by which `search flow` follows code through a page's format: one for each way out of a field and of a test.
use mathlib.Core.Path.{◌≡◌, refl, sym, ap, ◌∙◌}
use mathlib.Core.List.{List, []}
use mathlib.Core.Bool.{Bool, true, false}
use Prim.Native.Nat.{ℕ, zero, suc, ◌+◌, ◌-◌, ◌<◌, ◌≤◌}
use native.Mathlib.Omega.{arith}
use borrow.Author.Tests.{lt-ltb, le-ltb, le-leb, lt-leb, eq-eqb, ne_eqb, ltb-true, ltb-false}
use lib.Dec.{ltb}
use lib.ListN.{length, take, drop}
use Rattle.form_spec.specs.Octets.{be}
use Rattle.form_spec.specs.Fmt.{Fmt, end, test, field}
use Rattle.form_spec.specs.Words.{choose, num, skip, part, must, fail, checked, tested, area}
use Rattle.form_spec.specs.Pass.{Seen, note, pass}
pub use Rattle.form_laws.proofs.Range.{inside, below, above}
use Rattle.octets_spec.specs.Be.{num_at}
use Rattle.octets_spec.specs.Field.{Num, field_at, room_at}
use Rattle.std.specs.Prelude.{Result, Ok, Err}
use Rattle.form_spec.specs.Refusal.{refused}
use Rattle.form_spec.specs.declared.Fault.{Fault}

-- ---- what the two readers of fields say

pub record Read (m : List ℕ) (i w v a : ℕ) : Type 0 where
  pub there : i + w ≤ length m
  pub value : v ≡ num_at m i w
  pub next : a ≡ i + w

-- what was read, of an answer that reads
abbrev told : Result (ℕ × ℕ) Fault → ℕ × ℕ
told (Ok r) = r
told (Err why) = (0, 0)

pub is_read : (m : List ℕ) (i w v a : ℕ) → Num v a ≡ field_at m i w → Read m i w v a
unfolding field_at choose
is_read m i w v a p = go (ltb (length m) (i + w)) refl p
  where
    go : (b : Bool) → ltb (length m) (i + w) ≡ b → Num v a ≡ choose b (refused 5 i) (Num (num_at m i w) (i + w)) → Read m i w v a
    go true t h = let z : ◌≡◌ {A = ℕ} 0 1 = cc in absurd (omega arith)
    go false t h = record { there = ltb-false (length m) (i + w) t; value = ap (λ r. (told r).0) h; next = ap (λ r. (told r).1) h }

-- a field that is not all there is refused with 5, where it starts
pub record Short (m : List ℕ) (i w : ℕ) (why : Fault) : Type 0 where
  pub lacks : length m < i + w
  pub number : why.number ≡ 5
  pub place : why.place ≡ i

pub is_short : (m : List ℕ) (i w : ℕ) (why : Fault) → Err why ≡ field_at m i w → Short m i w why
unfolding field_at choose
is_short m i w why p = go (ltb (length m) (i + w)) refl p
  where
    go : (b : Bool) → ltb (length m) (i + w) ≡ b → Err why ≡ choose b (refused 5 i) (Num (num_at m i w) (i + w)) → Short m i w why
    go true t h = record { lacks = ltb-true (length m) (i + w) t; number = (cc); place = (cc) }
    go false t h = let z : ◌≡◌ {A = ℕ} 0 1 = cc in absurd (omega arith)

pub record Past (m : List ℕ) (i w a : ℕ) : Type 0 where
  pub there : i + w ≤ length m
  pub next : a ≡ i + w

pub is_past : (m : List ℕ) (i w a : ℕ) → Ok a ≡ room_at m i w → Past m i w a
unfolding room_at choose
is_past m i w a p = go (ltb (length m) (i + w)) refl p
  where
    go : (b : Bool) → ltb (length m) (i + w) ≡ b → Ok a ≡ choose b (refused 5 i) (Ok (i + w)) → Past m i w a
    go true t h = let z : ◌≡◌ {A = ℕ} 0 1 = cc in absurd (omega arith)
    go false t h = record { there = ltb-false (length m) (i + w) t; next = (cc) }

pub no_past : (m : List ℕ) (i w : ℕ) (why : Fault) → Err why ≡ room_at m i w → Short m i w why
unfolding room_at choose
no_past m i w why p = go (ltb (length m) (i + w)) refl p
  where
    go : (b : Bool) → ltb (length m) (i + w) ≡ b → Err why ≡ choose b (refused 5 i) (Ok (i + w)) → Short m i w why
    go true t h = record { lacks = ltb-true (length m) (i + w) t; number = (cc); place = (cc) }
    go false t h = let z : ◌≡◌ {A = ℕ} 0 1 = cc in absurd (omega arith)

-- octets that were passed over are there: what `part` asks
pub lies_there : (m : List ℕ) (i w a : ℕ) → Ok a ≡ room_at m i w → i + w ≤ length m
lies_there m i w a p = (is_past m i w a p).there

-- ---- the rules

module _ {A : Type 0} (to : List Seen → ℕ → ℕ → A) (fault : ℕ → ℕ → A) (m : List ℕ) where
  short : (x w b i : ℕ) (k : List ℕ → Fmt) → length m < i + w → fault 5 (i - b) ≡ pass to fault (field x w b k) m i
  unfolding pass
  short x w b i k h = rw (lt-ltb _ _ h)

  short0 : (x w i : ℕ) (k : List ℕ → Fmt) → length m < i + w → fault 5 i ≡ pass to fault (field x w 0 k) m i
  short0 x w i k h = let e : i ≡ i - 0 = omega arith in ap (fault 5) e ∙ short x w 0 i k h

  long : (x w b i : ℕ) (k : List ℕ → Fmt) → i + w ≤ length m
      → pass (λ fs. to (note x i w (i + w) (be (take w (drop i m))) fs)) fault (k (take w (drop i m))) m (i + w) ≡ pass to fault (field x w b k) m i
  unfolding pass
  long x w b i k h = rw (le-ltb _ _ h)

  -- a number that is there, and one that is not
  pub num_there : (x w i v a : ℕ) (k : ℕ → Fmt) (y : A) → Num v a ≡ field_at m i w
      → y ≡ pass (λ fs. to (note x i w a v fs)) fault (k v) m a → y ≡ pass to fault (num x w k) m i
  unfolding num num_at
  num_there x w i v a k y p h =
      let s = is_read m i w v a p in
      rw (s.value, s.next) at h ∙ long x w 0 i (λ c. k (be c)) s.there

  pub num_short : (x w i : ℕ) (k : ℕ → Fmt) (why : Fault) (y : A) → Err why ≡ field_at m i w → y ≡ fault why.number why.place → y ≡ pass to fault (num x w k) m i
  unfolding num
  num_short x w i k why y p h = let s = is_short m i w why p in h ∙ rw (s.number, s.place) (short0 x w i (λ c. k (be c)) s.lacks)

  -- octets that are carried
  pub skip_there : (x w i a : ℕ) (f : Fmt) (y : A) → Ok a ≡ room_at m i w
      → y ≡ pass (λ fs. to (note x i w a (be (take w (drop i m))) fs)) fault f m a → y ≡ pass to fault (skip x w f) m i
  unfolding skip
  skip_there x w i a f y p h =
      let s = is_past m i w a p in
      rw s.next at h ∙ long x w 0 i (λ c. f) s.there

  pub skip_short : (x w i : ℕ) (f : Fmt) (why : Fault) (y : A) → Err why ≡ room_at m i w → y ≡ fault why.number why.place → y ≡ pass to fault (skip x w f) m i
  unfolding skip
  skip_short x w i f why y p h = let s = no_past m i w why p in h ∙ rw (s.number, s.place) (short0 x w i (λ c. f) s.lacks)

  -- octets on which the rest depends
  pub part_there : (x w i a : ℕ) (k : List ℕ → Fmt) (y : A) → Ok a ≡ room_at m i w
      → y ≡ pass (λ fs. to (note x i w a (be (take w (drop i m))) fs)) fault (k (take w (drop i m))) m a → y ≡ pass to fault (part x w k) m i
  unfolding part
  part_there x w i a k y p h =
      let s = is_past m i w a p in
      rw s.next at h ∙ long x w 0 i k s.there

  pub part_short : (x w i : ℕ) (k : List ℕ → Fmt) (why : Fault) (y : A) → Err why ≡ room_at m i w → y ≡ fault why.number why.place → y ≡ pass to fault (part x w k) m i
  unfolding part
  part_short x w i k why y p h = let s = no_past m i w why p in h ∙ rw (s.number, s.place) (short0 x w i k s.lacks)

  -- a test that holds, and one that does not: the fault is at the number that was read last
  pub must_yes : (b : Bool) (n w i : ℕ) (f : Fmt) (y : A) → b ≡ true → y ≡ pass to fault f m i → y ≡ pass to fault (must b n w f) m i
  unfolding must pass
  must_yes b n w i f y e h = h ∙ rw e

  wrong : (n w i : ℕ) (f : Fmt) → ltb 0 n ≡ true → fault n (i - w) ≡ pass to fault (test n w f) m i
  unfolding pass
  wrong zero w i f l = absurd (omega (arith, ltb-true 0 0 l))
  wrong (suc n) w i f l = refl

  pub must_no : (b : Bool) (n w i d v : ℕ) (f : Fmt) (y : A) → b ≡ false → Num v i ≡ field_at m d w → ltb 0 n ≡ true → y ≡ fault n d → y ≡ pass to fault (must b n w f) m i
  unfolding must
  must_no b n w i d v f y e p l h =
      let s = is_read m d w v i p in
      let g : i - w ≡ d = omega arith in
      h ∙ rw e (rw g at (wrong n w i f l))

  -- the same after octets that were not read as a number
  pub must_not : (b : Bool) (n w i d : ℕ) (f : Fmt) (y : A) → b ≡ false → Ok i ≡ room_at m d w → ltb 0 n ≡ true → y ≡ fault n d → y ≡ pass to fault (must b n w f) m i
  unfolding must
  must_not b n w i d f y e p l h =
      let s = is_past m d w i p in
      let g : i - w ≡ d = omega arith in
      h ∙ rw e (rw g at (wrong n w i f l))

  pub fails : (n w i d v : ℕ) (y : A) → Num v i ≡ field_at m d w → ltb 0 n ≡ true → y ≡ fault n d → y ≡ pass to fault (fail n w) m i
  unfolding fail
  fails n w i d v y p l h =
      let s = is_read m d w v i p in
      let g : i - w ≡ d = omega arith in
      h ∙ rw g at (wrong n w i (end 0) l)

  pub ends : (i : ℕ) (y : A) → y ≡ to [] i i → y ≡ pass to fault (end 0) m i
  unfolding pass
  ends i y h = let e : i ≡ i - 0 = omega arith in h ∙ ap (to [] i) e

-- a number with its own check: right, wrong, not there
module _ {A : Type 0} (to : List Seen → ℕ → ℕ → A) (fault : ℕ → ℕ → A) (m : List ℕ) where
  pub right : (x w n i v a : ℕ) (ok : ℕ → Bool) (k : ℕ → Fmt) (y : A) → Num v a ≡ field_at m i w → ok v ≡ true
      → y ≡ pass (λ fs. to (note x i w a v fs)) fault (k v) m a → y ≡ pass to fault (checked x w ok n k) m i
  unfolding checked num must
  right x w n i v a ok k y p e h =
      num_there to fault m x w i v a (λ v. must (ok v) n w (k v)) y p (must_yes (λ fs. to (note x i w a v fs)) fault m (ok v) n w a (k v) y e h)

  pub not_right : (x w n i v a : ℕ) (ok : ℕ → Bool) (k : ℕ → Fmt) (y : A) → Num v a ≡ field_at m i w → ok v ≡ false
      → ltb 0 n ≡ true → y ≡ fault n i → y ≡ pass to fault (checked x w ok n k) m i
  unfolding checked num must
  not_right x w n i v a ok k y p e l h =
      num_there to fault m x w i v a (λ v. must (ok v) n w (k v)) y p (must_no (λ fs. to (note x i w a v fs)) fault m (ok v) n w a i v (k v) y e p l h)

  pub not_there : (x w n i : ℕ) (ok : ℕ → Bool) (k : ℕ → Fmt) (why : Fault) (y : A) → Err why ≡ field_at m i w → y ≡ fault why.number why.place → y ≡ pass to fault (checked x w ok n k) m i
  unfolding checked num must
  not_there x w n i ok k why y p h = num_short to fault m x w i (λ v. must (ok v) n w (k v)) why y p h

-- what is placed w octets back, at d
module _ {A : Type 0} (to : List Seen → ℕ → ℕ → A) (fault : ℕ → ℕ → A) (m : List ℕ) where
  pub late_no : (b : Bool) (n w i d : ℕ) (f : Fmt) (y : A) → b ≡ false → i ≡ d + w → ltb 0 n ≡ true → y ≡ fault n d → y ≡ pass to fault (must b n w f) m i
  unfolding must
  late_no b n w i d f y e q l h =
      let g : i - w ≡ d = omega arith in
      h ∙ rw e (rw g at (wrong to fault m n w i f l))

  pub area_short : (x w b i d : ℕ) (f : Fmt) (why : Fault) (y : A) → Err why ≡ room_at m i w → i ≡ d + b → y ≡ fault 5 d → y ≡ pass to fault (area x w b f) m i
  unfolding area
  area_short x w b i d f why y p s h =
      let g : i - b ≡ d = omega arith in
      h ∙ (rw g at (short to fault m x w b i (λ c. f) (no_past m i w why p).lacks))

  pub area_there : (x w b i a : ℕ) (f : Fmt) (y : A) → Ok a ≡ room_at m i w
      → y ≡ pass (λ fs. to (note x i w a (be (take w (drop i m))) fs)) fault f m a → y ≡ pass to fault (area x w b f) m i
  unfolding area
  area_there x w b i a f y p h =
      let s = is_past m i w a p in
      rw s.next at h ∙ long to fault m x w b i (λ c. f) s.there

  pub late_end : (b i d : ℕ) (y : A) → i ≡ d + b → y ≡ to [] i d → y ≡ pass to fault (end b) m i
  unfolding pass
  late_end b i d y s h =
      let g : d ≡ i - b = omega arith in
      h ∙ ap (to [] i) g

-- octets with their own check, which a call answered of the part c
module _ {A : Type 0} (to : List Seen → ℕ → ℕ → A) (fault : ℕ → ℕ → A) (m : List ℕ) where
  pub good_part : (x w n i a : ℕ) (ok : List ℕ → Bool) (f : Fmt) (c : List ℕ) (t : Bool) (y : A) → Ok a ≡ room_at m i w → c ≡ take w (drop i m) → t ≡ ok c → t ≡ true
      → y ≡ pass (λ fs. to (note x i w a (be (take w (drop i m))) fs)) fault f m a → y ≡ pass to fault (tested x w ok n f) m i
  unfolding tested part must
  good_part x w n i a ok f c t y p e g z h =
      part_there to fault m x w i a (λ c. must (ok c) n w f) y p (must_yes (λ fs. to (note x i w a (be (take w (drop i m))) fs)) fault m (ok (take w (drop i m))) n w a f y (ap ok (sym e) ∙ sym g ∙ z) h)

  pub bad_part : (x w n i a : ℕ) (ok : List ℕ → Bool) (f : Fmt) (c : List ℕ) (t : Bool) (y : A) → Ok a ≡ room_at m i w → c ≡ take w (drop i m) → t ≡ ok c → t ≡ false
      → ltb 0 n ≡ true → y ≡ fault n i → y ≡ pass to fault (tested x w ok n f) m i
  unfolding tested part must
  bad_part x w n i a ok f c t y p e g z l h =
      part_there to fault m x w i a (λ c. must (ok c) n w f) y p (must_not (λ fs. to (note x i w a (be (take w (drop i m))) fs)) fault m (ok (take w (drop i m))) n w a i f y (ap ok (sym e) ∙ sym g ∙ z) p l h)

  pub no_part : (x w n i : ℕ) (ok : List ℕ → Bool) (f : Fmt) (why : Fault) (y : A) → Err why ≡ room_at m i w → y ≡ fault why.number why.place → y ≡ pass to fault (tested x w ok n f) m i
  unfolding tested part must
  no_part x w n i ok f why y p h = part_short to fault m x w i (λ c. must (ok c) n w f) why y p h

-- a choice, of formats and of answers
module _ {A : Type 0} (to : List Seen → ℕ → ℕ → A) (fault : ℕ → ℕ → A) (m : List ℕ) where
  pub takes_first : (b : Bool) (i : ℕ) (f g : Fmt) (y : A) → b ≡ true → y ≡ pass to fault f m i → y ≡ pass to fault (choose b f g) m i
  unfolding choose
  takes_first b i f g y e h = h ∙ rw e

  pub takes_second : (b : Bool) (i : ℕ) (f g : Fmt) (y : A) → b ≡ false → y ≡ pass to fault g m i → y ≡ pass to fault (choose b f g) m i
  unfolding choose
  takes_second b i f g y e h = h ∙ rw e

pub picks : {A : Type 0} (b : Bool) (x y z : A) → b ≡ true → x ≡ y → x ≡ choose b y z
unfolding choose
picks b x y z h e = e ∙ rw h

pub passes : {A : Type 0} (b : Bool) (x y z : A) → b ≡ false → x ≡ z → x ≡ choose b y z
unfolding choose
passes b x y z h e = e ∙ rw h

-- for a layout with faults placed before the field that was read last
pub ruleset late = (must_yes, late_no, area_short, area_there, late_end)

pub ruleset flow = (lies_there, num_there, num_short, skip_there, skip_short, good_part, bad_part, no_part, right, not_right, not_there, fails, ends, takes_first, takes_second, picks, passes, inside, below, above, lt-ltb, le-ltb, le-leb, lt-leb, eq-eqb, ne_eqb, arith)
