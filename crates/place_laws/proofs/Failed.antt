-- A format that places its faults at first octets of fields: whatever fault it finds, the octets are as that fault says.
use mathlib.Core.Path.{◌≡◌, refl, ◌∙◌}
use mathlib.Core.Bool.{Bool, true, false}
use mathlib.Core.Logic.{◌⊎◌, inl, inr, ⊎_elim}
use mathlib.Core.List.{List, [], ◌∷◌, ◌++◌, append_assoc}
use Prim.Native.Nat.{ℕ, zero, suc, ◌+◌, ◌-◌, ◌≤◌}
use native.Mathlib.Omega.{arith}
use native.Mathlib.Nat.{zero-add}
use lib.ListN.{length, take, drop, length-append, take-append-drop}
use lib.Seq.{length-take-le}
use lib.Dec.{ltb}
use borrow.Author.Tests.{ltb-true, ltb-false}
use Rattle.form_spec.specs.Fmt.{bad, refuse_if, Fmt, end, test, field, join}
use Rattle.place_spec.specs.About.{about, there_from}
use Rattle.place_spec.specs.Failed.{behind_fields, FieldsPass, judged, Fails, name_of, latest_of, Failed}
use Rattle.place_laws.proofs.Finish.{finish}

-- ---- no fields of a format

pub behind_none : (f : Fmt) → behind_fields f [] ≡ f
unfolding behind_fields
behind_none (end b) = refl
behind_none (test n b f) = refl
behind_none (field x l b k) = refl

passes_none : (f : Fmt) → FieldsPass f []
unfolding FieldsPass
passes_none (end b) = tt
passes_none (test n b f) = tt
passes_none (field x l b k) = tt

latest_none : (p : ℕ) (f : Fmt) → latest_of p f [] ≡ p
unfolding latest_of
latest_none p (end b) = refl
latest_none p (test n b f) = latest_none p f
latest_none p (field x l b k) = refl

-- ---- where a format places its faults

-- fields before it, names and sizes, the latest first
abbrev pub Trail : Type 0
Trail = List (ℕ × ℕ)

abbrev pub latest_in : Trail → ℕ
latest_in [] = 0
latest_in ((x, w) ∷ t) = x

-- one of the trail's fields starts b octets back, and the fault n is placed there; j fields are complete from the first of the trail on, and k are
-- to be from the place on
unfoldable pub Reaches : Trail → (n b j k : ℕ) → Type 0
Reaches [] n b j k = ⊥
Reaches ((x, w) ∷ t) n b j k = ((b ≡ w) × (j ≡ k) × (about n x ≡ true)) ⊎ ((w ≤ b) × Reaches t n (b - w) (suc j) k)

-- the fault n, found behind the trail and before the field x, is placed b octets back: there, or at a field of the trail
abbrev pub Placed : Trail → (n x b : ℕ) → Type 0
Placed t n x b = ((b ≡ 0) × (0 ≡ there_from n (latest_in t) x) × (about n x ≡ true)) ⊎ Reaches t n b 1 (there_from n (latest_in t) x)

-- every fault of the format, behind such a trail, is placed at a field; `Last` is asked of its end
module _ (Last : (back : ℕ) → Trail → Type 0) where
  unfoldable pub AimsTo : Fmt → Trail → Type 0
  AimsTo (end b) t = Last b t
  AimsTo (test zero b f) t = AimsTo f t
  AimsTo (test (suc n) b f) t = (judged (suc n) ≡ true) × Reaches t (suc n) b 1 (there_from (suc n) (latest_in t) (name_of f))
  AimsTo (field x l b k) t = Placed t 5 x b × ((c : List ℕ) → length c ≡ l → AimsTo (k c) ((x, l) ∷ t))

-- nothing follows: what is left over is placed too
abbrev pub Over : (back : ℕ) → Trail → Type 0
Over b t = Placed t 6 0 b

abbrev pub Aims : Fmt → Trail → Type 0
Aims f t = AimsTo Over f t

-- ---- the fault is at a field of the format, or at one of the trail, so many octets back

record Before (f : Fmt) (t : Trail) (at : ℕ) (bs : List ℕ) (n p : ℕ) : Type 0 where
  pub there : List (List ℕ)
  pub rest : List ℕ
  pub octets : join there ++ rest ≡ bs
  pub fails : Fails f there rest n
  pub back : ℕ
  pub place : p ≡ at - back
  pub reaches : Reaches t n back (suc (length there)) (there_from n (latest_of (latest_in t) f there) (name_of (behind_fields f there)))

abbrev Found : Fmt → Trail → (at : ℕ) (bs : List ℕ) (n p : ℕ) → Type 0
Found f t at bs n p = ((q : ℕ) × (p ≡ at + q) × Failed (latest_in t) f bs n q) ⊎ Before f t at bs n p

-- right here: at the field that follows, or back
here : (f : Fmt) (t : Trail) (at : ℕ) (bs : List ℕ) (n b : ℕ) → Fails f [] bs n → Placed t n (name_of f) b → Found f t at bs n (at - b)
here f t at bs n b h (inl z) =
    inl (
      0,
      omega (arith, z.0),
      record {
        before = [];
        there = [];
        rest = bs;
        octets = refl;
        place = refl;
        passes = passes_none f;
        fails = rw (behind_none f) h;
        counts = rw (behind_none f, latest_none (latest_in t) f) z.1;
        names = rw (behind_none f) z.2;
      },
    )
here f t at bs n b h (inr z) = inr (record { there = []; rest = bs; octets = refl; fails = h; back = b; place = refl; reaches = rw (behind_none f, latest_none (latest_in t) f) z })

module _ (x l b : ℕ) (k : List ℕ → Fmt) (t : Trail) (at : ℕ) (bs : List ℕ) (n p : ℕ) (whole : l ≤ length bs) where
  abbrev c : List ℕ
  c = take l bs

  long : length c ≡ l
  long = length-take-le l bs whole

  -- at a field further on
  later : (q : ℕ) → p ≡ at + l + q → Failed x (k c) (drop l bs) n q → Found (field x l b k) t at bs n p
  unfolding behind_fields FieldsPass latest_of
  later q e h =
      inl (
        l + q,
        omega arith,
        record {
          before = c ∷ h.before;
          there = h.there;
          rest = h.rest;
          octets = append_assoc c (join h.before) _ ∙ rw h.octets (take-append-drop l bs);
          place = rw (length-append, long, h.place);
          passes = (long, h.passes);
          fails = h.fails;
          counts = h.counts;
          names = h.names;
        },
      )

  -- at this field, or before it
  sooner : Before (k c) ((x, l) ∷ t) (at + l) (drop l bs) n p → Found (field x l b k) t at bs n p
  unfolding Reaches Fails FieldsPass behind_fields name_of latest_of
  sooner h =
      let o : (c ++ join h.there) ++ h.rest ≡ bs = append_assoc c (join h.there) _ ∙ rw h.octets (take-append-drop l bs) in
      ⊎_elim
      (λ z. inl (
        0,
        omega (arith, z.0, h.place),
        record {
          before = [];
          there = c ∷ h.there;
          rest = h.rest;
          octets = o;
          place = refl;
          passes = tt;
          fails = (long, h.fails);
          counts = z.1;
          names = z.2;
        },
      ))
      (λ z. inr (record {
        there = c ∷ h.there;
        rest = h.rest;
        octets = o;
        fails = (long, h.fails);
        back = h.back - l;
        place = omega (arith, z.0, h.place);
        reaches = z.1;
      }))
      h.reaches

-- a test that passes
module _ (b : ℕ) (f : Fmt) where
  fails_test : (cs : List (List ℕ)) (r : List ℕ) (n : ℕ) → Fails f cs r n → Fails (test zero b f) cs r n
  unfolding Fails
  fails_test [] r n h = inr (refl, h)
  fails_test (c ∷ cs) r n h = (refl, h)

  behind_test : (cs : List (List ℕ)) (r : List ℕ) (n : ℕ) (bs : List (List ℕ)) → Fails (behind_fields f bs) cs r n → Fails (behind_fields (test zero b f) bs) cs r n
  unfolding behind_fields
  behind_test cs r n [] h = fails_test cs r n (rw (behind_none f) at h)
  behind_test cs r n (c ∷ bs) h = h

  passes_test : (bs : List (List ℕ)) → FieldsPass f bs → FieldsPass (test zero b f) bs
  unfolding FieldsPass
  passes_test [] h = tt
  passes_test (c ∷ bs) h = (refl, h)

  name_test : (bs : List (List ℕ)) → name_of (behind_fields f bs) ≡ name_of (behind_fields (test zero b f) bs)
  unfolding behind_fields name_of
  name_test [] = rw (behind_none f)
  name_test (c ∷ bs) = refl

  past_test : (t : Trail) (at : ℕ) (bs : List ℕ) (n p : ℕ) → Found f t at bs n p → Found (test zero b f) t at bs n p
  unfolding latest_of
  past_test t at bs n p (inl z) =
      let h = z.2 in
      inl (
        z.0,
        z.1,
        record {
          before = h.before;
          there = h.there;
          rest = h.rest;
          octets = h.octets;
          place = h.place;
          passes = passes_test h.before h.passes;
          fails = behind_test h.there h.rest n h.before h.fails;
          counts = rw (← (name_test (h.before ++ h.there))) h.counts;
          names = rw (← (name_test h.before)) h.names;
        },
      )
  past_test t at bs n p (inr h) =
      inr (record {
        there = h.there;
        rest = h.rest;
        octets = h.octets;
        fails = fails_test h.there h.rest n h.fails;
        back = h.back;
        place = h.place;
        reaches = rw (← (name_test h.there)) h.reaches;
      })

-- ---- the law

found : (f : Fmt) (t : Trail) → Aims f t → (at : ℕ) (bs : List ℕ) (n p : ℕ) → finish f at bs ≡ bad n p → Found f t at bs n p
unfolding AimsTo finish Fails name_of
found (end b) t a at [] n p e = let z : ◌≡◌ {A = ℕ} 0 1 = cc in absurd (omega arith)
found (end b) t a at (x ∷ r) n p e =
    let m : 6 ≡ n = cc in
    let q : at - b ≡ p = cc in
    rw (← m, ← q) (here (end b) t at (x ∷ r) 6 b (refl, omega arith) a)
found (test zero b f) t a at bs n p e = past_test b f t at bs n p (found f t a at bs n p e)
found (test (suc m) b f) t a at bs n p e =
    let h : suc m ≡ n = cc in
    let q : at - b ≡ p = cc in
    rw (← h, ← q) (here (test (suc m) b f) t at bs (suc m) b (inl (refl, a.0)) (inr a.1))
found (field x l b k) t a at bs n p e = go (ltb (length bs) l) refl e (λ w. found (k (take l bs)) ((x, l) ∷ t) (a.1 (take l bs) (length-take-le l bs w)) (at + l) (drop l bs) n p)
  where
    go : (s : Bool) → ltb (length bs) l ≡ s → refuse_if s 5 (at - b) (finish (k (take l bs)) (at + l) (drop l bs)) ≡ bad n p
        → (l ≤ length bs → finish (k (take l bs)) (at + l) (drop l bs) ≡ bad n p → Found (k (take l bs)) ((x, l) ∷ t) (at + l) (drop l bs) n p) → Found (field x l b k) t at bs n p
    go true s e h =
        let m : 5 ≡ n = cc in
        let q : at - b ≡ p = cc in
        rw (← m, ← q) (here (field x l b k) t at bs 5 b (refl, ltb-true _ _ s) a.0)
    go false s e h =
        let w : l ≤ length bs = ltb-false _ _ s in
        ⊎_elim (λ z. later x l b k t at bs n p w z.0 z.1 z.2) (sooner x l b k t at bs n p w) (h w e)

-- where nothing stands before the format, each of its faults is at one of its fields
pub failed : (f : Fmt) → Aims f [] → (bs : List ℕ) (n p : ℕ) → finish f 0 bs ≡ bad n p → Failed 0 f bs n p
unfolding Reaches
failed f a bs n p e = ⊎_elim (λ z. rw (z.1, zero-add) z.2) (λ h. absurd h.reaches) (found f [] a 0 bs n p e)
