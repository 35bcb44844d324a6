-- A writer's checks one after another: the law for `?`, and the rules by which `search judge_flow` follows them through a page's format.
use mathlib.Core.Path.{◌≡◌, refl, sym, ◌∙◌}
use mathlib.Core.List.{List, [], ◌∷◌, ◌++◌}
use mathlib.Core.Bool.{Bool, true, false, cond}
use Prim.Native.Nat.{ℕ, zero, suc, ◌+◌, ◌-◌, ◌^◌, ◌<◌}
use native.Mathlib.Omega.{arith}
use borrow.Author.Tests.{lt-ltb, le-ltb, le-leb, lt-leb, eq-eqb, ne_eqb, ltb-true, leb-true, leb-false}
use lib.Dec.{ltb}
use lib.ListN.{length, take, drop}
use Rattle.form_spec.specs.Octets.{be, to_be}
use Rattle.form_laws.proofs.Octets.{be-to_be}
use Rattle.form_spec.specs.Fmt.{Fmt, end, test, field}
use Rattle.form_spec.specs.Put.{Value, digits, bytes, or_else, sized, large, misfit, refusal}
use Rattle.form_spec.specs.Words.{choose, num, skip, fail, checked, tested}
use Rattle.octets_laws.proofs.Rules.{inside, below, above}
use Rattle.form_spec.specs.Pass.{Seen, note, pass, whole}
use Rattle.form_spec.specs.Refusal.{refused, number_in}
use Rattle.form_spec.specs.declared.Fault.{Fault}
use Rattle.std.specs.Prelude.{Result, Ok, Err, ⊤}
use Rattle.page_spec.specs.Layout.{stamped}
use Rattle.write_spec.specs.Times.{micro_size, micros}
use Rattle.write_spec.specs.declared.Time.{Time}
use Rattle.write_spec.specs.declared.Time.TheVariants.{Seconds, Micro}
use Rattle.write_spec.specs.Judged.{judged, unplaced}

-- ---- what a check's answer says of its number

pub passes : (n : ℕ) (u : ⊤) → Ok u ≡ judged n → n ≡ 0
passes zero u e = refl
passes (suc n) u e = cc

pub record Stops (n : ℕ) (why : Fault) : Type 0 where
  pub some : 0 < n
  pub same : why.number ≡ n

pub stops : (n : ℕ) (why : Fault) → Err why ≡ judged n → Stops n why
stops zero why e = cc
stops (suc n) why e = record { some = omega arith; same = (cc) }

-- the law for `?`: the number of a sequence is `or_else`
pub then_ok : (n m : ℕ) (u : ⊤) (y : Result ⊤ Fault) → Ok u ≡ judged n → y ≡ judged m → y ≡ judged (or_else n m)
then_ok n m u y e h = rw (passes n u e) h

pub then_err : (n m : ℕ) (why : Fault) (y : Result ⊤ Fault) → Err why ≡ judged n → y ≡ refused why.number 0 → y ≡ judged (or_else n m)
then_err zero m why y e h = cc
then_err (suc n) m why y e h = let s = stops (suc n) why e in h ∙ rw s.same

-- an answer by number is its own without a place
pub alike : (n : ℕ) (r : Result ⊤ Fault) → r ≡ judged n → unplaced r ≡ judged n
alike zero r e = rw e
alike (suc n) r e = rw e

or_none : (n : ℕ) → or_else n 0 ≡ n
or_none zero = refl
or_none (suc n) = refl

-- a number's size is right where the number is
in_digits : (w v : ℕ) → misfit (digits w v) w ≡ large w v
in_digits w v = rw (le-ltb w w (omega arith)) (or_none (large w v))

kept : (w v : ℕ) → large w v ≡ 0 → be (to_be w v) ≡ v
kept w v e = go (ltb v (256 ^ w)) refl e
  where
    go : (t : Bool) → ltb v (256 ^ w) ≡ t → ◌≡◌ {A = ℕ} (cond t 0 6) 0 → be (to_be w v) ≡ v
    go true p q = be-to_be w v (ltb-true v (256 ^ w) p)
    go false p q = cc

module _ (vs : List Value) (y : Result ⊤ Fault) where
  pub number_fits : (x w v : ℕ) (k : ℕ → Fmt) (u : ⊤) → Ok u ≡ judged (large w v) → y ≡ judged (refusal (k v) vs) → y ≡ judged (refusal (num x w k) (digits w v ∷ vs))
  unfolding num refusal
  number_fits x w v k u e h = let p = passes (large w v) u e in rw (in_digits w v, kept w v p, p) h

  pub number_large : (x w v : ℕ) (k : ℕ → Fmt) (why : Fault) → Err why ≡ judged (large w v) → y ≡ refused why.number 0 → y ≡ judged (refusal (num x w k) (digits w v ∷ vs))
  unfolding num refusal
  number_large x w v k why e h = rw (in_digits w v) (then_err (large w v) (refusal (k (be (to_be w v))) vs) why y e h)

  -- with a check of its own
  pub value_right : (x w v n : ℕ) (ok : ℕ → Bool) (k : ℕ → Fmt) (u : ⊤) → Ok u ≡ judged (large w v) → ok v ≡ true → y ≡ judged (refusal (k v) vs) → y ≡ judged (refusal (checked x w ok n k) (digits w v ∷ vs))
  unfolding checked refusal
  value_right x w v n ok k u e o h = let p = passes (large w v) u e in rw (in_digits w v, kept w v p, p, o) h

  pub value_wrong : (x w v n : ℕ) (ok : ℕ → Bool) (k : ℕ → Fmt) (u : ⊤) → Ok u ≡ judged (large w v) → ok v ≡ false → ltb 0 n ≡ true → y ≡ refused n 0 → y ≡ judged (refusal (checked x w ok n k) (digits w v ∷ vs))
  unfolding checked refusal
  value_wrong x w v zero ok k u e o l h = let z = ltb-true 0 0 l in absurd (omega arith)
  value_wrong x w v (suc n) ok k u e o l h = let p = passes (large w v) u e in rw (in_digits w v, kept w v p, p, o) h

  pub value_large : (x w v n : ℕ) (ok : ℕ → Bool) (k : ℕ → Fmt) (why : Fault) → Err why ≡ judged (large w v) → y ≡ refused why.number 0 → y ≡ judged (refusal (checked x w ok n k) (digits w v ∷ vs))
  unfolding checked refusal
  value_large x w v n ok k why e h = rw (in_digits w v) (then_err (large w v) (or_else (cond (ok (be (to_be w v))) 0 n) (refusal (k (be (to_be w v))) vs)) why y e h)

  -- octets
  pub bytes_fit : (x w : ℕ) (c : List ℕ) (f : Fmt) (u : ⊤) → Ok u ≡ judged (sized (length c) w) → y ≡ judged (refusal f vs) → y ≡ judged (refusal (skip x w f) (bytes c ∷ vs))
  unfolding skip refusal
  bytes_fit x w c f u e h = then_ok (sized (length c) w) (refusal f vs) u y e h

  pub bytes_not : (x w : ℕ) (c : List ℕ) (f : Fmt) (why : Fault) → Err why ≡ judged (sized (length c) w) → y ≡ refused why.number 0 → y ≡ judged (refusal (skip x w f) (bytes c ∷ vs))
  unfolding skip refusal
  bytes_not x w c f why e h = then_err (sized (length c) w) (refusal f vs) why y e h

  -- octets whose number the writer works out: they are as many as their field has
  pub bytes_all : (x : ℕ) (c : List ℕ) (f : Fmt) → y ≡ judged (refusal f vs) → y ≡ judged (refusal (skip x (length c) f) (bytes c ∷ vs))
  unfolding skip refusal
  bytes_all x c f h = rw (le-ltb (length c) (length c) (omega arith)) h

  pub tested_right : (x n : ℕ) (c : List ℕ) (ok : List ℕ → Bool) (f : Fmt) (t : Bool) → t ≡ ok c → t ≡ true → y ≡ judged (refusal f vs) → y ≡ judged (refusal (tested x (length c) ok n f) (bytes c ∷ vs))
  unfolding tested refusal
  tested_right x n c ok f t p q h = rw (le-ltb (length c) (length c) (omega arith), sym p ∙ q) h

  pub tested_wrong : (x n : ℕ) (c : List ℕ) (ok : List ℕ → Bool) (f : Fmt) (t : Bool) → t ≡ ok c → t ≡ false → ltb 0 n ≡ true → y ≡ refused n 0 → y ≡ judged (refusal (tested x (length c) ok n f) (bytes c ∷ vs))
  unfolding tested refusal
  tested_wrong x zero c ok f t p q l h = let z = ltb-true 0 0 l in absurd (omega arith)
  tested_wrong x (suc n) c ok f t p q l h = rw (le-ltb (length c) (length c) (omega arith), sym p ∙ q) h

  pub first_put : (b : Bool) (f g : Fmt) → b ≡ true → y ≡ judged (refusal f vs) → y ≡ judged (refusal (choose b f g) vs)
  unfolding choose
  first_put b f g e h = h ∙ rw e

  pub second_put : (b : Bool) (f g : Fmt) → b ≡ false → y ≡ judged (refusal g vs) → y ≡ judged (refusal (choose b f g) vs)
  unfolding choose
  second_put b f g e h = h ∙ rw e

  pub fail_put : (n w : ℕ) → ltb 0 n ≡ true → y ≡ refused n 0 → y ≡ judged (refusal (fail n w) vs)
  unfolding fail refusal
  fail_put zero w l h = let z = ltb-true 0 0 l in absurd (omega arith)
  fail_put (suc n) w l h = h

pub all_put : (b : ℕ) (y : Result ⊤ Fault) → y ≡ Ok tt → y ≡ judged (refusal (end b) [])
unfolding refusal
all_put b y h = h

-- octets behind which there is nothing
pub bytes_last : (x w b : ℕ) (c : List ℕ) (r : Result ⊤ Fault) → r ≡ judged (sized (length c) w) → unplaced r ≡ judged (refusal (skip x w (end b)) (bytes c ∷ []))
unfolding skip refusal
bytes_last x w b c r e = rw (or_none (sized (length c) w)) (alike (sized (length c) w) r e)

pub ruleset judge_flow = (bytes_last, number_fits, number_large, value_right, value_wrong, value_large, bytes_fit, bytes_not, bytes_all, tested_right, tested_wrong, first_put, second_put, fail_put, all_put, inside, below, above, eq-eqb, ne_eqb, le-leb, lt-leb, arith)

-- ---- what a reader answers of octets laid out

-- a refusal has a number
abbrev pub Strict : {A : Type 0} → Result A Fault → Type 0
Strict (Ok u) = Unit
Strict (Err why) = 0 < why.number

module _ {A : Type 0} where
  pass_strict : (to : List Seen → ℕ → ℕ → Result A Fault) → ((fs : List Seen) (a p : ℕ) → Strict (to fs a p)) → (f : Fmt) (m : List ℕ) (i : ℕ) → Strict (pass to refused f m i)
  unfolding pass
  pass_strict to h (end b) m i = h [] i (i - b)
  pass_strict to h (test zero b f) m i = pass_strict to h f m i
  pass_strict to h (test (suc n) b f) m i = omega arith
  pass_strict to h (field x l b k) m i =
      go (ltb (length m) (i + l)) (pass_strict (λ fs. to (note x i l (i + l) (be (take l (drop i m))) fs)) (λ fs. h (note x i l (i + l) (be (take l (drop i m))) fs)) (k (take l (drop i m))) m (i + l))
    where
      rest : Result A Fault
      rest = pass (λ fs. to (note x i l (i + l) (be (take l (drop i m))) fs)) refused (k (take l (drop i m))) m (i + l)

      go : (t : Bool) → Strict rest → Strict (cond t (refused 5 (i - b)) rest)
      go true s = omega arith
      go false s = s

  pub whole_strict : (to : List Seen → A) (f : Fmt) (m : List ℕ) (i : ℕ) → Strict (whole (λ fs. Ok (to fs)) refused f m i)
  unfolding choose
  whole_strict to f m i = pass_strict (λ fs a p. choose (ltb a (length m)) (refused 6 p) (Ok (to fs))) (λ fs a p. go (ltb a (length m)) p (to fs)) f m i
    where
      go : (t : Bool) (p : ℕ) (x : A) → Strict (cond t (refused 6 p) (Ok x))
      go true p x = omega arith
      go false p x = tt

pub by_number : (r : Result ⊤ Fault) → Strict r → unplaced r ≡ judged (number_in r)
by_number (Ok u) h = refl
by_number (Err why) h = go why.number h
  where
    go : (n : ℕ) → 0 < n → refused n 0 ≡ judged n
    go zero h = absurd (omega arith)
    go (suc n) h = refl

-- ---- the microseconds, before other fields

pub stamp_alone : (s u : ℕ) → refusal (stamped (micro_size (Micro s u)) (end 0)) (micros (Micro s u)) ≡ large 4 u
unfolding stamped num refusal
stamp_alone s u = rw (in_digits 4 u, or_none (large 4 u))

pub stamp_then : (t : Time) (f : Fmt) (vs : List Value) → or_else (refusal (stamped (micro_size t) (end 0)) (micros t)) (refusal f vs) ≡ refusal (stamped (micro_size t) f) (micros t ++ vs)
unfolding stamped num refusal
stamp_then (Seconds s) f vs = refl
stamp_then (Micro s m) f vs = rw (in_digits 4 m, or_none (large 4 m))
