-- Laws of formats that go through octets.
use mathlib.Core.Path.{◌≡◌, ◌∙◌}
use mathlib.Core.Bool.{Bool, true, false}
use mathlib.Core.List.{List, []}
use Prim.Native.Nat.{ℕ, suc, ◌+◌, ◌-◌, ◌≤◌}
use native.Mathlib.Omega.{arith}
use lib.Dec.{ltb}
use lib.ListN.{length, take, drop}
use borrow.Author.Tests.{le-ltb}
use Rattle.form_spec.specs.Octets.{be}
use Rattle.form_spec.specs.Fmt.{Fmt, end, test, field}
use Rattle.form_spec.specs.Words.{choose, num, skip, must, area, checked, tested}
use Rattle.form_spec.specs.Pass.{Seen, note, pass, whole, ◌⨾◌, times}
use Rattle.octets_spec.specs.Be.{num_at}
use Rattle.accept_laws.specs.Runs.{Runs, Through}

module _ (m : List ℕ) where
  -- it leads on
  pub forward : (f : Fmt) (i j : ℕ) → Runs f m i j → i ≤ j
  unfolding Runs
  forward (end b) i j h = omega arith
  forward (test n b f) i j h = forward f i j h.1
  forward (field x l b k) i j h = let z = forward (k (take l (drop i m))) (i + l) j h.1 in omega arith

  -- one format after another; so many items
  pub then : (f g : Fmt) (i j e : ℕ) → Runs f m i j → Runs g m j e → Runs (f ⨾ g) m i e
  unfolding Runs ◌⨾◌
  then (end b) g i j e h k = rw h k
  then (test n b f) g i j e h k = (h.0, then f g i j e h.1 k)
  then (field x l b c) g i j e h k = (h.0, then (c (take l (drop i m))) g (i + l) j e h.1 k)

  pub no_items : (f : Fmt) (i : ℕ) → i ≡ length m → Through (times 0 f) m i
  unfolding Runs times
  no_items f i e = e

  pub one_item : (f : Fmt) (n left i j : ℕ) → left ≡ n + 1 → Runs f m i j → Through (times n f) m j → Through (times left f) m i
  unfolding times
  one_item f n left i j e h k = let z : left ≡ suc n = omega arith in rw z (then f (times n f) i j (length m) h k)

  -- reading finds no fault, but fields
  passed : {A : Type 0} (f : Fmt) (to : List Seen → ℕ → ℕ → A) (fault : ℕ → ℕ → A) (i j : ℕ) → Runs f m i j → (fs : List Seen) × (p : ℕ) × (pass to fault f m i ≡ to fs j p)
  unfolding Runs pass
  passed (end b) to fault i j h = ([], i - b, rw h)
  passed (test n b f) to fault i j h = rw h.0 (passed f to fault i j h.1)
  passed (field x l b k) to fault i j h =
      let r = passed (k (take l (drop i m))) (λ fs. to (note x i l (i + l) (be (take l (drop i m))) fs)) fault (i + l) j h.1 in
      (note x i l (i + l) (be (take l (drop i m))) r.0, r.1, rw (le-ltb _ _ h.0) r.2)

  pub through : {A : Type 0} (f : Fmt) (to : List Seen → A) (fault : ℕ → ℕ → A) (i : ℕ) → Through f m i → (fs : List Seen) × (whole to fault f m i ≡ to fs)
  unfolding choose
  through f to fault i h =
      let r = passed f (λ fs a p. choose (ltb a (length m)) (fault 6 p) (to fs)) fault i (length m) h in
      let z : length m ≤ length m = omega arith in
      (r.0, r.2 ∙ rw (le-ltb (length m) (length m) z))

  -- ---- the words

  module _ (j : ℕ) where
    pub num-runs : (x w : ℕ) (k : ℕ → Fmt) (i : ℕ) → i + w ≤ length m → Runs (k (num_at m i w)) m (i + w) j → Runs (num x w k) m i j
    unfolding Runs num num_at
    num-runs x w k i h r = (h, r)

    pub skip_runs : (x w : ℕ) (f : Fmt) (i : ℕ) → i + w ≤ length m → Runs f m (i + w) j → Runs (skip x w f) m i j
    unfolding Runs skip
    skip_runs x w f i h r = (h, r)

    pub checked-runs : (x w n : ℕ) (ok : ℕ → Bool) (k : ℕ → Fmt) (i : ℕ) → i + w ≤ length m → ok (num_at m i w) ≡ true → Runs (k (num_at m i w)) m (i + w) j → Runs (checked x w ok n k) m i j
    unfolding Runs checked num_at
    checked-runs x w n ok k i h e r = (h, (rw e, r))

    pub tested-runs : (x w n : ℕ) (ok : List ℕ → Bool) (f : Fmt) (i : ℕ) → i + w ≤ length m → ok (take w (drop i m)) ≡ true → Runs f m (i + w) j → Runs (tested x w ok n f) m i j
    unfolding Runs tested
    tested-runs x w n ok f i h e r = (h, (rw e, r))

    pub end_runs : (b i : ℕ) → i ≡ j → Runs (end b) m i j
    unfolding Runs
    end_runs b i e = e

    pub first_runs : (b : Bool) (f g : Fmt) (i : ℕ) → b ≡ true → Runs f m i j → Runs (choose b f g) m i j
    unfolding choose
    first_runs b f g i e r = rw e r

    pub second_runs : (b : Bool) (f g : Fmt) (i : ℕ) → b ≡ false → Runs g m i j → Runs (choose b f g) m i j
    unfolding choose
    second_runs b f g i e r = rw e r

    pub must_runs : (ok : Bool) (n w : ℕ) (f : Fmt) (i : ℕ) → ok ≡ true → Runs f m i j → Runs (must ok n w f) m i j
    unfolding Runs must
    must_runs ok n w f i e r = (rw e, r)

    pub area-runs : (x w b : ℕ) (f : Fmt) (i : ℕ) → i + w ≤ length m → Runs f m (i + w) j → Runs (area x w b f) m i j
    unfolding Runs area
    area-runs x w b f i h r = (h, r)

-- a no says nothing
pub never : {A : Type 0} → false ≡ true → A
never e = let z : ◌≡◌ {A = ℕ} 0 1 = cc in absurd (omega arith)
