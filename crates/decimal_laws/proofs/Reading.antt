-- Reading decimal text: a number's text is read back, and no other text is read as that number.
use mathlib.Core.Path.{◌≡◌, refl, sym, ap, ◌∙◌}
use mathlib.Core.Bool.{Bool, true, false}
use mathlib.Core.List.{List, [], ◌∷◌, ◌++◌, append-nil}
use Prim.Native.Nat.{ℕ, ◌+◌, ◌-◌, ◌*◌, ◌/◌, ◌%◌, ◌≤◌, ◌<◌}
use native.Mathlib.Omega.{arith}
use lib.Dec.{ltb, leb}
use lib.ListN.{length, drop}
use lib.Seq.{append_snoc}
use borrow.Author.Tests.{lt-ltb, le-leb, ltb-true, ltb-false, leb-true}
use Rattle.form_spec.specs.Words.{choose}
use Rattle.form_laws.proofs.Range.{inside, below, above, bounds}
use Rattle.decimal_spec.specs.Decimal.{digit, decimal, Digits}
use Rattle.decimal_spec.specs.Reading.{is_digit, run, value_from, value, canonical, valued, decimal_at}
use Rattle.std.specs.Prelude.{Option, Some, None}
use Rattle.decimal_laws.proofs.Decimal.{decimal_small, decimal_step, by_digits}

-- ---- digits

pub is_digit_lem : (x : ℕ) → 48 ≤ x → x ≤ 57 → is_digit x ≡ true
is_digit_lem x p q = inside 48 x 57 p q

pub no_digit_below : (x : ℕ) → x < 48 → is_digit x ≡ false
no_digit_below x p = below 48 x 57 p

pub no_digit_above : (x : ℕ) → 57 < x → is_digit x ≡ false
no_digit_above x p = above 48 x 57 p

-- a number's text is all digits
digits_both : (xs ys : List ℕ) → Digits xs → Digits ys → Digits (xs ++ ys)
digits_both [] ys p q = q
digits_both (x ∷ xs) ys p q = (p.0, p.1, digits_both xs ys p.2 q)

pub decimal-digits : (n : ℕ) → Digits (decimal n)
decimal-digits =
    by_digits (λ (n : ℕ). Digits (decimal n))
    (λ n h. rw (decimal_small n h) (omega arith, omega arith, tt))
    (λ n h d. rw (decimal_step n h) (digits_both (decimal (n / 10)) (digit (n % 10) ∷ []) d (omega arith, omega arith, tt)))

-- ---- the digits at the front

-- digits, and behind them something else
pub run-digits : (ds rest : List ℕ) → Digits ds → run rest ≡ [] → run (ds ++ rest) ≡ ds
unfolding run
run-digits [] rest p e = e
run-digits (d ∷ ds) rest p e = rw (is_digit_lem d p.0 p.1, run-digits ds rest p.2 e)

-- they are digits, and what is left starts with none
pub record Fronted (s : List ℕ) : Type 0 where
  pub rest : List ℕ
  pub digits : Digits (run s)
  pub whole : s ≡ run s ++ rest
  pub apart : run rest ≡ []

pub run-front : (s : List ℕ) → Fronted s
unfolding run
run-front [] = record { rest = []; digits = tt; whole = refl; apart = refl }
run-front (x ∷ xs) = go (is_digit x) refl (run-front xs)
  where
    go : (b : Bool) → is_digit x ≡ b → Fronted xs → Fronted (x ∷ xs)
    go true e s =
        let d = bounds 48 x 57 e in
        record {
          rest = s.rest;
          digits = rw e (d.0, d.1, s.digits);
          whole = rw e (ap (λ (l : List ℕ). x ∷ l) s.whole);
          apart = s.apart;
        }
    go false e s = record { rest = x ∷ xs; digits = rw e tt; whole = rw e; apart = rw e }

-- ---- the number that digits spell

-- one digit more
value_more : (v : ℕ) (ds : List ℕ) (d : ℕ) → value_from v (ds ++ (d ∷ [])) ≡ value_from v ds * 10 + (d - 48)
unfolding value_from
value_more v [] d = refl
value_more v (x ∷ xs) d = value_more (v * 10 + (x - 48)) xs d

-- digits only add
pub value_grows : (v : ℕ) (ds : List ℕ) → v ≤ value_from v ds
unfolding value_from
value_grows v [] = omega arith
value_grows v (d ∷ ds) = let h = value_grows (v * 10 + (d - 48)) ds in omega arith

pub value-decimal : (n : ℕ) → value (decimal n) ≡ n
unfolding value_from
value-decimal =
    by_digits (λ (n : ℕ). value (decimal n) ≡ n)
    (λ n h. rw (decimal_small n h) (omega arith))
    (λ n h e. rw (decimal_step n h, value_more 0 (decimal (n / 10)) (digit (n % 10)), e) (omega arith))

-- digits behind those of v, which is not 0
decimal_behind : (v : ℕ) (ds : List ℕ) → 0 < v → Digits ds → decimal (value_from v ds) ≡ decimal v ++ ds
unfolding value_from
decimal_behind v [] h p = sym (append-nil (decimal v))
decimal_behind v (d ∷ ds) h p =
    let w : ℕ = v * 10 + (d - 48) in
    let q : w / 10 ≡ v = omega (arith, p.0, p.1) in
    let r : digit (w % 10) ≡ d = omega (arith, p.0, p.1) in
    decimal_behind w ds (omega arith) p.2 ∙ rw (decimal_step w (omega arith), q, r) (append_snoc (decimal v) d ds)

-- ---- only a number's own text is canonical

pub canonical_first : (d : ℕ) (ds : List ℕ) → 48 < d → canonical (d ∷ ds) ≡ true
unfolding canonical
canonical_first d [] h = refl
canonical_first d (e ∷ ds) h = lt-ltb 48 d h

record Leads (ds : List ℕ) : Type 0 where
  first : ℕ
  others : List ℕ
  whole : ds ≡ first ∷ others
  large : 48 < first

-- the first digit of a number that is not 0
leads : (n : ℕ) → 0 < n → Leads (decimal n)
leads = by_digits (λ (n : ℕ). 0 < n → Leads (decimal n)) small step
  where
    small : (n : ℕ) → n < 10 → 0 < n → Leads (decimal n)
    small n h p = record { first = digit n; others = []; whole = decimal_small n h; large = omega arith }

    step : (n : ℕ) → 10 ≤ n → (0 < n / 10 → Leads (decimal (n / 10))) → 0 < n → Leads (decimal n)
    step n h f p =
        let l = f (omega arith) in
        record { first = l.first; others = l.others ++ (digit (n % 10) ∷ []); whole = decimal_step n h ∙ rw l.whole; large = l.large }

pub decimal-canonical : (n : ℕ) → canonical (decimal n) ≡ true
unfolding canonical
decimal-canonical n = go (ltb n 10) refl
  where
    go : (b : Bool) → ltb n 10 ≡ b → canonical (decimal n) ≡ true
    go true e = rw (decimal_small n (ltb-true n 10 e))
    go false e =
        let h : 10 ≤ n = ltb-false n 10 e in
        let l = leads n (omega arith) in
        rw l.whole (canonical_first l.first l.others l.large)

-- canonical digits are the text of the number that they spell
pub canonical-decimal : (ds : List ℕ) → Digits ds → canonical ds ≡ true → decimal (value ds) ≡ ds
unfolding canonical value_from
canonical-decimal [] p e = let z : ◌≡◌ {A = ℕ} 0 1 = cc in absurd (omega arith)
canonical-decimal (d ∷ []) p e =
    let r : digit (0 * 10 + (d - 48)) ≡ d = omega (arith, p.0) in
    decimal_small (0 * 10 + (d - 48)) (omega (arith, p.1)) ∙ ap (λ (x : ℕ). x ∷ []) r
canonical-decimal (d ∷ x ∷ ds) p e =
    let h : 48 < d = ltb-true 48 d e in
    let r : digit (0 * 10 + (d - 48)) ≡ d = omega arith in
    decimal_behind (0 * 10 + (d - 48)) (x ∷ ds) (omega arith) p.2 ∙ rw (decimal_small (0 * 10 + (d - 48)) (omega (arith, p.1)), r)

-- ---- exactly

-- a number's text, and behind it no digit, is read as that number
pub reads_back : (most : ℕ) (s : List ℕ) (at n : ℕ) (rest : List ℕ) → n ≤ most → drop at s ≡ decimal n ++ rest → run rest ≡ []
    → decimal_at most s at ≡ Some (n, at + length (decimal n))
unfolding decimal_at valued choose
reads_back most s at n rest h e a =
    let z : run (drop at s) ≡ decimal n = rw e (run-digits (decimal n) rest (decimal-digits n) a) in
    rw (z, decimal-canonical n, value-decimal n, le-leb n most h)

-- and what is read as a number is that number's text, and behind it no digit
pub record Text (most : ℕ) (s : List ℕ) (at n end : ℕ) : Type 0 where
  pub small : n ≤ most
  pub rest : List ℕ
  pub whole : drop at s ≡ decimal n ++ rest
  pub apart : run rest ≡ []
  pub ends : end ≡ at + length (decimal n)

pub is_text_lem : (most : ℕ) (s : List ℕ) (at n end : ℕ) → decimal_at most s at ≡ Some (n, end) → Text most s at n end
unfolding decimal_at valued choose
is_text_lem most s at n end e = go (canonical ds) refl (leb (value ds) most) refl e
  where
    ds : List ℕ
    ds = run (drop at s)

    go : (a : Bool) → canonical ds ≡ a → (b : Bool) → leb (value ds) most ≡ b → choose {A = Option (ℕ × ℕ)} a (choose b (Some (value ds, at + length ds)) None) None ≡ Some (n, end) → Text most s at n end
    go true p true q h =
        let z : ◌≡◌ {A = ℕ × ℕ} (value ds, at + length ds) (n, end) = cc in
        let v : value ds ≡ n = ap (λ (x : ℕ × ℕ). x.0) z in
        let w : at + length ds ≡ end = ap (λ (x : ℕ × ℕ). x.1) z in
        let k = run-front (drop at s) in
        let t : decimal n ≡ ds = rw (← v) (canonical-decimal ds k.digits p) in
        record { small = rw v at (leb-true (value ds) most q); rest = k.rest; whole = rw t k.whole; apart = k.apart; ends = rw t (sym w) }
    go true p false q h = let z : ◌≡◌ {A = ℕ} 0 1 = cc in absurd (omega arith)
    go false p b q h = let z : ◌≡◌ {A = ℕ} 0 1 = cc in absurd (omega arith)
