-- The octets behind a sequence's first: the check passes over just those that lie in the ranges of a row.
use mathlib.Core.Path.{◌≡◌, refl, ap}
use mathlib.Core.Bool.{Bool, true, false, cond}
use mathlib.Core.List.{List, [], ◌∷◌, ◌++◌}
use Prim.Native.Nat.{ℕ, zero, suc}
use native.Mathlib.Omega.{arith}
use Rattle.form_spec.specs.Words.{in_range}
use Rattle.text_spec.specs.Grammar.{Range, tails, Row}
use Rattle.text_spec.specs.Check.{goes_on, is_text}
use Rattle.form_laws.proofs.Range.{inside, bounds}

-- the ranges of so many octets: the next one's, and those of the rest
abbrev pub behind : ℕ → Range → List Range
behind zero r = []
behind (suc n) r = r ∷ behind n tails

-- where none is to come, the range says nothing
pub idle : (bs : List ℕ) (low high : ℕ) → goes_on bs 0 low high ≡ is_text bs
unfolding goes_on
idle [] low high = refl
idle (x ∷ rest) low high = refl

-- octets in their ranges are passed over, whatever follows them
pub goes_over : (n : ℕ) (r : Range) (c rest : List ℕ) → Row (behind n r) c → goes_on (c ++ rest) n r.low r.high ≡ is_text rest
unfolding goes_on
goes_over zero r [] rest h = idle rest r.low r.high
goes_over zero r (x ∷ c) rest h = absurd h
goes_over (suc n) r [] rest h = absurd h
goes_over (suc n) r (x ∷ c) rest h = rw (inside r.low x r.high h.0 h.1) (goes_over n tails c rest h.2)

-- and what is passed over are octets in their ranges, behind which text goes on
pub record Passed (n : ℕ) (r : Range) (bs : List ℕ) : Type 0 where
  pub front : List ℕ
  pub rest : List ℕ
  pub whole : front ++ rest ≡ bs
  pub row : Row (behind n r) front
  pub good : is_text rest ≡ true

pub passed : (n : ℕ) (r : Range) (bs : List ℕ) → goes_on bs n r.low r.high ≡ true → Passed n r bs
unfolding goes_on
passed zero r bs e = record { front = []; rest = bs; whole = refl; row = tt; good = rw (← (idle bs r.low r.high)) e }
passed (suc n) r [] e = let z : ◌≡◌ {A = ℕ} 0 1 = cc in absurd (omega arith)
passed (suc n) r (x ∷ bs) e = go (in_range r.low x r.high) refl e (passed n tails bs)
  where
    go : (t : Bool) → in_range r.low x r.high ≡ t → cond t (goes_on bs n 128 191) false ≡ true → (goes_on bs n 128 191 ≡ true → Passed n tails bs) → Passed (suc n) r (x ∷ bs)
    go true p h f =
        let k = f h in
        let b = bounds r.low x r.high p in
        record { front = x ∷ k.front; rest = k.rest; whole = ap (λ (l : List ℕ). x ∷ l) k.whole; row = (b.0, b.1, k.row); good = k.good }
    go false p h f = let z : ◌≡◌ {A = ℕ} 0 1 = cc in absurd (omega arith)
