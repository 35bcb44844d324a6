-- Octets spell one list of values at most: the first value can be told from them, and what is left behind it.
use mathlib.Core.Path.{◌≡◌, refl, sym, ap, ◌∙◌}
use mathlib.Core.Bool.{cond}
use mathlib.Core.List.{List, [], ◌∷◌, ◌++◌}
use Prim.Native.Nat.{ℕ, zero, suc, ◌+◌, ◌-◌, ◌/◌, ◌≤◌, ◌<◌}
use native.Mathlib.Omega.{arith}
use lib.Dec.{leb}
use borrow.Author.Tests.{le-leb, lt-leb}
use Rattle.form_spec.specs.Words.{◌$◌}
use Rattle.text_spec.specs.Text.{tail, spell, spells, Spelled}
use Rattle.form_laws.proofs.Range.{up_to}
use Rattle.text_laws.proofs.Sizes.{spell_1, spell_2, spell_3, spell_4}
use Rattle.text_laws.proofs.Values.{more}

-- a value, and the octets behind its spelling
data Told : Type 0 where
  none : Told
  value : (u : ℕ) (rest : List ℕ) → Told

-- so many octets more, each with six bits
gather : ℕ → ℕ → List ℕ → Told
gather zero v bs = value v bs
gather (suc n) v [] = none
gather (suc n) v (y ∷ bs) = gather n (more v y) bs

first : List ℕ → Told
first [] = none
first (x ∷ bs) =
    cond (leb x 127) (gather 0 x bs)
    $ cond (leb x 223) (gather 1 (x - 192) bs)
    $ cond (leb x 239) (gather 2 (x - 224) bs)
    $ gather 3 (x - 240) bs

-- a value's last six bits, behind the others
six : (q v : ℕ) → q ≡ v / 64 → more q (tail v) ≡ v
six q v h = omega arith

-- the first value is told
first_spell : (u : ℕ) (bs : List ℕ) → first (spell u ++ bs) ≡ value u bs
unfolding first gather
first_spell u bs =
    up_to u 127 (λ h. rw (spell_1 u h, le-leb u 127 h)) λ l.
    up_to u 2047 (λ h. rw (spell_2 u l h) (two (192 + u / 64) (omega arith))) λ m.
    up_to u 65535 (λ h. rw (spell_3 u m h) (three (224 + u / 4096) (omega arith))) λ n.
    rw (spell_4 u n) (four (240 + u / 262144) (omega arith))
  where
    two : (x : ℕ) → (127 < x) × (x ≤ 223) × (x - 192 ≡ u / 64) → first (x ∷ tail u ∷ bs) ≡ value u bs
    two x h = rw (lt-leb x 127 h.0, le-leb x 223 h.1, six (x - 192) u h.2)

    three : (x : ℕ) → (223 < x) × (x ≤ 239) × (x - 224 ≡ u / 64 / 64) → first (x ∷ tail (u / 64) ∷ tail u ∷ bs) ≡ value u bs
    three x h = rw (lt-leb x 127 (omega arith), lt-leb x 223 h.0, le-leb x 239 h.1, six (x - 224) (u / 64) h.2, six (u / 64) u refl)

    four : (x : ℕ) → (239 < x) × (x - 240 ≡ u / 4096 / 64) × (u / 4096 ≡ u / 64 / 64) → first (x ∷ tail (u / 4096) ∷ tail (u / 64) ∷ tail u ∷ bs) ≡ value u bs
    four x h = rw (lt-leb x 127 (omega arith), lt-leb x 223 (omega arith), lt-leb x 239 h.0, six (x - 240) (u / 4096) h.1, six (u / 4096) (u / 64) h.2, six (u / 64) u refl)

-- and so are all
same_values : (us vs : List ℕ) → spells us ≡ spells vs → us ≡ vs
unfolding first
same_values [] [] e = refl
same_values [] (v ∷ vs) e = let f : none ≡ value v (spells vs) = ap first e ∙ first_spell v (spells vs) in cc
same_values (u ∷ us) [] e = let f : value u (spells us) ≡ none = sym (first_spell u (spells us)) ∙ ap first e in cc
same_values (u ∷ us) (v ∷ vs) e =
    let f : value u (spells us) ≡ value v (spells vs) = sym (first_spell u (spells us)) ∙ ap first e ∙ first_spell v (spells vs) in
    let q : us ≡ vs = same_values us vs (cc) in
    cc

pub unique : (bs us vs : List ℕ) → Spelled bs us → Spelled bs vs → us ≡ vs
unique bs us vs s t = same_values us vs (s.octets ∙ sym t.octets)
