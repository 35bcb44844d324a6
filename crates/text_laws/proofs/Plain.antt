-- What passes plainly: nothing, ASCII, and three values that are often refused though they are scalar.
use mathlib.Core.Path.{◌≡◌, refl, ◌∙◌}
use mathlib.Core.Bool.{true}
use mathlib.Core.List.{List, [], ◌∷◌}
use mathlib.Core.Logic.{inl}
use Prim.Native.Nat.{ℕ, ◌≤◌}
use native.Mathlib.Omega.{arith}
use lib.Count.{count_leading_zeros}
use Rattle.form_spec.specs.Words.{choose, in_range}
use Rattle.text_spec.specs.Check.{least, most, start_of, goes_on, is_text}
use Rattle.text_laws.proofs.Sequence.{form_over}

pub empty-passes : is_text [] ≡ true
unfolding goes_on
empty-passes = refl

-- every octet has seven bits
abbrev pub SevenBits : List ℕ → Type 0
SevenBits [] = Unit
SevenBits (x ∷ xs) = (x ≤ 127) × SevenBits xs

pub ascii-passes : (bs : List ℕ) → SevenBits bs → is_text bs ≡ true
ascii-passes [] h = empty-passes
ascii-passes (x ∷ xs) h = form_over (x ∷ []) xs (inl (omega arith)) ∙ ascii-passes xs h.1

-- U+0000
pub nul_passes : (bs : List ℕ) → is_text (0 ∷ bs) ≡ is_text bs
unfolding goes_on start_of choose count_leading_zeros
nul_passes bs = refl

-- U+FEFF, a byte order mark where it stands first
pub mark_passes : (bs : List ℕ) → is_text (0xEF ∷ 0xBB ∷ 0xBF ∷ bs) ≡ is_text bs
unfolding goes_on start_of least most choose count_leading_zeros in_range
mark_passes bs = refl

-- U+FFFF, no character but a scalar value
pub noncharacter_passes : (bs : List ℕ) → is_text (0xEF ∷ 0xBF ∷ 0xBF ∷ bs) ≡ is_text bs
unfolding goes_on start_of least most choose count_leading_zeros in_range
noncharacter_passes bs = refl
