-- Facts that show a slip in the definitions of text, at the bounds of each row and size.
use mathlib.Core.Path.{◌≡◌, refl}
use mathlib.Core.Bool.{Bool, true, false}
use mathlib.Core.List.{List, [], ◌∷◌, map}
use mathlib.Core.Logic.{inl, inr, ⊎_elim}
use Prim.Native.Nat.{ℕ, ◌≤◌}
use native.Mathlib.Omega.{arith}
use lib.Count.{count_leading_zeros}
use Rattle.form_spec.specs.Words.{choose, in_range}
use Rattle.text_spec.specs.Text.{Scalar, spell}
use Rattle.text_spec.specs.Check.{least, most, start_of, goes_on, is_text}

pub record Case : Type 0 where
  pub octets : List ℕ
  pub passes : Bool

abbrev pub refused : List ℕ → Case
refused c = record { octets = c; passes = false }

abbrev pub passed : List ℕ → Case
passed c = record { octets = c; passes = true }

abbrev pub table : List Case
table =
    passed (0x7F ∷ [])
    ∷ refused (0x80 ∷ [])
    ∷ refused (0xC1 ∷ 0xBF ∷ [])
    ∷ passed (0xC2 ∷ 0x80 ∷ [])
    ∷ refused (0xC2 ∷ 0x7F ∷ [])
    ∷ refused (0xC2 ∷ 0xC0 ∷ [])
    ∷ passed (0xDF ∷ 0xBF ∷ [])
    ∷ refused (0xE0 ∷ 0x9F ∷ 0xBF ∷ [])
    ∷ passed (0xE0 ∷ 0xA0 ∷ 0x80 ∷ [])
    ∷ refused (0xE1 ∷ 0x7F ∷ 0x80 ∷ [])
    ∷ passed (0xE1 ∷ 0xBF ∷ 0xBF ∷ [])
    ∷ refused (0xE1 ∷ 0xC0 ∷ 0x80 ∷ [])
    ∷ refused (0xE1 ∷ 0x80 ∷ 0x7F ∷ [])
    ∷ refused (0xE1 ∷ 0x80 ∷ 0xC0 ∷ [])
    ∷ refused (0xE2 ∷ 0x82 ∷ [])
    ∷ passed (0xED ∷ 0x9F ∷ 0xBF ∷ [])
    ∷ refused (0xED ∷ 0xA0 ∷ 0x80 ∷ [])
    ∷ passed (0xEE ∷ 0x80 ∷ 0x80 ∷ [])
    ∷ refused (0xF0 ∷ 0x8F ∷ 0xBF ∷ 0xBF ∷ [])
    ∷ passed (0xF0 ∷ 0x90 ∷ 0x80 ∷ 0x80 ∷ [])
    ∷ passed (0xF4 ∷ 0x8F ∷ 0xBF ∷ 0xBF ∷ [])
    ∷ refused (0xF4 ∷ 0x90 ∷ 0x80 ∷ 0x80 ∷ [])
    ∷ refused (0xF5 ∷ 0x80 ∷ 0x80 ∷ 0x80 ∷ [])
    ∷ refused (0xFF ∷ [])
    ∷ []

pub answers : map (λ (c : Case). is_text c.octets) table ≡ map (λ (c : Case). c.passes) table
unfolding goes_on start_of least most choose in_range count_leading_zeros
answers = refl

-- the last value of each size and the first of the next, and values at which the first octet grows
pub sizes : map spell (0x7F ∷ 0x80 ∷ 0x7FF ∷ 0x800 ∷ 0xF000 ∷ 0xFFFF ∷ 0x10000 ∷ 0x3FFFF ∷ 0x40000 ∷ [])
    ≡ (0x7F ∷ [])
    ∷ (0xC2 ∷ 0x80 ∷ [])
    ∷ (0xDF ∷ 0xBF ∷ [])
    ∷ (0xE0 ∷ 0xA0 ∷ 0x80 ∷ [])
    ∷ (0xEF ∷ 0x80 ∷ 0x80 ∷ [])
    ∷ (0xEF ∷ 0xBF ∷ 0xBF ∷ [])
    ∷ (0xF0 ∷ 0x90 ∷ 0x80 ∷ 0x80 ∷ [])
    ∷ (0xF0 ∷ 0xBF ∷ 0xBF ∷ 0xBF ∷ [])
    ∷ (0xF1 ∷ 0x80 ∷ 0x80 ∷ 0x80 ∷ [])
    ∷ []
unfolding spell
sizes = refl

pub scalars : Scalar 0xD7FF × Scalar 0xE000 × Scalar 0x10FFFF
scalars = (inl (omega arith), inr (omega arith), inr (omega arith))

pub no_surrogate : (u : ℕ) → 0xD800 ≤ u → u ≤ 0xDFFF → Scalar u → ⊥
no_surrogate u p q = ⊎_elim (λ h. omega arith) (λ h. omega arith)

pub none_above : (u : ℕ) → 0x110000 ≤ u → Scalar u → ⊥
none_above u p = ⊎_elim (λ h. omega arith) (λ h. omega arith)
