-- A value's spelling, size by size.
use mathlib.Core.Path.{◌≡◌}
use mathlib.Core.List.{[], ◌∷◌}
use Prim.Native.Nat.{ℕ, ◌+◌, ◌/◌, ◌≤◌, ◌<◌}
use native.Mathlib.Omega.{arith}
use borrow.Author.Tests.{le-leb, lt-leb}
use Rattle.text_spec.specs.Text.{tail, spell}

pub spell_1 : (u : ℕ) → u ≤ 127 → spell u ≡ u ∷ []
unfolding spell
spell_1 u h = rw (le-leb u 127 h)

pub spell_2 : (u : ℕ) → 127 < u → u ≤ 2047 → spell u ≡ (192 + u / 64) ∷ tail u ∷ []
unfolding spell
spell_2 u l h = rw (lt-leb u 127 l, le-leb u 2047 h)

pub spell_3 : (u : ℕ) → 2047 < u → u ≤ 65535 → spell u ≡ (224 + u / 4096) ∷ tail (u / 64) ∷ tail u ∷ []
unfolding spell
spell_3 u l h = rw (lt-leb u 127 (omega arith), lt-leb u 2047 l, le-leb u 65535 h)

pub spell_4 : (u : ℕ) → 65535 < u → spell u ≡ (240 + u / 262144) ∷ tail (u / 4096) ∷ tail (u / 64) ∷ tail u ∷ []
unfolding spell
spell_4 u l = rw (lt-leb u 127 (omega arith), lt-leb u 2047 (omega arith), lt-leb u 65535 l)
