-- The elements of an array of 64-bit numbers are numbers of 64 bits.
use mathlib.Core.List.{List, [], ◌∷◌}
use Prim.Native.Nat.{ℕ, zero, suc, ◌^◌, ◌<◌}
use native.Mathlib.Omega.{arith}
use lib.ListN.{get_or}
use mir.Syntax.{w64}
use mir.Val.{Val}
use denote.Shadow.{shadow}
use denote.Array.{each}
use denote.Plain.{UInt}

pub word : (ns : List ℕ) (us : List Val) → shadow (each ℕ (UInt w64).own_val ns us) → (k : ℕ) → get_or ns k 0 < 2 ^ 64
word [] us h k = omega arith
word (n ∷ ns) [] h k = absurd h
word (n ∷ ns) (u ∷ us) h zero = h.0.1
word (n ∷ ns) (u ∷ us) h (suc k) = word ns us h.1 k
