-- What a room holds after a call: what was taken of the chunk, behind what it held, and for the rest what it held before.
use mathlib.Core.Path.{◌≡◌, sym}
use mathlib.Core.List.{List, ◌++◌}
use Prim.Native.Nat.{ℕ, ◌+◌, ◌≤◌}
use lib.ListN.{length, take, drop}
use lib.Seq.{length-take-le, take-append-add, take-paste, drop-paste}
use Rattle.octets_spec.specs.Over.{over}
use Rattle.octets_laws.proofs.Over.{length_over, over_paste}

-- n octets of the chunk, behind the k that the room holds
module _ (room chunk : List ℕ) (k n : ℕ) (holds : k ≤ length room) (there : n ≤ length chunk) where
  abbrev laid : List ℕ
  laid = over room k (take n chunk)

  pub front_after : take (k + n) laid ≡ take k room ++ take n chunk
  front_after = rw (← over_paste room k chunk n there) (take-paste room k chunk n holds there)

  pub back_after : drop (k + n) laid ≡ drop (k + n) room
  back_after = rw (← over_paste room k chunk n there) (drop-paste room k chunk n holds there)

  pub length_after : k + n ≤ length room → length laid ≡ length room
  length_after h = length_over room k (take n chunk) (rw (length-take-le n chunk there) h)

  -- the first of what is there
  pub taken_there : take k room ++ take n chunk ≡ take (k + n) (take k room ++ chunk)
  taken_there = let l : length (take k room) ≡ k = length-take-le k room holds in sym (rw l at (take-append-add (take k room) chunk n))
