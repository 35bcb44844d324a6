-- Where a whole view name is there, said of the octets that a record starts.
use Rattle.std.specs.Prelude.{◌≡◌, List, ℕ, ◌+◌, ◌≤◌, length, take, drop}
use Rattle.octets_spec.specs.Be.{num_at}

-- a whole record of Type 13, Subtype 1, starts the octets
pub record WholeTable (s : List ℕ) : Type 0 where
  pub type : num_at s 4 2 ≡ 13
  pub sub : num_at s 6 2 ≡ 1
  pub whole : 12 + num_at s 8 4 ≤ length s

-- and its message holds all of the view name, as long as that is told to be
pub record Named (s : List ℕ) : Type 0 where
  pub table : WholeTable s
  pub held : 6 + num_at s 16 2 ≤ num_at s 8 4

-- that name
abbrev pub name_in : List ℕ → List ℕ
name_in s = take (num_at s 16 2) (drop 18 s)
