-- Octets that are laid over a lent buffer, or only counted.
use Rattle.std.specs.Prelude.{◌≡◌, Bool, true, false, List, ◌++◌, ℕ, ◌+◌, ◌-◌, ◌≤◌, ◌<◌, length, take, drop}
use Rattle.form_spec.specs.Body.{joins}
use Rattle.octets_spec.specs.Over.{over}

-- xs laid over out from `at` on; out as it is where they are only counted
unfoldable pub laid : (lays : Bool) (out : List ℕ) (at : ℕ) (xs : List ℕ) → List ℕ
laid false out at xs = out
laid true out at xs = over out at xs

-- n octets that are laid have room
abbrev pub Room : (lays : Bool) (out : List ℕ) (at n : ℕ) → Type 0
Room lays out at n = lays ≡ true → at + n ≤ length out

-- items that stay have room, if any does
abbrev pub Roomy : (lays : Bool) (out : List ℕ) (at : ℕ) → List (List (List ℕ)) → Type 0
Roomy lays out at its = lays ≡ true → 0 < length its → at + length (joins its) ≤ length out

-- the octets of d from place `from` up to `to`
abbrev pub between : (d : List ℕ) (from to : ℕ) → List ℕ
between d from to = take (to - from) (drop from d)

-- a record from place `at` to `next` is passed, and xs is left of it: the octets from `run` to `at` were to be laid at `put`; some are
-- laid now, and those from `run'` to `next` are still to be laid, at `put'`
pub record Passed (lays : Bool) (d out out' xs : List ℕ) (at next run put run' put' : ℕ) : Type 0 where
  pub now : List ℕ
  pub laid : out' ≡ laid lays out put now
  pub ends : put' ≡ put + length now
  pub same : now ++ between d run' next ≡ between d run at ++ xs
  pub runs : run' ≤ next
