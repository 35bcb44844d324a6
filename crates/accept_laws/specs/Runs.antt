-- A format that goes through octets with no fault.
use Rattle.std.specs.Prelude.{◌≡◌, List, ℕ, ◌+◌, ◌≤◌, ◌<◌, length, take, drop}
use Rattle.form_spec.specs.Fmt.{Fmt, end, test, field}
use Rattle.page_spec.specs.Bgp4mp.{session}
use Rattle.record_spec.specs.Table.{Table, Absent, Holds}

-- f leads through m from i to j: its fields are there, and no check fails
unfoldable pub Runs : Fmt → List ℕ → (i j : ℕ) → Type 0
Runs (end b) m i j = i ≡ j
Runs (test n b f) m i j = (n ≡ 0) × Runs f m i j
Runs (field x l b k) m i j = (i + l ≤ length m) × Runs (k (take l (drop i m))) m (i + l) j

-- from i on through all of m
abbrev pub Through : Fmt → List ℕ → (i : ℕ) → Type 0
Through f m i = Runs f m i (length m)

-- a session that starts at i ends at r: whatever goes on there, if r is still in m
abbrev pub SessionTo : (w : ℕ) → List ℕ → (i r : ℕ) → Type 0
SessionTo w m i r = r ≤ length m → (f : Fmt) → Through f m r → Through (session w f) m i

-- a table is told, and P holds of the number of its peers
abbrev pub WithTable : Table → (ℕ → Type 0) → Type 0
WithTable Absent P = ⊥
WithTable (Holds peers) P = P peers
