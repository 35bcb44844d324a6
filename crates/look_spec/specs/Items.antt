-- An entry or a peer that lies at a place of a dump.
use Rattle.std.specs.Prelude.{cond, List, ℕ, ◌+◌, ◌/◌, ◌%◌, eqb, drop, get_or}
use Rattle.page_spec.specs.Rib.{entry}
use Rattle.form_spec.specs.Found.{Lies, item}

-- what a caller knows: an entry lies at `at` of d, where a table has some number of peers
abbrev pub SomeEntry : List ℕ → (at : ℕ) → Type 0
SomeEntry d at = (peers : ℕ) × Lies (entry peers) (drop at d)

-- what a caller learns: P holds of the entry, whatever number of peers it lies there with
abbrev pub EachEntry : List ℕ → (at : ℕ) → (ℕ → List (List ℕ) → Type 0) → Type 0
EachEntry d at P = (peers : ℕ) → Lies (entry peers) (drop at d) → P peers (item (entry peers) (drop at d))

-- ---- a peer, by its type octet

-- the octets of its address and of its AS number
abbrev pub address_size : (kind : ℕ) → ℕ
address_size k = cond (eqb (k % 2) 1) 16 4

abbrev pub as_size : (kind : ℕ) → ℕ
as_size k = cond (eqb (k / 2 % 2) 1) 4 2

-- where the peer ends that starts at `at`
abbrev pub peer_end : List ℕ → (at : ℕ) → ℕ
peer_end d at = at + 5 + address_size (get_or d at 0) + as_size (get_or d at 0)
