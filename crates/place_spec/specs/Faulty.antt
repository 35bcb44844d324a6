-- What a fault's number and place say of a record's octets, and of a dump's (document 02, "Faults placed to the octet").
use Rattle.std.specs.Prelude.{◌≡◌, ◌⊎◌, List, ◌++◌, ℕ, ◌+◌, ◌-◌, ◌≤◌, ◌<◌, length, take}
use Rattle.form_spec.specs.Fmt.{Fmt, field}
use Rattle.form_spec.specs.Body.{Plan, just, free, many}
use Rattle.form_spec.specs.Pass.{◌⨾◌, counted}
use Rattle.form_spec.specs.Shape.{St, no_table, plan}
use Rattle.form_spec.specs.Record.{Rec}
use Rattle.form_spec.specs.Dump.{writes, Valids, nexts}
use Rattle.octets_spec.specs.Be.{num_at}
use Rattle.page_spec.specs.Layout.{layout}
use Rattle.place_spec.specs.Failed.{Failed}
use Rattle.place_spec.specs.About.{timestamp_field, type_field, subtype_field, length_field}

-- a header, then a message's fields
abbrev pub header_then : Fmt → Fmt
header_then f = field timestamp_field 4 0 λ t. field type_field 2 0 λ y. field subtype_field 2 0 λ s. field length_field 4 0 λ l. f

-- a record's octets m have the fault n at p: its fields stand in a row, the header's, the message's, a count and the items'; unread contents are
-- never too long
abbrev pub FailedRecord : Plan → (m : List ℕ) (n p : ℕ) → Type 0
FailedRecord (just f) m n p = Failed 0 (header_then f) m n p
FailedRecord (free f) m n p = Failed 0 (header_then f) m n p × (n ≡ 6 → ⊥)
FailedRecord (many f g) m n p = Failed 0 (header_then (f ⨾ counted 0 g)) m n p

-- where a record's octets end by its Length
abbrev pub record_end : List ℕ → ℕ
record_end s = 12 + num_at s 8 4

-- `longest` counts the octets of the longest BGP message
module _ (longest : ℕ) (st : St) (s : List ℕ) where
  abbrev pub laid_out : Plan
  laid_out = plan st (layout longest (num_at s 4 2) (num_at s 6 2))

  -- no record starts the octets s: they are too few for a header; for the message that it announces; or one of its fields fails
  abbrev pub Faulty : (n p : ℕ) → Type 0
  Faulty n p =
      ((n ≡ 1) × (p ≡ 0) × (0 < length s) × (length s < 12))
      ⊎ ((n ≡ 2) × (p ≡ 0) × (12 ≤ length s) × (length s < record_end s))
      ⊎ ((record_end s ≤ length s) × FailedRecord laid_out (take (record_end s) s) n p)

-- the dump d has the fault n at the place p: whole records stand before the faulty one, which starts at `start`
pub record FaultyDump (longest : ℕ) (d : List ℕ) (n p start : ℕ) : Type 0 where
  pub recs : List Rec
  pub rest : List ℕ
  pub octets : writes recs ++ rest ≡ d
  pub valid : Valids (layout longest) no_table recs
  pub starts : start ≡ length (writes recs)
  pub after : start ≤ p
  pub faulty : Faulty longest (nexts (layout longest) recs no_table) rest n (p - start)
