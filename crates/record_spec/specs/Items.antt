-- The items of a peer table or a RIB record: as a caller meets them, going from one to the next, and as they stand in the record.
use Rattle.std.specs.Prelude.{◌≡◌, List, [], ◌∷◌, ℕ, zero, suc, ◌+◌, length, take, drop, get_or, Result, Ok}
use Rattle.form_spec.specs.Fmt.{Out, bad, good, Fmt, read, join}
use Rattle.form_spec.specs.Body.{joins}
use Rattle.form_spec.specs.Pass.{pass}
use Rattle.form_spec.specs.Found.{fault_number}
use Rattle.form_spec.specs.Shape.{number}
use Rattle.page_spec.specs.Peers.{peer}
use Rattle.page_spec.specs.Rib.{entry}
use Rattle.record_spec.specs.Fields as show
use Rattle.record_spec.specs.declared.Part.{Part}
use Rattle.record_spec.specs.declared.Entry.{Entry}
use Rattle.record_spec.specs.declared.Peer.{Peer}
use Rattle.form_spec.specs.declared.Fault.{Fault}
use Rattle.form_spec.specs.Refusal.{refused}

-- the peer that starts at `at`; an entry, where the table in force has so many peers
abbrev pub peer_at : List ℕ → (at : ℕ) → Result Peer Fault
peer_at m at = pass show.peer refused peer m at

abbrev pub entry_at : List ℕ → (at count : ℕ) → Result Entry Fault
entry_at m at n = pass show.entry refused (entry n) m at

-- ---- an item as its grammar's reader finds it: a fault's number, or 0, and the fault's place, or where the item ends

abbrev pub end_in : (at : ℕ) → Out (List (List ℕ)) → ℕ
end_in at (bad n p) = p
end_in at (good c q) = at + length (join c)

abbrev pub Finds : Fmt → List ℕ → (at fault end : ℕ) → Type 0
Finds f m at n e = (n ≡ fault_number (read f at (drop at m))) × (e ≡ end_in at (read f at (drop at m)))

-- ---- n times from `at` on: `one` shows the item at an offset, and `end` where it ends

abbrev pub met : {A : Type 0} (one : ℕ → A) (end : A → ℕ) (n at : ℕ) → List A
met one end zero at = []
met one end (suc n) at = one at ∷ met one end n (end (one at))

abbrev pub met_end : {A : Type 0} (one : ℕ → A) (end : A → ℕ) (n at : ℕ) → ℕ
met_end one end zero at = at
met_end one end (suc n) at = met_end one end n (end (one at))

-- ---- items that stand from `at` on, each with its fields

abbrev pub standing : {A : Type 0} (of : (at : ℕ) → List (List ℕ) → A) (at : ℕ) → List (List (List ℕ)) → List A
standing of at [] = []
standing of at (c ∷ cs) = of at c ∷ standing of (at + length (join c)) cs

-- P holds of every one
abbrev pub Each : {A : Type 0} (P : A → Type 0) → List A → Type 0
Each P [] = Unit
Each P (x ∷ xs) = P x × Each P xs

-- where field k of an item lies
abbrev pub field_in : (k at : ℕ) → List (List ℕ) → Part
field_in k at c = record { at = at + length (join (take k c)); size = length (get_or c k []) }

-- a peer's type, BGP ID, address and AS number
abbrev pub peer_of : (at : ℕ) → List (List ℕ) → Result Peer Fault
peer_of at c = Ok (record { kind = number 0 c; id = number 1 c; address = field_in 2 at c; as_number = number 3 c; next = at + length (join c) })

-- an entry's index, originated time and, behind their length, attributes
abbrev pub entry_of : (at : ℕ) → List (List ℕ) → Result Entry Fault
entry_of at c = Ok (record { index = number 0 c; originated = number 1 c; attributes = field_in 3 at c; next = at + length (join c) })

-- going n times from `at` on in m shows just the items its, in order, and ends at `stop`; their octets are the ones there
pub record Meets {A : Type 0} (m : List ℕ) (one : ℕ → A) (end : A → ℕ) (of : ℕ → List (List ℕ) → A) (n at stop : ℕ) (its : List (List (List ℕ))) : Type 0 where
  pub all : met one end n at ≡ standing of at its
  pub ends : met_end one end n at ≡ stop
  pub octets : take (length (joins its)) (drop at m) ≡ joins its
