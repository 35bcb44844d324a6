-- A peer or an entry is found with the number and the place that its grammar's reader gives, wherever it is asked for.
use mathlib.Core.Path.{◌≡◌, refl}
use mathlib.Core.List.{List}
use Prim.Native.Nat.{ℕ, ◌+◌, ◌-◌}
use lib.ListN.{length, drop}
use Rattle.form_spec.specs.Fmt.{Out, bad, good, Fmt, read, join, over_at}
use Rattle.form_spec.specs.Found.{fault_number}
use Rattle.form_spec.specs.Words.{num, checked}
use Rattle.form_spec.specs.Pass.{Seen, pass}
use Rattle.form_laws.proofs.Pass.{Opens, outcome, pass_opens}
use Rattle.page_spec.specs.Peers.{peer}
use Rattle.page_spec.specs.Rib.{entry}
use Rattle.record_spec.specs.Fields as show
use Rattle.record_spec.specs.declared.Peer.{Peer}
use Rattle.record_spec.specs.declared.Entry.{Entry}
use Rattle.std.specs.Prelude.{Result, Ok}
use Rattle.form_spec.specs.declared.Fault.{Fault}
use Rattle.form_spec.specs.Refusal.{refused}
use Rattle.record_spec.specs.Answer.{peer_fault, peer_end, entry_fault, entry_end}
use Rattle.record_spec.specs.Items.{peer_at, entry_at, end_in, Finds}

-- an answer has a number and a place: none and the end where the fields are all there, else the fault's
module _ {A : Type 0} (to : List Seen → ℕ → ℕ → A) (stop : ℕ → ℕ → A) (fault end : A → ℕ)
    (there : (fs : List Seen) (a p : ℕ) → (fault (to fs a p) ≡ 0) × (end (to fs a p) ≡ a)) (stopped : (n p : ℕ) → (fault (stop n p) ≡ n) × (end (stop n p) ≡ p)) where
  pub finds : (f : Fmt) → Opens f → (m : List ℕ) (at : ℕ) → Finds f m at (fault (pass to stop f m at)) (end (pass to stop f m at))
  unfolding outcome
  finds f o m at = rw (pass_opens to stop f m at o) (go (read f at (drop at m)))
    where
      go : (u : Out (List (List ℕ))) → (fault (outcome to stop f at u) ≡ fault_number u) × (end (outcome to stop f at u) ≡ end_in at u)
      go (bad n p) = stopped n p
      go (good c q) = there _ (at + length (join c)) (at + length (join c) - over_at f c)

module _ (m : List ℕ) (at : ℕ) where
  pub peer-finds : (r : Result Peer Fault) → r ≡ peer_at m at → (r ≡ peer_at m at) × Finds peer m at (peer_fault r) (peer_end r)
  unfolding Opens peer num
  peer-finds r e = (e, rw e (finds show.peer refused peer_fault peer_end (λ fs a p. (refl, refl)) (λ n p. (refl, refl)) peer tt m at))

  pub entry-finds : (n : ℕ) (r : Result Entry Fault) → r ≡ entry_at m at n → (r ≡ entry_at m at n) × Finds (entry n) m at (entry_fault r) (entry_end r)
  unfolding Opens entry checked
  entry-finds n r e = (e, rw e (finds show.entry refused entry_fault entry_end (λ fs a p. (refl, refl)) (λ n p. (refl, refl)) (entry n) tt m at))
