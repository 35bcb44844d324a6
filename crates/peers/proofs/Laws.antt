-- What a loop over peers says to the laws of loops over items.
use mathlib.Core.Path.{◌≡◌, refl}
use mathlib.Core.List.{List}
use Prim.Native.Nat.{ℕ}
use Rattle.std.specs.Prelude.{Result, Ok, Err}
use Rattle.form_spec.specs.Pass.{Seen}
use Rattle.form_spec.specs.Refusal.{refused}
use Rattle.form_spec.specs.declared.Fault.{Fault}
use Rattle.record_spec.specs.Fields.{peer}
use Rattle.record_spec.specs.declared.Peer.{Peer}

module _ {T : Type 0} where
  -- behind a peer that was read f goes on; a fault stays
  abbrev pub onward : Result Peer Fault → (ℕ → Result T Fault) → Result T Fault
  onward (Ok p) f = f p.next
  onward (Err why) f = Err why

  pub goes_to : (fs : List Seen) (a p : ℕ) (f : ℕ → Result T Fault) → onward (peer fs a p) f ≡ f a
  goes_to fs a p f = refl

  pub stops : (n p : ℕ) (f : ℕ → Result T Fault) → onward (refused n p) f ≡ refused n p
  stops n p f = refl
