-- Reading accepts exactly the well-formed records; their fields are unique, and their octets are those that were there.
use mathlib.Core.Path.{◌≡◌, sym, ◌∙◌}
use mathlib.Core.Logic.{◌↔◌}
use mathlib.Core.List.{List, ◌++◌}
use Prim.Native.Nat.{ℕ}
use Rattle.form_spec.specs.Octets.{Octets}
use Rattle.form_spec.specs.Fmt.{Out, good}
use Rattle.form_spec.specs.Shape.{Layout, St}
use Rattle.form_spec.specs.Record.{Rec, write, read_rec, Valid}
use Rattle.form_laws.proofs.Record.{sound_rec, complete_rec}

module _ (layout : ℕ → ℕ → Layout) (st : St) (at : ℕ) (d : List ℕ) (oc : Octets d) where
  -- r is read, with q left, exactly where r is well-formed and its octets and q are d
  pub exactly : (r : Rec) (q : List ℕ) → (read_rec layout st at d ≡ good r q) ↔ (Valid layout st r × (write r ++ q ≡ d))
  exactly r q = (
    λ e. rw e at (sound_rec layout st at d oc),
    λ h. rw h.1 at (complete_rec layout st at r q h.0),
  )

  -- so two well-formed records that start the same octets are one
  pub unique_record : (r s : Rec) (p q : List ℕ) → Valid layout st r → write r ++ p ≡ d → Valid layout st s → write s ++ q ≡ d → r ≡ s
  unique_record r s p q v e w f = same (sym ((exactly r p).1 (v, e)) ∙ (exactly s q).1 (w, f))
    where
      same : ◌≡◌ {A = Out Rec} (good r p) (good s q) → r ≡ s
      same h = cc
