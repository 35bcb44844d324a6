-- A header is refused for its Type (3), or for its Subtype (4).
use mathlib.Core.Path.{◌≡◌, refl}
use mathlib.Core.Bool.{Bool}
use mathlib.Core.Logic.{◌⊎◌, inl, inr}
use Prim.Native.Nat.{ℕ}
use Rattle.form_spec.specs.Words.{choose}
use Rattle.page_spec.specs.Layout.{kind12, kind13, kind16, kind}
use Rattle.page_spec.specs.Chosen.{Chosen, Unread, TableDump, PeerTable, Rib, RibGeneric, Change, Message}
use Rattle.page_laws.proofs.Choice.{by_test}
use Rattle.form_spec.specs.Refusal.{refused}
use Rattle.std.specs.Prelude.{Err}

abbrev pub Refuses : Chosen → Type 0
Refuses (Err why) = ((why.number ≡ 3) × (why.place ≡ 4)) ⊎ ((why.number ≡ 4) × (why.place ≡ 6))
Refuses (Unread micro) = Unit
Refuses (TableDump size) = Unit
Refuses PeerTable = Unit
Refuses (Rib bits) = Unit
Refuses RibGeneric = Unit
Refuses (Change micro w) = Unit
Refuses (Message micro w) = Unit

either_refuses : (t : Bool) (k j : Chosen) → Refuses k → Refuses j → Refuses (choose t k j)
either_refuses t k j h g = by_test Refuses t k j (λ e. h) g

by_subtype : Refuses (refused 4 6)
by_subtype = inr (refl, refl)

refuses_16 : (micro sub : ℕ) → Refuses (kind16 micro sub)
unfolding kind16
refuses_16 micro u = either_refuses _ _ _ tt (either_refuses _ _ _ tt (either_refuses _ _ _ tt (either_refuses _ _ _ tt by_subtype)))

pub refuses : (type sub : ℕ) → Refuses (kind type sub)
unfolding kind kind12 kind13
refuses y u =
    either_refuses _ _ _ tt
    (either_refuses _ _ _ tt
    (either_refuses _ _ _ (either_refuses _ _ _ tt (either_refuses _ _ _ tt by_subtype))
    (either_refuses _ _ _ (either_refuses _ _ _ tt (either_refuses _ _ _ tt (either_refuses _ _ _ tt (either_refuses _ _ _ tt by_subtype))))
    (either_refuses _ _ _ (refuses_16 0 u) (either_refuses _ _ _ (refuses_16 4 u) (inl (refl, refl)))))))
