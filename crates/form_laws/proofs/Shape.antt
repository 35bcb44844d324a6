-- Of the table in force, reading looks at the number of peers only; an entry's index is below it.
use mathlib.Core.Path.{◌≡◌, refl}
use mathlib.Core.Bool.{Bool, true, false, cond}
use mathlib.Core.List.{List, ◌∷◌, []}
use Prim.Native.Nat.{ℕ, ◌<◌}
use native.Mathlib.Omega.{arith}
use lib.ListN.{length}
use lib.Dec.{ltb}
use borrow.Author.Tests.{ltb-true}
use Rattle.form_spec.specs.Octets.{be}
use Rattle.form_spec.specs.Fmt.{Fmt, Fits}
use Rattle.form_spec.specs.Words.{checked}
use Rattle.form_spec.specs.Shape.{Layout, refuse, fields, unread, table, entries, with_peers, plan, indexed, index_of}
use Rattle.form_laws.proofs.Octets.{be_below}

pub plan-count : (ns ks : List ℕ) (l : Layout) → length ns ≡ length ks → plan (with_peers ns) l ≡ plan (with_peers ks) l
unfolding plan
plan-count ns ks (refuse n b) e = refl
plan-count ns ks (fields f) e = refl
plan-count ns ks (unread f) e = refl
plan-count ns ks (table f g) e = refl
plan-count ns ks (entries f g) e = rw e

cond_ok : (t : Bool) (n : ℕ) → (n ≡ 0 → ⊥) → ◌≡◌ {A = ℕ} (cond t 0 n) 0 → t ≡ true
cond_ok true n z e = refl
cond_ok false n z e = absurd (z e)

pub entry_index : (n : ℕ) (g : Fmt) (it : List (List ℕ)) → Fits (indexed n g) it → (index_of it < n) × (index_of it < 65536)
unfolding Fits checked
entry_index n g (c ∷ cs) h = (ltb-true _ _ (cond_ok (ltb (be c) n) 13 (λ z. omega arith) h.2.0), be_below 2 c h.0 h.1)
entry_index n g [] h = elim h [ ]
