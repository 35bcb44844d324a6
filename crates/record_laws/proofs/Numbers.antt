-- What reading one record shows has the number and the place that the record's grammar gives.
use mathlib.Core.Path.{◌≡◌, refl, ap}
use mathlib.Core.List.{List, [], ◌∷◌}
use Prim.Native.Nat.{ℕ}
use native.Mathlib.Omega.{arith}
use Rattle.form_spec.specs.Octets.{Octets}
use Rattle.form_spec.specs.Fmt.{Out, bad, good}
use Rattle.form_spec.specs.Found.{fault_number}
use Rattle.form_spec.specs.Record.{Rec, read_rec}
use Rattle.page_spec.specs.Layout.{layout}
use Rattle.record_spec.specs.Shown.{Shown}
use Rattle.record_spec.specs.Table.{Table, state_of}
use Rattle.record_spec.specs.Answer.{fault, place}
use Rattle.record_spec.specs.Agrees.{Agrees}
use Rattle.record_spec.specs.One.{read_one}
use Rattle.record_spec.specs.Reads.{place_in, Reads}
use Rattle.record_laws.proofs.Accepts.{no_octets, tells-table}
use Rattle.record_laws.proofs.One.{one_record}

pub answers : (longest : ℕ) (s : List ℕ) (o : Out Rec) (x : Shown) → Agrees longest s o x → (fault x ≡ fault_number o) × (place x ≡ place_in o)
answers longest s (bad n p) x a = (ap fault a, ap place a)
answers longest s (good r q) x a = (a.accepted, a.ends)

pub reads : (longest : ℕ) (t : Table) (s : List ℕ) → Octets s → Reads longest t s (read_one longest t s)
reads longest t [] oc = (refl, ap fault (no_octets longest t), ap place (no_octets longest t))
reads longest t (x ∷ s) oc =
    let o : Out Rec = read_rec (layout longest) (state_of t) 0 (x ∷ s) in
    let a = answers longest (x ∷ s) o (read_one longest t (x ∷ s)) (one_record longest t (state_of t) (tells-table t) (x ∷ s) oc (omega arith)) in
    (refl, a.0, a.1)
