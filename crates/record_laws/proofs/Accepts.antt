-- Reading one record, in the terms of its promise: no fault exactly where a well-formed record starts the octets.
use mathlib.Core.Path.{◌≡◌, refl, sym, ap, ◌∙◌}
use mathlib.Core.Logic.{◌↔◌}
use mathlib.Core.List.{List, [], ◌++◌}
use Prim.Native.Nat.{ℕ, ◌<◌}
use native.Mathlib.Omega.{arith}
use lib.ListN.{length, length-replicate}
use Rattle.form_spec.specs.Octets.{Octets}
use Rattle.form_spec.specs.Fmt.{Out, bad, good, Fits}
use Rattle.form_spec.specs.Words.{choose}
use Rattle.form_spec.specs.Body.{Body, plain, BodyFits, loose, listed}
use Rattle.form_spec.specs.Shape.{St, plan}
use Rattle.form_spec.specs.Record.{Rec, write, read_rec, Valid}
use Rattle.form_laws.proofs.Fmt.{Right}
use Rattle.form_laws.proofs.Record.{sound_rec}
use Rattle.form_laws.proofs.Exactly.{exactly}
use Rattle.page_spec.specs.Layout.{kind, layout_for, layout}
use Rattle.page_spec.specs.Chosen.{Chosen}
use Rattle.page_spec.specs.Chosen as kinds
use Rattle.page_laws.proofs.Choice.{Says, kind_says}
use Rattle.record_spec.specs.Shown.{Nothing}
use Rattle.record_spec.specs.Table.{Table, Absent, Holds, state_of}
use Rattle.record_spec.specs.One.{read_one}
use Rattle.record_spec.specs.Answer.{fault}
use Rattle.write_spec.specs.Only.{writer}
use Rattle.record_spec.specs.Tells.{Tells}
use Rattle.record_spec.specs.Agrees.{Agrees, Same}
use Rattle.record_laws.proofs.One.{one_record}
use Rattle.form_spec.specs.Refusal.{refused}
use Rattle.std.specs.Prelude.{Err}

-- no octets: nothing is shown, and that is no fault
pub no_octets : (longest : ℕ) (t : Table) → read_one longest t [] ≡ Nothing
unfolding read_one choose
no_octets longest t = refl

-- the table that a writer is told tells a reader the same
pub tells-table : (t : Table) → Tells t (state_of t)
tells-table Absent = tt
tells-table (Holds n) = sym (length-replicate n 0)

-- a well-formed record stands at the start of s
abbrev pub Starts : (longest : ℕ) → St → List ℕ → Type 0
Starts longest st s = (r : Rec) × (q : List ℕ) × Valid (layout longest) st r × (write r ++ q ≡ s)

pub accepts_one : (longest : ℕ) (t : Table) (st : St) → Tells t st → (s : List ℕ) → Octets s → 0 < length s → (fault (read_one longest t s) ≡ 0) ↔ Starts longest st s
accepts_one longest t st tells s oc h =
    go (read_rec (layout longest) st 0 s) refl (one_record longest t st tells s oc h) (sound_rec (layout longest) st 0 s oc)
  where
    go : (o : Out Rec) → read_rec (layout longest) st 0 s ≡ o → Agrees longest s o (read_one longest t s) → Right (Valid (layout longest) st) write s o → (fault (read_one longest t s) ≡ 0) ↔ Starts longest st s
    go (bad n p) e a w = (
      λ z. absurd (w (sym (ap fault a) ∙ z)),
      λ v. let x : bad n p ≡ good v.0 v.1 = sym e ∙ (exactly (layout longest) st 0 s oc v.0 v.1).1 (v.2, v.3) in absurd (differ n p v.0 v.1 x),
    )
      where
        differ : (n p : ℕ) (r : Rec) (q : List ℕ) → ◌≡◌ {A = Out Rec} (bad n p) (good r q) → ⊥
        differ n p r q z = let y : ◌≡◌ {A = ℕ} 0 1 = cc in omega arith
    go (good r q) e a w = (λ z. (r, q, w.0, w.1), λ v. a.accepted)

-- a record of a kind that has no writer is not well-formed
unlisted : (longest : ℕ) (st : St) (y u : ℕ) (k : Chosen) (b : Body) → Says y u k → 0 ≡ writer k → BodyFits (plan st (layout_for longest k)) b → ⊥
unfolding layout_for plan BodyFits Fits
unlisted longest st y u (Err why) (plain cs) h e f = omega (arith, h.0, f.0)
unlisted longest st y u (kinds.Unread micro) b h e f = omega arith
unlisted longest st y u (kinds.TableDump size) b h e f = omega arith
unlisted longest st y u kinds.PeerTable b h e f = omega arith
unlisted longest st y u (kinds.Rib bits) b h e f = omega arith
unlisted longest st y u kinds.RibGeneric b h e f = omega arith
unlisted longest st y u (kinds.Change micro w) b h e f = omega arith
unlisted longest st y u (kinds.Message micro w) b h e f = omega arith
unlisted longest st y u (Err why) (loose _ _) h e f = elim f [ ]
unlisted longest st y u (Err why) (listed _ _) h e f = elim f [ ]

-- so no well-formed record is shown as a fault, wherever faults are placed
pub not_refused : (longest : ℕ) (st : St) (s : List ℕ) (r : Rec) (n p : ℕ) → Valid (layout longest) st r → Same longest s r (refused n p) → ⊥
unfolding layout
not_refused longest st s r n p v m = unlisted longest st r.type r.sub (kind r.type r.sub) r.body (kind_says r.type r.sub) m.whose v.fits
