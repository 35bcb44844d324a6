-- The record that a step goes past: the dump has its octets there, and read from these alone its fields are shown.
use mathlib.Core.Path.{◌≡◌, sym, ap, ◌∙◌, subst}
use mathlib.Core.List.{List, [], ◌∷◌, ◌++◌, append-nil}
use Prim.Native.Nat.{ℕ, ◌+◌}
use native.Mathlib.Omega.{arith}
use lib.ListN.{take, drop}
use Rattle.form_spec.specs.Octets.{Octets}
use Rattle.form_spec.specs.Shape.{St}
use Rattle.form_spec.specs.Record.{Rec, write, size, read_rec, Valid}
use Rattle.form_spec.specs.Dump.{Walk}
use Rattle.form_laws.proofs.Octets.{octets-take, octets-drop}
use Rattle.form_laws.proofs.Record.{length-write, complete_rec}
use Rattle.form_spec.specs.Fmt.{good}
use Rattle.page_spec.specs.Layout.{layout}
use Rattle.record_spec.specs.Table.{Table}
use Rattle.record_spec.specs.One.{read_one}
use Rattle.record_spec.specs.Agrees.{Same}
use Rattle.record_spec.specs.Tells.{Tells}
use Rattle.record_laws.proofs.One.{one_record}
use Rattle.walk_spec.specs.Steps.{step_at}
use Rattle.walk_spec.specs.Walked.{befores}
use Rattle.walk_spec.specs.declared.Item.{Item}
use Rattle.walk_spec.specs.Step.{Record}
use Rattle.walk_laws.proofs.Ahead.{Ahead, passes}
use Rattle.walk_laws.proofs.Goes.{goes_to}

-- a record is read from its own octets
read_alone : (longest : ℕ) (t : Table) (st : St) → Tells t st → (r : Rec) → Valid (layout longest) st r → Octets (write r) → Same longest (write r) r (read_one longest t (write r))
read_alone longest t st tells r v oc =
    let e : read_rec (layout longest) st 0 (write r) ≡ good r [] = rw append-nil at (complete_rec (layout longest) st 0 r [] v) in
    rw e at (one_record longest t st tells (write r) oc (omega (arith, length-write r)))

-- the record behind rs
same_next : (rs : List Rec) (x y : Rec) (xs ys : List Rec) → rs ++ (x ∷ []) ++ xs ≡ rs ++ y ∷ ys → x ≡ y
same_next [] x y xs ys e = cc
same_next (r ∷ rs) x y xs ys e = same_next rs x y xs ys (cc)

pub record Past (longest : ℕ) (d : List ℕ) (at : ℕ) (t : Table) (rs : List Rec) (i : Item) (u : Table) : Type 0 where
  pub rec : Rec
  pub octets : take (12 + i.length) (drop at d) ≡ write rec
  pub alone : Same longest (write rec) rec (read_one longest t (write rec))
  pub ahead : Ahead longest d i.next u (rs ++ (rec ∷ []))

module _ (longest : ℕ) (d : List ℕ) (oc : Octets d) (at : ℕ) (t : Table) (rs : List Rec) (a : Ahead longest d at t rs) (i : Item) (u : Table) (e : step_at longest t d at ≡ Record i u) where
  pub past : Past longest d at t rs i u
  past =
      let g = goes_to longest d oc at a.bound t a.st a.tells (Record i u) e in
      let p = passes longest d oc at t rs a i u e in
      let same : p.rec ≡ g.rec = same_next rs p.rec g.rec _ _ (ap (λ (w : Walk). w.recs) (sym p.ahead.whole ∙ a.whole ∙ ap (befores rs) g.walk)) in
      let o : take (size g.rec) (drop at d) ≡ write g.rec = g.octets in
      let w : Octets (write g.rec) = subst Octets o (octets-take (size g.rec) (drop at d) (octets-drop at d oc)) in
      record {
        rec = g.rec;
        octets = ap (λ (n : ℕ). take (12 + n) (drop at d)) g.long ∙ o;
        alone = read_alone longest t a.st a.tells g.rec g.valid w;
        ahead = rw same at p.ahead;
      }
