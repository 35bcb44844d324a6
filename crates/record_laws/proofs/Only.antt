-- The writer of a record's kind refuses it just where the whole page does.
use mathlib.Core.Path.{◌≡◌, refl, sym, ap, ◌∙◌}
use mathlib.Core.Bool.{Bool, true, false}
use mathlib.Core.Logic.{inl, inr}
use Prim.Native.Nat.{ℕ, suc, ◌<◌}
use native.Mathlib.Omega.{arith}
use lib.Dec.{eqb}
use borrow.Author.Tests.{eq-eqb, eqb-true}
use Rattle.form_spec.specs.Words.{choose}
use Rattle.form_spec.specs.Shape.{Layout, St, no_table, plan}
use Rattle.form_spec.specs.Put.{Given, large, refusal, body_refusal, type_refusal, fields_refusal, record_refusal}
use Rattle.form_laws.proofs.Put.{or_else-zero}
use Rattle.page_spec.specs.Layout.{kind, layout_for, layout}
use Rattle.page_spec.specs.Chosen.{Chosen, Unread, TableDump, PeerTable, Rib, RibGeneric, Change, Message}
use Rattle.write_spec.specs.Only.{ribs, generic_ribs, writer, only, Own}
use Rattle.form_spec.specs.Refusal.{refused}
use Rattle.std.specs.Prelude.{Err}

-- a writer has its own records' layouts
pub only_own : (n : ℕ) (other : Chosen) (longest type sub : ℕ) → n ≡ writer (kind type sub) → only n other longest type sub ≡ layout longest type sub
unfolding layout choose
only_own n other longest type sub e = rw (e, eq-eqb (writer (kind type sub)) (writer (kind type sub)) refl)

-- only the layout of the record's own type and subtype is asked
pub refusal_own : (a b : ℕ → ℕ → Layout) (st : St) (g : Given) → a g.type g.sub ≡ b g.type g.sub → record_refusal a st g ≡ record_refusal b st g
unfolding record_refusal fields_refusal
refusal_own a b st g e = rw e

-- and the table in force only of a RIB record's
plan_free : (longest : ℕ) (st : St) (k : Chosen) → (writer k ≡ ribs → ⊥) → (writer k ≡ generic_ribs → ⊥) → plan st (layout_for longest k) ≡ plan no_table (layout_for longest k)
unfolding plan layout_for
plan_free longest st (Err why) h i = refl
plan_free longest st (Unread micro) h i = refl
plan_free longest st (TableDump size) h i = refl
plan_free longest st PeerTable h i = refl
plan_free longest st (Rib bits) h i = absurd (h refl)
plan_free longest st RibGeneric h i = absurd (i refl)
plan_free longest st (Change micro w) h i = refl
plan_free longest st (Message micro w) h i = refl

pub refusal_free : (longest : ℕ) (st : St) (g : Given) → (writer (kind g.type g.sub) ≡ ribs → ⊥) → (writer (kind g.type g.sub) ≡ generic_ribs → ⊥)
    → record_refusal (layout longest) st g ≡ record_refusal (layout longest) no_table g
unfolding record_refusal fields_refusal layout
refusal_free longest st g h i = rw (plan_free longest st (kind g.type g.sub) h i)

pub body-refusal : (l : ℕ → ℕ → Layout) (st : St) (g : Given) → record_refusal l st g ≡ 0 → body_refusal (plan st (l g.type g.sub)) g.values g.tail ≡ 0
unfolding record_refusal fields_refusal
body-refusal l st g e =
    let z0 = or_else-zero (fields_refusal l st g) _ e in
    let z1 = or_else-zero (large 4 g.stamp) _ z0.0 in
    let z2 = or_else-zero (large 2 g.type) _ z1.1 in
    let z3 = or_else-zero (type_refusal (l g.type g.sub)) _ z2.1 in
    (or_else-zero (large 2 g.sub) _ z3.1).1

-- what a writer does not refuse is of its own kind
pub own_writer : (n a p longest : ℕ) (st : St) (g : Given) → record_refusal (only n (refused (suc a) p) longest) st g ≡ 0 → n ≡ writer (kind g.type g.sub)
unfolding plan layout_for body_refusal refusal choose
own_writer n a p longest st g e = go (eqb (writer (kind g.type g.sub)) n) refl (body-refusal (only n (refused (suc a) p) longest) st g e)
  where
    go : (b : Bool) → eqb (writer (kind g.type g.sub)) n ≡ b → body_refusal (plan st (layout_for longest (choose b (kind g.type g.sub) (refused (suc a) p)))) g.values g.tail ≡ 0
        → n ≡ writer (kind g.type g.sub)
    go true t h = sym (eqb-true _ n t)
    go false t h = absurd (omega arith)

-- so a writer of other records than RIB asks for no table: what it does not refuse without one, it refuses with none
pub own_refusal_free : (n a p longest : ℕ) (st : St) (g : Given) → (n ≡ ribs → ⊥) → (n ≡ generic_ribs → ⊥) → record_refusal (only n (refused (suc a) p) longest) no_table g ≡ 0
    → record_refusal (only n (refused (suc a) p) longest) st g ≡ 0
own_refusal_free n a p longest st g h i e =
    let w = own_writer n a p longest no_table g e in
    let own_layout = only_own n (refused (suc a) p) longest g.type g.sub w in
    let own = only n (refused (suc a) p) longest in
    refusal_own own (layout longest) st g own_layout ∙ refusal_free longest st g (λ d. h (w ∙ d)) (λ d. i (w ∙ d)) ∙ sym (refusal_own own (layout longest) no_table g own_layout) ∙ e

-- ---- records of the writer's own, and those that the reader refuses as the writer does

choose_same : (b : Bool) (k j : Chosen) → k ≡ j → choose b k j ≡ k
unfolding choose
choose_same true k j e = refl
choose_same false k j e = sym e

-- the writer and the reader have one layout for them
pub own_layout : (n : ℕ) (other : Chosen) (longest : ℕ) (g : Given) → Own n other g → only n other longest g.type g.sub ≡ layout longest g.type g.sub
unfolding layout
own_layout n other longest g (inl e) = only_own n other longest g.type g.sub (sym e)
own_layout n other longest g (inr e) = ap (layout_for longest) (choose_same (eqb (writer (kind g.type g.sub)) n) (kind g.type g.sub) other e)

-- and so refuse alike
pub own_refusal : (n : ℕ) (other : Chosen) (longest : ℕ) (st : St) (g : Given) → Own n other g → record_refusal (only n other longest) st g ≡ record_refusal (layout longest) st g
own_refusal n other longest st g o = refusal_own (only n other longest) (layout longest) st g (own_layout n other longest g o)

-- what is refused by its Type or Subtype is no RIB record
own_other : (n k a p : ℕ) (g : Given) → 0 < k → Own n (refused (suc a) p) g → (n ≡ k → ⊥) → writer (kind g.type g.sub) ≡ k → ⊥
own_other n k a p g some (inl e) h d = h (sym e ∙ d)
own_other n k a p g some (inr e) h d = let z : 0 ≡ k = sym (ap writer e) ∙ d in absurd (omega arith)

-- so a writer of other records, who is told of no table, refuses as a reader who is told of any
pub own_refusal_untold : (n a p longest : ℕ) (st : St) (g : Given) → Own n (refused (suc a) p) g → (n ≡ ribs → ⊥) → (n ≡ generic_ribs → ⊥)
    → record_refusal (only n (refused (suc a) p) longest) no_table g ≡ record_refusal (layout longest) st g
own_refusal_untold n a p longest st g o h i =
    own_refusal n (refused (suc a) p) longest no_table g o
    ∙ sym (refusal_free longest st g (own_other n ribs a p g (omega arith) o h) (own_other n generic_ribs a p g (omega arith) o i))
