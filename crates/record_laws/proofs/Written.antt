-- Reading what a writer wrote shows the very values that it was given.
use mathlib.Core.Path.{◌≡◌, sym, ◌∙◌}
use mathlib.Core.List.{List, ◌++◌}
use Prim.Native.Nat.{ℕ, suc}
use lib.ListN.{length, drop}
use Rattle.form_spec.specs.Octets.{Octets}
use Rattle.form_spec.specs.Shape.{Layout, St, plan}
use Rattle.form_spec.specs.Put.{Given, octets, record_refusal}
use Rattle.form_spec.specs.Gives.{OctetsIn, Shaped}
use Rattle.form_laws.proofs.Octets.{octets-drop}
use Rattle.page_spec.specs.Layout.{layout, kind}
use Rattle.record_spec.specs.Table.{Table}
use Rattle.record_spec.specs.Answer.{fault, place}
use Rattle.record_spec.specs.One.{read_one}
use Rattle.write_spec.specs.Only.{writer, only}
use Rattle.room_spec.specs.Written as room
use Rattle.room_laws.proofs.Room as laws
use Rattle.write_spec.specs.Verdict.{writer_answer, writer_leaves, Writes}
use Rattle.record_spec.specs.Tells.{Tells}
use Rattle.record_spec.specs.Again.{again}
use Rattle.record_spec.specs.Agrees.{writer_of}
use Rattle.record_laws.specs.Forms.{forms, Formed, TailFor}
use Rattle.page_laws.proofs.Choice.{kind_says}
use Rattle.record_laws.proofs.Only.{only_own, refusal_own, body-refusal, own_writer}
use Rattle.record_laws.proofs.Shows.{ShownBack, shows-fields}
use Rattle.record_laws.proofs.Given.{same_given, formed_again}
use Rattle.record_laws.proofs.Tails.{tail-shaped}
use Rattle.form_spec.specs.Refusal.{refused as with_fault}

-- ---- a writer that did not refuse

pub record Wrote (l : ℕ → ℕ → Layout) (st : St) (g : Given) (out : List ℕ) (k : ℕ) : Type 0 where
  pub refused : record_refusal l st g ≡ 0
  pub size : k ≡ length (octets g)
  pub left : writer_leaves l st g out ≡ octets g ++ drop (length (octets g)) out

pub wrote : (l : ℕ → ℕ → Layout) (st : St) (g : Given) (out : List ℕ) (k : ℕ) → writer_answer l st g out ≡ room.Octets k → Wrote l st g out k
wrote l st g out k e = let z = laws.wrote (record_refusal l st g) 0 (octets g) out k e in record { refused = z.0; size = z.1; left = z.2 }

-- ---- and the values that it was given

-- values of the writer's own form, and what follows them
pub record Fair (n : ℕ) (g : Given) : Type 0 where
  pub octets : OctetsIn g.values
  pub tail : TailFor n g.tail
  pub form : forms g.values ≡ Formed n g

-- what reading `held` shows, told of the table t: a record of k octets, of the kind n, with the fields of g
pub record ReadBack (longest : ℕ) (t : Table) (held : List ℕ) (k n : ℕ) (g : Given) : Type 0 where
  pub accepted : fault (read_one longest t held) ≡ 0
  pub ends : place (read_one longest t held) ≡ k
  pub whose : writer_of (read_one longest t held) ≡ n
  pub given : again held (read_one longest t held) ≡ g

module _ (longest : ℕ) (t : Table) (st : St) (tells : Tells t st) (n a p : ℕ) (g : Given) (fair : Fair n g) where
  -- a writer of one kind, which lists no other
  abbrev own : ℕ → ℕ → Layout
  own = only n (with_fault (suc a) p) longest

  module _ (e : record_refusal own st g ≡ 0) (q : List ℕ) (oq : Octets q) where
    abbrev s : List ℕ
    s = octets g ++ q

    n_own : n ≡ writer (kind g.type g.sub)
    n_own = own_writer n a p longest st g e

    shaped : Shaped (plan st (layout longest g.type g.sub)) g.tail
    unfolding layout
    shaped =
        let own_layout = only_own n (with_fault (suc a) p) longest g.type g.sub n_own in
        let z = sym (refusal_own own (layout longest) st g own_layout) ∙ e in
        tail-shaped longest st g.type g.sub (kind g.type g.sub) (kind_says g.type g.sub) g.values g.tail (body-refusal (layout longest) st g z) (rw (← n_own) fair.tail)

    back : ShownBack longest g s t
    back = shows-fields longest t st tells n (with_fault (suc a) p) g n_own e fair.octets shaped q oq

    whose : writer_of (read_one longest t s) ≡ n
    whose = back.same.whose ∙ rw (← back.given.type, ← back.given.sub) (sym n_own)

    given : again s (read_one longest t s) ≡ g
    given =
        let h : Given = again s (read_one longest t s) in
        let y : h.type ≡ g.type = back.same.gives.type ∙ sym back.given.type in
        let u : h.sub ≡ g.sub = back.same.gives.sub ∙ sym back.given.sub in
        same_given h g back.rec back.same.gives back.given (formed_again s (read_one longest t s) ∙ rw (whose, y, u) (sym fair.form))

    octets_back : ReadBack longest t s (length (octets g)) n g
    octets_back = record { accepted = back.same.accepted; ends = back.ends; whose = whose; given = given }

  -- in the buffer that a writer left: it may have been told su, where it refuses no less than in st
  pub read_back : (su : St) → (record_refusal own su g ≡ 0 → record_refusal own st g ≡ 0) → (out held : List ℕ) (k : ℕ) → Octets out → Writes own su g out (room.Octets k) held
      → ReadBack longest t held k n g
  read_back su alike out held k oc w =
      let z = wrote own su g out k (sym w.0) in
      rw (w.1 ∙ z.left, z.size) (octets_back (alike z.refused) (drop (length (octets g)) out) (octets-drop (length (octets g)) out oc))
