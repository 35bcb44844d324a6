-- The table told behind a record that was shown tells the table in force behind it.
use mathlib.Core.Path.{◌≡◌, refl, sym, ◌∙◌}
use mathlib.Core.List.{List, map}
use Prim.Native.Nat.{ℕ}
use native.Mathlib.Omega.{arith}
use lib.ListN.{length, length-map}
use Rattle.form_spec.specs.Body.{Body, plain, loose, listed}
use Rattle.form_spec.specs.Shape.{St, items_of, as_of, after}
use Rattle.form_spec.specs.Record.{Rec, next}
use Rattle.form_spec.specs.Put.{items}
use Rattle.form_spec.specs.Gives.{tail_of}
use Rattle.page_spec.specs.Peers.{peer}
use Rattle.page_spec.specs.Layout.{layout_for, layout, kind}
use Rattle.page_spec.specs.Chosen.{Chosen, Unread, TableDump, PeerTable, Rib, RibGeneric, Change, Message}
use Rattle.record_spec.specs.declared.Header.{Header}
use Rattle.record_spec.specs.declared.Body as shown
use Rattle.record_spec.specs.declared.Body.TheVariants as body
use Rattle.record_spec.specs.Shown.{Shown, Good}
use Rattle.record_spec.specs.Table.{Table, Holds}
use Rattle.record_spec.specs.Answer.{table_behind}
use Rattle.write_spec.specs.Only.{peer_tables, writer}
use Rattle.record_spec.specs.Tells.{Tells}
use Rattle.record_spec.specs.Agrees.{writer_of, Same}
use Rattle.std.specs.Prelude.{Err}

-- ---- only a peer table changes the table in force

kept : (longest : ℕ) (k : Chosen) (b : Body) (st : St) → (writer k ≡ peer_tables → ⊥) → after (layout_for longest k) b st ≡ st
unfolding after layout_for
kept longest (Err why) b st h = refl
kept longest (Unread micro) b st h = refl
kept longest (TableDump size) b st h = refl
kept longest PeerTable b st h = absurd (h refl)
kept longest (Rib bits) b st h = refl
kept longest RibGeneric b st h = refl
kept longest (Change micro w) b st h = refl
kept longest (Message micro w) b st h = refl

other_kind : (longest : ℕ) (s : List ℕ) (r : Rec) (x : Shown) (t : Table) (st : St) → Same longest s r x → (writer_of x ≡ peer_tables → ⊥) → Tells t st → Tells t (next (layout longest) r st)
unfolding next layout
other_kind longest s r x t st a h tells = rw (kept longest (kind r.type r.sub) r.body st (λ e. h (a.whose ∙ e))) tells

-- ---- a peer table

the_kind : (k : Chosen) → writer k ≡ peer_tables → k ≡ PeerTable
the_kind (Err why) e = absurd (omega arith)
the_kind (Unread micro) e = absurd (omega arith)
the_kind (TableDump size) e = absurd (omega arith)
the_kind PeerTable e = refl
the_kind (Rib bits) e = absurd (omega arith)
the_kind RibGeneric e = absurd (omega arith)
the_kind (Change micro w) e = absurd (omega arith)
the_kind (Message micro w) e = absurd (omega arith)

counted : (b : Body) (n : ℕ) (raw : List ℕ) → items n raw ≡ tail_of b → n ≡ length (map (as_of peer) (items_of b))
counted (plain cs) n raw e = let z : ◌≡◌ {A = ℕ} 0 1 = cc in absurd (omega arith)
counted (loose cs r) n raw e = let z : ◌≡◌ {A = ℕ} 0 1 = cc in absurd (omega arith)
counted (listed cs its) n raw e = let z : n ≡ length its = cc in z ∙ sym (length-map its (as_of peer))

by_kind : (longest : ℕ) (k : Chosen) (b : Body) (st : St) (n : ℕ) (raw : List ℕ) → k ≡ PeerTable → items n raw ≡ tail_of b → Tells (Holds n) (after (layout_for longest k) b st)
unfolding after layout_for
by_kind longest k b st n raw e h = rw e (counted b n raw h)

peer-table : (longest : ℕ) (r : Rec) (st : St) (n : ℕ) (raw : List ℕ) → writer (kind r.type r.sub) ≡ peer_tables → items n raw ≡ tail_of r.body
    → Tells (Holds n) (next (layout longest) r st)
unfolding next layout
peer-table longest r st n raw e h = by_kind longest (kind r.type r.sub) r.body st n raw (the_kind (kind r.type r.sub) e) h

-- ---- behind a record of any body

pub tells_behind : (longest : ℕ) (s : List ℕ) (r : Rec) (h : Header) (b : shown.Body) (t : Table) (st : St) → Same longest s r (Good h b) → Tells t st
    → Tells (table_behind t b) (next (layout longest) r st)
tells_behind longest s r h (body.Unread c) t st m = other_kind longest s r _ t st m (λ e. omega arith)
tells_behind longest s r h (body.TableDump f) t st m = other_kind longest s r _ t st m (λ e. omega arith)
tells_behind longest s r h (body.PeerTable f) t st m = λ e. peer-table longest r st f.count _ (sym m.whose) m.gives.tail
tells_behind longest s r h (body.Rib f) t st m = other_kind longest s r _ t st m (λ e. omega arith)
tells_behind longest s r h (body.RibGeneric i f) t st m = other_kind longest s r _ t st m (λ e. omega arith)
tells_behind longest s r h (body.Change f w) t st m = other_kind longest s r _ t st m (λ e. omega arith)
tells_behind longest s r h (body.Message f w) t st m = other_kind longest s r _ t st m (λ e. omega arith)
