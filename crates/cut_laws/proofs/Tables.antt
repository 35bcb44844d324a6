-- A peer table stays, without the peers that go, and its peers are then those of the table in force.
use mathlib.Core.Path.{◌≡◌, refl, sym, ap, ◌∙◌, subst}
use mathlib.Core.Bool.{true}
use mathlib.Core.List.{List, [], append-nil, map}
use Prim.Native.Nat.{ℕ, ◌+◌, ◌-◌, ◌≤◌, ◌<◌}
use native.Mathlib.Omega.{arith}
use lib.ListN.{length, drop, length-map}
use Rattle.form_spec.specs.Octets.{Octets}
use Rattle.form_spec.specs.Fmt.{Fmt, end}
use Rattle.form_spec.specs.Body.{Body, listed, many, BodyFits}
use Rattle.form_spec.specs.Shape.{Layout, table, St, with_peers, plan, after, as_of}
use Rattle.form_spec.specs.Record.{Rec, write, size, next, time_of}
use Rattle.form_spec.specs.Dump.{writes}
use Rattle.page_spec.specs.Peers.{table_head, peer}
use Rattle.page_spec.specs.Layout.{kind, layout_for, layout}
use Rattle.record_spec.specs.declared.Header.{Header}
use Rattle.record_spec.specs.declared.Peers.{Peers}
use Rattle.record_spec.specs.Shown.{Good}
use Rattle.record_spec.specs.declared.Body.TheVariants.{PeerTable}
use Rattle.record_spec.specs.Table.{Table, Holds}
use Rattle.record_spec.specs.One.{read_one}
use Rattle.record_spec.specs.Tells.{Tells}
use Rattle.cut_spec.specs.Keep.{kept}
use Rattle.cut_spec.specs.Cut.{Cut, mem, cutting, numbers, cut_body, rebody}
use Rattle.octets_spec.specs.Over.{over}
use Rattle.form_spec.specs.Found.{items}
use Rattle.cut_spec.specs.Moved.{new_indexes_from}
use Rattle.cut_spec.specs.One.{state_at, Ranked, first_rec, cut_one, items_left}
use Rattle.cut_laws.proofs.Filled.{filled}
use Rattle.record_laws.proofs.Rest.{Rested, rested}
use Rattle.cut_laws.proofs.Shows.{Shows, shows}
use Rattle.record_laws.proofs.KindBy.{kind_by}
use Rattle.cut_laws.proofs.Items.{with_items, Held, held}

left-table : (lay : ℕ → ℕ → Layout) (c : Cut) (st : St) (r : Rec) (f g : Fmt) (cs : List (List ℕ)) (its : List (List (List ℕ))) → lay r.type r.sub ≡ table f g → r.body ≡ listed cs its
    → (writes (cut_one lay c st r) ≡ write (with_items r cs (kept (λ it. c.gone (as_of g it)) its))) × (next lay r st ≡ with_peers (map (as_of g) its))
unfolding cut_body next after
left-table lay c st r f g cs its e b = (
  ap (λ (l : Layout). writes (rebody r (cut_body c (numbers st) l (time_of lay r) r.body) [])) e
      ∙ ap (λ (y : Body). writes (rebody r (cut_body c (numbers st) (table f g) (time_of lay r) y) [])) b
      ∙ append-nil (write (with_items r cs (kept (λ it. c.gone (as_of g it)) its))),
  ap (λ (l : Layout). after l r.body st) e ∙ ap (λ (y : Body). after (table f g) y st) b,
)

-- the peers of the table p, shown of the record at `at` of d
abbrev pub peers_in : (d : List ℕ) (at : ℕ) → Peers → List (List (List ℕ))
peers_in d at p = items peer p.count (drop (at + p.peers.at) d)

-- those that stay
abbrev pub peers_left : (ms d : List ℕ) (at : ℕ) → Peers → List (List (List ℕ))
peers_left ms d at p = kept (λ it. mem (as_of peer it) ms) (peers_in d at p)

pub record TableLeft (longest from to : ℕ) (ms d : List ℕ) (at : ℕ) (st : St) (h : Header) (p : Peers) : Type 0 where
  pub shown : Shows longest d at st (Good h (PeerTable p))
  pub held : Held d at (first_rec (layout longest) st (drop at d)) peer p.peers.at p.count
  pub left : writes (cut_one (layout longest) (cutting from to ms) st (first_rec (layout longest) st (drop at d))) ≡ items_left d at (p.peers.at - 14) (peers_left ms d at p)
  pub next : next (layout longest) (first_rec (layout longest) st (drop at d)) st ≡ state_at peer d true (at + p.peers.at) p.count
  pub tells : Tells (Holds p.count) (state_at peer d true (at + p.peers.at) p.count)
  -- the new indexes that are filled in for it
  pub ranked : (new_indexes : List ℕ) → p.count ≤ length new_indexes
      → Ranked (λ n. mem n ms) (over new_indexes 0 (new_indexes_from (λ n. mem n ms) (map (as_of peer) (peers_in d at p)) 0)) (state_at peer d true (at + p.peers.at) p.count)

module _ (longest from to : ℕ) (ms d : List ℕ) (oc : Octets d) (at : ℕ) (more : at < length d) (t : Table) (st : St) (tells : Tells t st) where
  pub table-left : (h : Header) (p : Peers) → read_one longest t (drop at d) ≡ Good h (PeerTable p) → TableLeft longest from to ms d at st h p
  unfolding layout layout_for plan state_at
  table-left h p e =
      let r : Rec = first_rec (layout longest) st (drop at d) in
      let w = shows longest d oc at more t st tells (Good h (PeerTable p)) e refl in
      let k = kind_by (kind r.type r.sub) 2 w.same.whose (omega arith) in
      let l : layout longest r.type r.sub ≡ table (table_head (end 0)) peer = ap (layout_for longest) k in
      let reach : p.peers.at + p.peers.size ≡ size r = subst Rested e (rested longest t (drop at d)) ∙ w.ends in
      let fits : BodyFits (many (table_head (end 0)) peer) r.body = subst (λ (x : Layout). BodyFits (plan st x) r.body) l w.read.valid.fits in
      let i = held d at r w.read.rest w.read.lie (table_head (end 0)) peer p.peers p.count reach fits w.same.gives.tail in
      let z = left-table (layout longest) (cutting from to ms) st r (table_head (end 0)) peer i.fields (peers_in d at p) l i.body in
      let m : length (map (as_of peer) (peers_in d at p)) ≡ p.count = length-map (peers_in d at p) (as_of peer) ∙ i.many in
      record {
        shown = w;
        held = i;
        left = z.0 ∙ i.other (peers_left ms d at p);
        next = z.1;
        tells = sym m;
        ranked = λ new_indexes b. filled (λ n. mem n ms) (map (as_of peer) (peers_in d at p)) new_indexes (omega (arith, m, i.few)) (omega (arith, m));
      }
