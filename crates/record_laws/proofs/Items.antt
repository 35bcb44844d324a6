-- Going from item to item of a record that was read shows just its items, never a fault, and ends where the record ends.
use mathlib.Core.Path.{◌≡◌, refl, sym, ap, ◌∙◌, subst}
use mathlib.Core.List.{List, ◌++◌}
use Prim.Native.Nat.{ℕ, ◌+◌, ◌≤◌}
use native.Mathlib.Omega.{arith}
use lib.ListN.{length, take, drop, length-append, length-drop, take-append-drop}
use lib.Seq.{length-take-le}
use Rattle.form_spec.specs.Octets.{Octets}
use Rattle.form_spec.specs.Fmt.{good, Fmt, end, Fits}
use Rattle.form_spec.specs.Body.{Plan, many, Body, plain, listed, joins, BodyFits, loose}
use Rattle.form_spec.specs.Shape.{Layout, entries, St, no_table, with_peers, plan, items_of}
use Rattle.form_spec.specs.Record.{Rec, write, size, read_rec, Valid}
use Rattle.form_spec.specs.Put as put
use Rattle.form_spec.specs.Gives.{tail_of}
use Rattle.form_laws.proofs.Fmt.{Right}
use Rattle.form_laws.proofs.Record.{length-write, sound_rec}
use Rattle.page_spec.specs.Peers.{table_head, peer}
use Rattle.page_spec.specs.Rib.{rib_head, generic_head, entry_rest, entry}
use Rattle.page_spec.specs.Layout.{kind, layout_for, layout}
use Rattle.page_laws.proofs.Same.{plan_entries}
use Rattle.record_spec.specs.declared.Part.{Part}
use Rattle.record_spec.specs.declared.Header.{Header}
use Rattle.record_spec.specs.declared.Peers.{Peers}
use Rattle.record_spec.specs.declared.Routes.{Routes}
use Rattle.record_spec.specs.declared.Scope.{Scope}
use Rattle.record_spec.specs.Shown.{Shown, Good}
use Rattle.record_spec.specs.declared.Body.TheVariants.{PeerTable, Rib, RibGeneric}
use Rattle.record_spec.specs.Table.{Table, Absent, Holds}
use Rattle.record_spec.specs.One.{read_one}
use Rattle.record_spec.specs.Tells.{Tells}
use Rattle.record_spec.specs.Agrees.{Same}
use Rattle.record_spec.specs.Answer as answer
use Rattle.record_spec.specs.Items.{peer_at, entry_at, peer_of, entry_of, Meets}
use Rattle.record_laws.proofs.One.{one_record}
use Rattle.record_laws.proofs.Rest.{Rested, rested}
use Rattle.record_laws.proofs.KindBy.{kind_by}
use Rattle.record_laws.proofs.Going.{Stand}
use Rattle.record_laws.proofs.Item.{peers_meet, entries_meet}

-- ---- where the items stand

-- what a writer would be given of them, n in the part p, which reaches to the record's end
pub items_stand : (s : List ℕ) (f g : Fmt) (b : Body) → BodyFits (many f g) b → (p : Part) (n : ℕ) → put.items n (answer.within s p) ≡ tail_of b → p.at + p.size ≤ length s
    → Stand s g n p.at (p.at + p.size) (items_of b)
unfolding BodyFits
items_stand s f g (listed cs its) fits p n tail h =
    let k : n ≡ length its = cc in
    let w : take p.size (drop p.at s) ≡ joins its = cc in
    let room : p.size ≤ length (drop p.at s) = simp length-drop (omega arith) in
    let l : p.size ≡ length (joins its) = sym (length-take-le p.size (drop p.at s) room) ∙ ap length w in
    record {
      rest = drop p.size (drop p.at s);
      here = record { fits = fits.2; many = sym k; lie = rw (← w) (take-append-drop p.size (drop p.at s)) };
      ends = omega arith;
      inside = h;
    }
items_stand s f g (plain _) fits p n tail h = elim fits [ ]
items_stand s f g (loose _ _) fits p n tail h = elim fits [ ]

-- the entries of a RIB record, where the table told has n peers
told-plan : (n : ℕ) (st : St) → Tells (Holds n) st → (f : Fmt) → plan st (entries f entry_rest) ≡ many f (entry n)
told-plan n (with_peers ns) h f = rw h (plan_entries ns f)
told-plan n no_table h f = elim h [ ]

-- which is well-formed only where a table is told
told : (t : Table) (st : St) → Tells t st → (f g : Fmt) (b : Body) → BodyFits (plan st (entries f g)) b → (n : ℕ) × (t ≡ Holds n)
unfolding plan BodyFits Fits
told Absent no_table h f g (plain cs) fits = absurd (omega (arith, fits.0))
told (Holds n) (with_peers ns) h f g b fits = (n, refl)
told Absent no_table h f g (loose _ _) fits = elim fits [ ]
told Absent no_table h f g (listed _ _) fits = elim fits [ ]
told Absent (with_peers ns) h f g b fits = elim h [ ]
told (Holds n) no_table h f g b fits = elim h [ ]

module _ (longest : ℕ) (t : Table) (st : St) (tells : Tells t st) (s : List ℕ) (oc : Octets s) (r : Rec) (q : List ℕ) (reads : read_rec (layout longest) st 0 s ≡ good r q) where
  pub right : Valid (layout longest) st r × (write r ++ q ≡ s)
  right = subst (Right (Valid (layout longest) st) write s) reads (sound_rec (layout longest) st 0 s oc)

  -- the record's octets and those that are left
  pub read_long : size r + length q ≡ length s
  read_long = ap (λ (n : ℕ). n + length q) (sym (length-write r)) ∙ sym (length-append (write r) q) ∙ ap length right.1

  -- what is shown is the record's
  pub read_same : (x : Shown) → read_one longest t s ≡ x → Same longest s r x
  read_same x e = subst (Same longest s r) e (rw reads at (one_record longest t st tells s oc (omega (arith, read_long))))

  -- in what is shown: the kind of x has items of the format g, n of them in p, which reaches to its end
  shown_stand : (x : Shown) → read_one longest t s ≡ x → (f g : Fmt) → plan st (layout longest r.type r.sub) ≡ many f g → (p : Part) (n : ℕ) → put.items n (answer.within s p) ≡ tail_of r.body
      → p.at + p.size ≡ answer.place x → Stand s g n p.at (answer.place x) (items_of r.body)
  shown_stand x e f g l p n tail reach =
      let inside : p.at + p.size ≤ length s = omega (arith, reach, (read_same x e).ends, read_long) in
      subst (λ (stop : ℕ). Stand s g n p.at stop (items_of r.body)) reach
      (items_stand s f g r.body (subst (λ (y : Plan). BodyFits y r.body) l right.0.fits) p n tail inside)

  module _ (h : Header) where
    -- the peers of a table stand where the first is shown to start, up to the record's end
    pub peers_stand : (p : Peers) → read_one longest t s ≡ Good h (PeerTable p) → Stand s peer p.count p.peers.at (answer.end h) (items_of r.body)
    unfolding layout layout_for plan
    peers_stand p e =
        let x : Shown = Good h (PeerTable p) in
        let k = kind_by (kind r.type r.sub) 2 (read_same x e).whose (omega arith) in
        shown_stand x e (table_head (end 0)) peer (rw k) p.peers p.count (read_same x e).gives.tail (subst Rested e (rested longest t s))

    -- so going from one to the next meets just them
    pub peers_met : (p : Peers) → read_one longest t s ≡ Good h (PeerTable p) → Meets s (peer_at s) answer.peer_end peer_of p.count p.peers.at (answer.end h) (items_of r.body)
    peers_met p e = peers_meet s p.count p.peers.at (answer.end h) (items_of r.body) (peers_stand p e)

    rib-layout : (e : Routes) → read_one longest t s ≡ Good h (Rib e) → (f : Fmt) × (layout longest r.type r.sub ≡ entries f entry_rest)
    unfolding layout layout_for
    rib-layout e z = let k = kind_by (kind r.type r.sub) 3 (read_same (Good h (Rib e)) z).whose (omega arith) in (rib_head k.0 (end 0), ap (layout_for longest) k.1)

    generic_layout : (f : Scope) (e : Routes) → read_one longest t s ≡ Good h (RibGeneric f e) → (f : Fmt) × (layout longest r.type r.sub ≡ entries f entry_rest)
    unfolding layout layout_for
    generic_layout f e z = let k = kind_by (kind r.type r.sub) 4 (read_same (Good h (RibGeneric f e)) z).whose (omega arith) in (generic_head (end 0), ap (layout_for longest) k)

    entries_told : (f : Fmt) × (layout longest r.type r.sub ≡ entries f entry_rest) → (n : ℕ) × (t ≡ Holds n)
    entries_told l = told t st tells l.0 entry_rest r.body (subst (λ (y : Layout). BodyFits (plan st y) r.body) l.1 right.0.fits)

    -- a RIB record is shown only where a table is told
    pub rib-told : (e : Routes) → read_one longest t s ≡ Good h (Rib e) → (n : ℕ) × (t ≡ Holds n)
    rib-told e z = entries_told (rib-layout e z)

    pub generic_told : (f : Scope) (e : Routes) → read_one longest t s ≡ Good h (RibGeneric f e) → (n : ℕ) × (t ≡ Holds n)
    generic_told f e z = entries_told (generic_layout f e z)

-- ---- where the table told has n peers

module _ (longest n : ℕ) (st : St) (tells : Tells (Holds n) st) (s : List ℕ) (oc : Octets s) (r : Rec) (q : List ℕ) (reads : read_rec (layout longest) st 0 s ≡ good r q) (h : Header) where
  abbrev shown : Shown
  shown = read_one longest (Holds n) s

  -- and so do the entries of a RIB record
  pub rib_stand : (e : Routes) → shown ≡ Good h (Rib e) → Stand s (entry n) e.count e.entries.at (answer.end h) (items_of r.body)
  rib_stand e z =
      let l = rib-layout longest (Holds n) st tells s oc r q reads h e z in
      shown_stand longest (Holds n) st tells s oc r q reads (Good h (Rib e)) z l.0 (entry n) (ap (plan st) l.1 ∙ told-plan n st tells l.0) e.entries e.count
      (read_same longest (Holds n) st tells s oc r q reads (Good h (Rib e)) z).gives.tail (subst Rested z (rested longest (Holds n) s))

  pub generic_stand : (f : Scope) (e : Routes) → shown ≡ Good h (RibGeneric f e) → Stand s (entry n) e.count e.entries.at (answer.end h) (items_of r.body)
  generic_stand f e z =
      let l = generic_layout longest (Holds n) st tells s oc r q reads h f e z in
      shown_stand longest (Holds n) st tells s oc r q reads (Good h (RibGeneric f e)) z l.0 (entry n) (ap (plan st) l.1 ∙ told-plan n st tells l.0) e.entries e.count
      (read_same longest (Holds n) st tells s oc r q reads (Good h (RibGeneric f e)) z).gives.tail (subst Rested z (rested longest (Holds n) s))

  -- so going from one to the next meets just them
  pub entries_met : (e : Routes) → shown ≡ Good h (Rib e) → Meets s (λ a. entry_at s a n) answer.entry_end entry_of e.count e.entries.at (answer.end h) (items_of r.body)
  entries_met e z = entries_meet s e.count e.entries.at (answer.end h) (items_of r.body) n (rib_stand e z)

  pub generic_entries_met : (f : Scope) (e : Routes) → shown ≡ Good h (RibGeneric f e)
      → Meets s (λ a. entry_at s a n) answer.entry_end entry_of e.count e.entries.at (answer.end h) (items_of r.body)
  generic_entries_met f e z = entries_meet s e.count e.entries.at (answer.end h) (items_of r.body) n (generic_stand f e z)
