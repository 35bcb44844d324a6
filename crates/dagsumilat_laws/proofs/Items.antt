-- Going through the peers or entries of a good record of a dump, as the calls show them: just the record's, never a fault, to its end.
use mathlib.Core.Path.{◌≡◌, refl, sym, ap, ◌∙◌, subst⁻¹}
use mathlib.Core.Bool.{Bool, true, false}
use mathlib.Core.List.{List}
use Prim.Native.Nat.{ℕ, ◌+◌, ◌<◌}
use native.Mathlib.Omega.{arith}
use lib.Dec.{eqb}
use lib.ListN.{length, drop, length-drop}
use borrow.Author.Tests.{eqb-true}
use Rattle.form_spec.specs.Octets.{Octets}
use Rattle.form_spec.specs.Fmt.{Out, bad, good}
use Rattle.form_spec.specs.Words.{choose}
use Rattle.form_spec.specs.Body.{AllFits}
use Rattle.form_spec.specs.Shape.{items_of}
use Rattle.form_spec.specs.Record.{Rec, write, read_rec, Valid}
use Rattle.form_laws.proofs.Octets.{octets-drop}
use Rattle.form_laws.proofs.Fmt.{Right}
use Rattle.form_laws.proofs.Record.{sound_rec}
use Rattle.page_spec.specs.Peers.{peer}
use Rattle.page_spec.specs.Rib.{entry}
use Rattle.page_spec.specs.Layout.{layout}
use Rattle.record_spec.specs.Shown.{Shown, Nothing, Good}
use Rattle.record_spec.specs.declared.Body.TheVariants.{PeerTable, Rib, RibGeneric, Unread, TableDump, Change, Message}
use Rattle.record_spec.specs.Table.{Table, Absent, Holds, state_of}
use Rattle.record_spec.specs.One.{read_one}
use Rattle.record_spec.specs.Answer.{place, peer_fault, peer_end, entry_fault, entry_end}
use Rattle.record_spec.specs.Items.{peer_at, met, peer_of, entry_of, Each, Meets}
use Rattle.record_spec.specs.Agrees.{Agrees}
use Rattle.record_laws.proofs.One.{one_record}
use Rattle.record_laws.proofs.Accepts.{tells-table}
use Rattle.record_laws.proofs.Going.{Stand, stand_behind}
use Rattle.record_laws.proofs.Item.{peers_meet, no_peer_fault, no_entry_fault}
use Rattle.record_laws.proofs.Items.{read_long, read_same, peers_stand, rib-told, generic_told, rib_stand, generic_stand}
use Rattle.walk_spec.specs.Steps.{step_of, step_at}
use Rattle.walk_spec.specs.declared.Item.{Item}
use Rattle.look_spec.specs.Sort.{Sort, unread, of_peer, table, rib, sort_of, sort_by}
use Rattle.look_spec.specs.Field as field
use Rattle.look_spec.specs.Field.{type_of, subtype_of, items_at, count_of}
use Rattle.look_laws.proofs.Sort.{sort_first, sort_other}
use Rattle.look_laws.proofs.There.{sorted}
use Rattle.dagsumilat_spec.specs.declared.RecordAnswer.{RecordAnswer}
use Rattle.dagsumilat_spec.specs.RecordAnswers.{none, table_by_count, count_of_table, by_sort, answer_of, answer_at}
use Rattle.dagsumilat_spec.specs.Unjudged.{unjudged_at}
use Rattle.dagsumilat_laws.proofs.Unjudged.{fields_meet}
use Rattle.std.specs.Prelude.{Err}

-- ---- by the sort of what is shown

abbrev OfTable : Sort → Type 0
OfTable unread = ⊥
OfTable of_peer = ⊥
OfTable table = Unit
OfTable rib = ⊥

abbrev OfRib : Sort → Type 0
OfRib unread = ⊥
OfRib of_peer = ⊥
OfRib table = ⊥
OfRib rib = Unit

-- a RIB record is shown only where a table is told
no_table : (n : ℕ) × (Absent ≡ Holds n) → ⊥
no_table w = let e = w.1 in let z : ◌≡◌ {A = ℕ} 0 1 = cc in omega arith

module _ (longest : ℕ) (s : List ℕ) (oc : Octets s) (r : Rec) (q : List ℕ) where
  table_stands : (t : Table) → read_rec (layout longest) (state_of t) 0 s ≡ good r q → (x : Shown) → read_one longest t s ≡ x → OfTable (sort_of x)
      → Stand s peer (count_of x) (items_at x) (place x) (items_of r.body)
  table_stands t w (Good h (PeerTable p)) e k = peers_stand longest t (state_of t) (tells-table t) s oc r q w h p e
  table_stands t w Nothing e k = elim k [ ]
  table_stands t w (Err _) e k = elim k [ ]
  table_stands t w (Good h (Unread _)) e k = elim k [ ]
  table_stands t w (Good h (TableDump _)) e k = elim k [ ]
  table_stands t w (Good h (Rib _)) e k = elim k [ ]
  table_stands t w (Good h (RibGeneric _ _)) e k = elim k [ ]
  table_stands t w (Good h (Change _ _)) e k = elim k [ ]
  table_stands t w (Good h (Message _ _)) e k = elim k [ ]

  rib_stands : (t : Table) → read_rec (layout longest) (state_of t) 0 s ≡ good r q → (x : Shown) → read_one longest t s ≡ x → OfRib (sort_of x)
      → Stand s (entry (count_of_table t)) (count_of x) (items_at x) (place x) (items_of r.body)
  rib_stands Absent w (Good h (Rib o)) e k = absurd (no_table (rib-told longest Absent (state_of Absent) tt s oc r q w h o e))
  rib_stands Absent w (Good h (RibGeneric f o)) e k = absurd (no_table (generic_told longest Absent (state_of Absent) tt s oc r q w h f o e))
  rib_stands (Holds n) w (Good h (Rib o)) e k = rib_stand longest n (state_of (Holds n)) (tells-table (Holds n)) s oc r q w h o e
  rib_stands (Holds n) w (Good h (RibGeneric f o)) e k = generic_stand longest n (state_of (Holds n)) (tells-table (Holds n)) s oc r q w h f o e
  rib_stands Absent w Nothing e k = elim k [ ]
  rib_stands Absent w (Err _) e k = elim k [ ]
  rib_stands Absent w (Good h (Unread _)) e k = elim k [ ]
  rib_stands Absent w (Good h (TableDump _)) e k = elim k [ ]
  rib_stands Absent w (Good h (PeerTable _)) e k = elim k [ ]
  rib_stands Absent w (Good h (Change _ _)) e k = elim k [ ]
  rib_stands Absent w (Good h (Message _ _)) e k = elim k [ ]
  rib_stands (Holds n) w Nothing e k = elim k [ ]
  rib_stands (Holds n) w (Err _) e k = elim k [ ]
  rib_stands (Holds n) w (Good h (Unread _)) e k = elim k [ ]
  rib_stands (Holds n) w (Good h (TableDump _)) e k = elim k [ ]
  rib_stands (Holds n) w (Good h (PeerTable _)) e k = elim k [ ]
  rib_stands (Holds n) w (Good h (Change _ _)) e k = elim k [ ]
  rib_stands (Holds n) w (Good h (Message _ _)) e k = elim k [ ]

-- ---- what the call tells of it

count-told : (n : ℕ) → count_of_table (table_by_count n) ≡ n
unfolding choose
count-told n = go (eqb n none) refl
  where
    go : (b : Bool) → eqb n none ≡ b → count_of_table (choose b Absent (Holds n)) ≡ n
    go true e = sym (eqb-true n none e)
    go false e = refl

module _ (force : ℕ) (t : Table) (at : ℕ) where
  abbrev told : Shown → RecordAnswer
  told x = answer_of force at (step_of t at x) x

  by_sort_lem : (i : Item) (u : ℕ) (x : Shown) (o : Sort) → ((by_sort i u x o).ty ≡ i.ty) × ((by_sort i u x o).subtype ≡ i.subtype)
  by_sort_lem i u x unread = (refl, refl)
  by_sort_lem i u x of_peer = (refl, refl)
  by_sort_lem i u x table = (refl, refl)
  by_sort_lem i u x rib = (refl, refl)

  typed : (x : Shown) → ((told x).ty ≡ type_of x) × ((told x).subtype ≡ subtype_of x)
  typed Nothing = (refl, refl)
  typed (Err why) = (refl, refl)
  typed (Good h (Unread _)) = (refl, refl)
  typed (Good h (TableDump _)) = (refl, refl)
  typed (Good h (PeerTable _)) = (refl, refl)
  typed (Good h (Rib _)) = (refl, refl)
  typed (Good h (RibGeneric _ _)) = (refl, refl)
  typed (Good h (Change _ _)) = (refl, refl)
  typed (Good h (Message _ _)) = (refl, refl)

  table-items : (x : Shown) → OfTable (sort_of x) → ((told x).count ≡ count_of x) × ((told x).items ≡ items_at x) × ((told x).place ≡ at + place x)
  table-items (Good h (PeerTable p)) k = (refl, refl, refl)
  table-items Nothing k = elim k [ ]
  table-items (Err _) k = elim k [ ]
  table-items (Good h (Unread _)) k = elim k [ ]
  table-items (Good h (TableDump _)) k = elim k [ ]
  table-items (Good h (Rib _)) k = elim k [ ]
  table-items (Good h (RibGeneric _ _)) k = elim k [ ]
  table-items (Good h (Change _ _)) k = elim k [ ]
  table-items (Good h (Message _ _)) k = elim k [ ]

  rib-items : (x : Shown) → OfRib (sort_of x) → ((told x).count ≡ count_of x) × ((told x).items ≡ items_at x) × ((told x).place ≡ at + place x)
  rib-items (Good h (Rib o)) k = (refl, refl, refl)
  rib-items (Good h (RibGeneric f o)) k = (refl, refl, refl)
  rib-items Nothing k = elim k [ ]
  rib-items (Err _) k = elim k [ ]
  rib-items (Good h (Unread _)) k = elim k [ ]
  rib-items (Good h (TableDump _)) k = elim k [ ]
  rib-items (Good h (PeerTable _)) k = elim k [ ]
  rib-items (Good h (Change _ _)) k = elim k [ ]
  rib-items (Good h (Message _ _)) k = elim k [ ]

-- ---- the record at `at` of the dump d

module _ (longest force : ℕ) (d : List ℕ) (oc : Octets d) (at : ℕ) where
  abbrev t : Table
  t = table_by_count force

  abbrev s : List ℕ
  s = drop at d

  abbrev x : Shown
  x = read_one longest t s

  abbrev a : RecordAnswer
  a = answer_at longest force d at

  -- where the call answers 0 before the dump's end, the grammar's reader finds a record
  pub found : a.fault ≡ 0 → at < length d → (r : Rec) × (q : List ℕ) × (read_rec (layout longest) (state_of t) 0 s ≡ good r q)
  unfolding answer_at step_at
  found e h =
      let o : Octets s = octets-drop at d oc in
      go (read_rec (layout longest) (state_of t) 0 s) refl (sound_rec (layout longest) (state_of t) 0 s o) (one_record longest t (state_of t) (tells-table t) s o (rw length-drop (omega arith)))
    where
      go : (u : Out Rec) → read_rec (layout longest) (state_of t) 0 s ≡ u → Right (Valid (layout longest) (state_of t)) write s u → Agrees longest s u x
          → (r : Rec) × (q : List ℕ) × (read_rec (layout longest) (state_of t) 0 s ≡ good r q)
      go (bad n p) z w g = absurd (w (sym (ap (λ (y : Shown). (told force t at y).fault) g) ∙ e))
      go (good r q) z w g = (r, q, z)

  module _ (r : Rec) (q : List ℕ) (reads : read_rec (layout longest) (state_of t) 0 s ≡ good r q) where
    inside : at < length d
    inside = omega (arith, read_long longest t (state_of t) (tells-table t) s (octets-drop at d oc) r q reads, length-drop at d)

    -- type and subtype say its sort
    sort : sort_of x ≡ sort_by a.ty a.subtype
    unfolding answer_at step_at
    sort =
        let terms : field.Told = record { longest = longest; table = t } in
        let y = typed force t at x in
        rw (y.0, y.1) (sorted terms d at (inside, (read_same longest t (state_of t) (tells-table t) s (octets-drop at d oc) r q reads x refl).accepted))

    -- the peers of a table
    pub peers_met : a.ty ≡ 13 → a.subtype ≡ 1 → Meets d (peer_at d) peer_end peer_of a.count (at + a.items) a.place (items_of r.body)
    unfolding answer_at step_at
    peers_met y u =
        let o : OfTable (sort_of x) = subst⁻¹ OfTable (sort ∙ sort_first a.ty a.subtype y u) tt in
        let n = table-items force t at x o in
        let stand = table_stands longest s (octets-drop at d oc) r q t reads x refl o in
        rw (n.0, n.1, n.2)
        (peers_meet d (count_of x) (at + items_at x) (at + place x) (items_of r.body) (stand_behind d at peer (count_of x) (items_at x) (place x) (items_of r.body) (omega (arith, inside)) stand))

    -- the entries of a RIB record; that they are judged well is the record's own doing
    pub entries_met : a.ty ≡ 13 → (a.subtype ≡ 1 → ⊥) → AllFits (entry force) (items_of r.body) × Meets d (unjudged_at d) entry_end entry_of a.count (at + a.items) a.place (items_of r.body)
    unfolding answer_at step_at
    entries_met y u =
        let o : OfRib (sort_of x) = subst⁻¹ OfRib (sort ∙ sort_other a.ty a.subtype y u) tt in
        let n = rib-items force t at x o in
        let stand = rw (count-told force) at (rib_stands longest s (octets-drop at d oc) r q t reads x refl o) in
        rw (n.0, n.1, n.2)
        (stand.here.fits, fields_meet d force (count_of x) (at + items_at x) (at + place x) (items_of r.body) (stand_behind d at (entry force) (count_of x) (items_at x) (place x) (items_of r.body) (omega (arith, inside)) stand))

    -- none of them is a fault
    pub no_peer_faults : a.ty ≡ 13 → a.subtype ≡ 1 → Each (λ p. peer_fault p ≡ 0) (met (peer_at d) peer_end a.count (at + a.items))
    no_peer_faults y u = no_peer_fault d a.count (at + a.items) a.place (items_of r.body) (peer_at d) (peers_met y u)

    pub no_entry_faults : a.ty ≡ 13 → (a.subtype ≡ 1 → ⊥) → Each (λ e. entry_fault e ≡ 0) (met (unjudged_at d) entry_end a.count (at + a.items))
    no_entry_faults y u = no_entry_fault d a.count (at + a.items) a.place (items_of r.body) (unjudged_at d) (entries_met y u).1

  -- ---- in the words of the calls alone

  -- what the reader of the grammar finds there
  abbrev pub Read : Rec → Type 0
  Read r = (q : List ℕ) × (read_rec (layout longest) (state_of t) 0 s ≡ good r q)

  pub table-met : a.fault ≡ 0 → at < length d → a.ty ≡ 13 → a.subtype ≡ 1 → (r : Rec) × Read r × Meets d (peer_at d) peer_end peer_of a.count (at + a.items) a.place (items_of r.body)
  table-met e h y u = let f = found e h in (f.0, (f.1, f.2), peers_met f.0 f.1 f.2 y u)

  pub rib-met : a.fault ≡ 0 → at < length d → a.ty ≡ 13 → (a.subtype ≡ 1 → ⊥)
      → (r : Rec) × Read r × AllFits (entry force) (items_of r.body) × Meets d (unjudged_at d) entry_end entry_of a.count (at + a.items) a.place (items_of r.body)
  rib-met e h y u = let f = found e h in let m = entries_met f.0 f.1 f.2 y u in (f.0, (f.1, f.2), m.0, m.1)
