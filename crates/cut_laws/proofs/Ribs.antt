-- A RIB record keeps the entries of the peers that stay, renumbered, and goes where it had entries and lost them all.
use mathlib.Core.Path.{◌≡◌, refl, ap, ◌∙◌, subst}
use mathlib.Core.Bool.{Bool, true, false, cond, ◌&&◌, ◌||◌}
use mathlib.Core.List.{List, [], ◌∷◌, append-nil}
use Prim.Native.Nat.{ℕ, suc, ◌+◌, ◌-◌, ◌<◌}
use native.Mathlib.Omega.{arith}
use lib.Dec.{leb, ltb, eqb}
use lib.ListN.{length, drop}
use borrow.Author.Tests.{lt-ltb, ne_eqb}
use Rattle.form_spec.specs.Octets.{Octets}
use Rattle.form_spec.specs.Fmt.{Fmt, end, Fits}
use Rattle.form_spec.specs.Body.{Body, plain, listed, many, BodyFits, loose}
use Rattle.form_spec.specs.Shape.{Layout, entries, St, no_table, with_peers, plan, after}
use Rattle.form_spec.specs.Record.{Rec, write, next, time_of}
use Rattle.form_spec.specs.Dump.{writes}
use Rattle.form_spec.specs.Put as put
use Rattle.form_spec.specs.Gives.{tail_of}
use Rattle.page_spec.specs.Rib.{rib_head, generic_head, entry_rest, entry}
use Rattle.page_spec.specs.Layout.{kind, layout_for, layout}
use Rattle.record_spec.specs.declared.Header.{Header}
use Rattle.record_spec.specs.declared.Routes.{Routes}
use Rattle.record_spec.specs.Shown.{Shown, Good}
use Rattle.record_spec.specs.declared.Scope.{Scope}
use Rattle.record_spec.specs.declared.Body.TheVariants.{Rib, RibGeneric}
use Rattle.record_spec.specs.Table.{Table, Absent, Holds}
use Rattle.record_spec.specs.Answer.{place, time, within}
use Rattle.record_spec.specs.One.{read_one}
use Rattle.record_spec.specs.Tells.{Tells}
use Rattle.cut_spec.specs.Cut.{Cut, mem, cutting, numbers, cut_entries, when, unless_emptied, cut_body, rebody}
use Rattle.form_spec.specs.Found.{items}
use Rattle.cut_spec.specs.Moved.{moved}
use Rattle.cut_spec.specs.One.{Ranked, first_rec, cut_one, items_left}
use Rattle.cut_laws.proofs.Filled.{ranked-cut}
use Rattle.record_laws.proofs.Rest.{Rested, rested}
use Rattle.cut_laws.proofs.Shows.{Shows, shows}
use Rattle.record_laws.proofs.KindBy.{kind_by}
use Rattle.cut_laws.proofs.Items.{with_items, Held, held}

-- ---- one record, for every layout

-- what came without entries stays, and so does what keeps one
emptied_left : (r : Rec) (cs : List (List ℕ)) (its jts : List (List (List ℕ))) (b : Bool)
    → writes (rebody r (when b (unless_emptied its cs jts)) []) ≡ cond b (cond (eqb (length its) 0 || ltb 0 (length jts)) (write (with_items r cs jts)) []) []
emptied_left r cs its jts false = refl
emptied_left r cs [] jts true = append-nil (write (with_items r cs jts))
emptied_left r cs (x ∷ xs) [] true = rw (ne_eqb (suc (length xs)) 0 (λ e. omega arith))
emptied_left r cs (x ∷ xs) (y ∷ ys) true =
    rw (ne_eqb (suc (length xs)) 0 (λ e. omega arith), lt-ltb 0 (suc (length ys)) (omega arith)) (append-nil (write (with_items r cs (y ∷ ys))))

left_entries : (lay : ℕ → ℕ → Layout) (c : Cut) (ns : List ℕ) (r : Rec) (f g : Fmt) (cs : List (List ℕ)) (its jts : List (List (List ℕ))) → lay r.type r.sub ≡ entries f g
    → r.body ≡ listed cs its → jts ≡ cut_entries c.gone ns its
    → (writes (cut_one lay c (with_peers ns) r) ≡ cond (c.inside (time_of lay r)) (cond (eqb (length its) 0 || ltb 0 (length jts)) (write (with_items r cs jts)) []) []) × (next lay r (with_peers ns) ≡ with_peers ns)
unfolding cut_body next after
left_entries lay c ns r f g cs its jts e b j = (
  ap (λ (l : Layout). writes (rebody r (cut_body c ns l (time_of lay r) r.body) [])) e
      ∙ ap (λ (y : Body). writes (rebody r (cut_body c ns (entries f g) (time_of lay r) y) [])) b
      ∙ rw j (emptied_left r cs its (cut_entries c.gone ns its) (c.inside (time_of lay r))),
  ap (λ (l : Layout). after l r.body (with_peers ns)) e,
)

-- ---- the page's

-- a RIB record stands only where a table is in force
tabled : (st : St) (f g : Fmt) (b : Body) → BodyFits (plan st (entries f g)) b → st ≡ with_peers (numbers st)
unfolding plan BodyFits Fits
tabled no_table f g (plain cs) h = absurd (omega (arith, h.0))
tabled (with_peers ns) f g b h = refl
tabled no_table f g (loose _ _) h = elim h [ ]
tabled no_table f g (listed _ _) h = elim h [ ]

-- the entries of the RIB record e, shown of the record at `at` of d, and those that stay
abbrev pub entries_in : (d : List ℕ) (at : ℕ) → St → Routes → List (List (List ℕ))
entries_in d at st e = items (entry (length (numbers st))) e.count (drop (at + e.entries.at) d)

abbrev pub entries_left : (new_indexes d : List ℕ) (at : ℕ) → St → Routes → List (List (List ℕ))
entries_left new_indexes d at st e = moved new_indexes (entries_in d at st e)

pub record RibLeft (longest from to : ℕ) (ms new_indexes d : List ℕ) (at : ℕ) (st : St) (x : Shown) (h : Header) (e : Routes) : Type 0 where
  pub shown : Shows longest d at st x
  pub table : st ≡ with_peers (numbers st)
  pub held : Held d at (first_rec (layout longest) st (drop at d)) (entry (length (numbers st))) e.entries.at e.count
  pub left : writes (cut_one (layout longest) (cutting from to ms) st (first_rec (layout longest) st (drop at d)))
      ≡ cond (leb from (time h) && ltb (time h) to)
      (cond (eqb e.count 0 || ltb 0 (length (entries_left new_indexes d at st e))) (items_left d at (e.entries.at - 14) (entries_left new_indexes d at st e)) []) []
  pub cuts : entries_left new_indexes d at st e ≡ cut_entries (λ n. mem n ms) (numbers st) (entries_in d at st e)
  pub next : next (layout longest) (first_rec (layout longest) st (drop at d)) st ≡ st

module _ (longest from to : ℕ) (ms new_indexes d : List ℕ) (at : ℕ) where
  entries_left_lem : (st : St) → Ranked (λ n. mem n ms) new_indexes st → (x : Shown) → Shows longest d at st x → (h : Header) (e : Routes) (f : Fmt)
      → layout longest (first_rec (layout longest) st (drop at d)).type (first_rec (layout longest) st (drop at d)).sub ≡ entries f entry_rest
      → time h ≡ time_of (layout longest) (first_rec (layout longest) st (drop at d)) → e.entries.at + e.entries.size ≡ place x
      → put.items e.count (within (drop at d) e.entries) ≡ tail_of (first_rec (layout longest) st (drop at d)).body → RibLeft longest from to ms new_indexes d at st x h e
  unfolding plan entry
  entries_left_lem no_table k x w h e f l clock reach tail =
      let z = tabled no_table f entry_rest (first_rec (layout longest) no_table (drop at d)).body (subst (λ (y : Layout). BodyFits (plan no_table y) (first_rec (layout longest) no_table (drop at d)).body) l w.read.valid.fits) in
      absurd (differ z)
    where
      differ : no_table ≡ with_peers [] → ⊥
      differ z = let y : ◌≡◌ {A = ℕ} 0 1 = cc in omega arith
  entries_left_lem (with_peers ns) k x w h e f l clock reach tail =
      let st : St = with_peers ns in
      let r : Rec = first_rec (layout longest) st (drop at d) in
      let fits : BodyFits (many f (entry (length ns))) r.body = subst (λ (y : Layout). BodyFits (plan st y) r.body) l w.read.valid.fits in
      let i = held d at r w.read.rest w.read.lie f (entry (length ns)) e.entries e.count (reach ∙ w.ends) fits tail in
      let its : List (List (List ℕ)) = entries_in d at st e in
      let j : moved new_indexes its ≡ cut_entries (λ n. mem n ms) ns its = ranked-cut (λ n. mem n ms) ns entry_rest new_indexes k its i.fit in
      let z = left_entries (layout longest) (cutting from to ms) ns r f entry_rest i.fields its (moved new_indexes its) l i.body j in
      let b : Bool = leb from (time h) && ltb (time h) to in
      let some : Bool = eqb e.count 0 || ltb 0 (length (moved new_indexes its)) in
      let q : writes (cut_one (layout longest) (cutting from to ms) st r) ≡ cond b (cond some (items_left d at (e.entries.at - 14) (moved new_indexes its)) []) [] =
      z.0 ∙ rw (i.many, ← clock, i.other (moved new_indexes its)) in
      record {
        shown = w;
        table = refl;
        held = i;
        left = q;
        cuts = j;
        next = z.1;
      }

  module _ (oc : Octets d) (more : at < length d) (t : Table) (st : St) (tells : Tells t st) (ranked : Ranked (λ n. mem n ms) new_indexes st) where
    pub rib-left : (h : Header) (e : Routes) → read_one longest t (drop at d) ≡ Good h (Rib e) → RibLeft longest from to ms new_indexes d at st (Good h (Rib e)) h e
    unfolding layout layout_for
    rib-left h e q =
        let r : Rec = first_rec (layout longest) st (drop at d) in
        let w = shows longest d oc at more t st tells (Good h (Rib e)) q refl in
        let k = kind_by (kind r.type r.sub) 3 w.same.whose (omega arith) in
        entries_left_lem st ranked (Good h (Rib e)) w h e (rib_head k.0 (end 0)) (ap (layout_for longest) k.1) w.same.timed (subst Rested q (rested longest t (drop at d))) w.same.gives.tail

    pub generic_left : (h : Header) (f : Scope) (e : Routes) → read_one longest t (drop at d) ≡ Good h (RibGeneric f e)
        → RibLeft longest from to ms new_indexes d at st (Good h (RibGeneric f e)) h e
    unfolding layout layout_for
    generic_left h f e q =
        let r : Rec = first_rec (layout longest) st (drop at d) in
        let w = shows longest d oc at more t st tells (Good h (RibGeneric f e)) q refl in
        let k = kind_by (kind r.type r.sub) 4 w.same.whose (omega arith) in
        entries_left_lem st ranked (Good h (RibGeneric f e)) w h e (generic_head (end 0)) (ap (layout_for longest) k) w.same.timed (subst Rested q (rested longest t (drop at d))) w.same.gives.tail

-- a table of n peers that is told is in force
pub tells_peers : (n : ℕ) (st : St) → Tells (Holds n) st → (st ≡ with_peers (numbers st)) × (n ≡ length (numbers st))
tells_peers n (with_peers ns) h = (refl, h)
tells_peers n no_table h = elim h [ ]

-- and without one none is
pub tells_none : (st : St) → Tells Absent st → st ≡ with_peers (numbers st) → ⊥
tells_none no_table h e = let z : ◌≡◌ {A = ℕ} 0 1 = cc in omega arith
tells_none (with_peers _) h e = elim h [ ]
