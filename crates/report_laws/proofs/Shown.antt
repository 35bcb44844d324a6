-- What a record's own fields give notice of is what reading shows, and the states of a well-formed one are 1 to 6.
use mathlib.Core.Path.{◌≡◌, refl, ap}
use mathlib.Core.Bool.{Bool, true, false, cond}
use mathlib.Core.Logic.{inl, inr}
use mathlib.Core.Option.{some}
use mathlib.Core.List.{List, [], ◌∷◌, ◌++◌}
use Prim.Native.Nat.{ℕ, zero, suc}
use native.Mathlib.Omega.{arith}
use lib.Dec.{eqb, leb}
use borrow.Author.Tests.{leb-true}
use Rattle.form_spec.specs.Octets.{be, to_be}
use Rattle.form_spec.specs.Fmt.{Fmt, field, find, Fits}
use Rattle.form_spec.specs.Words.{choose, num, skip, fail, checked, in_range}
use Rattle.form_spec.specs.Body as form
use Rattle.form_spec.specs.Shape.{St, Layout, plan, front_of, value}
use Rattle.form_spec.specs.Record.{Rec, Valid}
use Rattle.form_spec.specs.Put.{Value, lay}
use Rattle.form_spec.specs.Gives.{Fit}
use Rattle.form_laws.proofs.Octets.{be-to_be}
use Rattle.page_spec.specs.Names.{old_state, new_state, sequence}
use Rattle.page_spec.specs.Bgp4mp.{addresses, session, state, state_change}
use Rattle.page_spec.specs.TableDump.{table_dump}
use Rattle.page_spec.specs.Layout.{kind, layout_for, layout, stamped}
use Rattle.page_spec.specs.Chosen.{Chosen}
use Rattle.page_spec.specs.Chosen as chosen
use Rattle.page_laws.proofs.Choice.{Bgp, kind_says}
use Rattle.write_spec.specs.Times.{micro_size, micros, bgp4mp}
use Rattle.write_spec.specs.Only.{writer}
use Rattle.write_spec.specs.Givens.{session_values, state_values}
use Rattle.write_spec.specs.declared.Time.{Time}
use Rattle.write_spec.specs.declared.Time.TheVariants.{Seconds, Micro}
use Rattle.record_spec.specs.declared.Header.{Header}
use Rattle.record_spec.specs.declared.Session.{Session}
use Rattle.record_spec.specs.declared.Route.{Route}
use Rattle.record_spec.specs.declared.States.{States}
use Rattle.record_spec.specs.Shown.{Shown, Nothing, Good}
use Rattle.record_spec.specs.declared.Body.TheVariants.{Unread, TableDump, PeerTable, Rib, RibGeneric, Change, Message}
use Rattle.record_spec.specs.Again.{clock}
use Rattle.record_spec.specs.Agrees.{writer_of, Same}
use Rattle.record_laws.proofs.KindBy.{kind_by}
use Rattle.report_spec.specs.declared.Notice.TheVariants as heed
use Rattle.report_spec.specs.Notice.{notice_by, notice, notice_of, InStates}
use Rattle.form_spec.specs.Refusal.{refused}
use Rattle.std.specs.Prelude.{Err}

-- ---- the states of a state change's fields

abbrev Stated : Fmt → List (List ℕ) → Type 0
Stated f cs = InStates (heed.Change (value (find old_state f cs)) (value (find new_state f cs)))

in_range_lem : (t u : Bool) → ◌≡◌ {A = ℕ} (cond (cond t u false) 0 9) 0 → (t ≡ true) × (u ≡ true)
in_range_lem true true e = (refl, refl)
in_range_lem true false e = absurd (omega arith)
in_range_lem false u e = absurd (omega arith)

stated : (cs : List (List ℕ)) → Fits state_change cs → Stated state_change cs
unfolding state_change state checked in_range find Fits
stated [] f = absurd f
stated (c ∷ []) f = absurd f.2.1
stated (c ∷ d ∷ []) f =
    let o = in_range_lem (leb 1 (be c)) (leb (be c) 6) f.2.0 in
    let n = in_range_lem (leb 1 (be d)) (leb (be d) 6) f.2.1.2.0 in
    (leb-true 1 (be c) o.0, leb-true (be c) 6 o.1, leb-true 1 (be d) n.0, leb-true (be d) 6 n.1)
stated (c ∷ d ∷ b ∷ cs) f = absurd f.2.1.2.1

-- another field before them changes nothing
behind : (x l b : ℕ) (k : List ℕ → Fmt) → eqb old_state x ≡ false → eqb new_state x ≡ false → ((c : List ℕ) (cs : List (List ℕ)) → Fits (k c) cs → Stated (k c) cs)
    → (cs : List (List ℕ)) → Fits (field x l b k) cs → Stated (field x l b k) cs
unfolding find Fits
behind x l b k o n h [] f = absurd f
behind x l b k o n h (c ∷ cs) f = rw (o, n) (h c cs f.2)

stated_addresses : (t u : Bool) (cs : List (List ℕ)) → let f = choose t (addresses 4 state_change) (choose u (addresses 16 state_change) (fail 7 2)) in
    Fits f cs → Stated f cs
unfolding choose addresses skip fail Fits
stated_addresses true u cs f = behind _ _ _ _ refl refl (λ a. behind _ _ _ _ refl refl (λ b. stated)) cs f
stated_addresses false true cs f = behind _ _ _ _ refl refl (λ a. behind _ _ _ _ refl refl (λ b. stated)) cs f
stated_addresses false false cs f = absurd (omega (arith, f.0))

stated_session : (w : ℕ) (cs : List (List ℕ)) → Fits (session w state_change) cs → Stated (session w state_change) cs
unfolding session num
stated_session w =
    behind _ _ _ _ refl refl λ p. behind _ _ _ _ refl refl λ l. behind _ _ _ _ refl refl λ i. behind _ _ _ _ refl refl λ c.
    stated_addresses (eqb (be c) 1) (eqb (be c) 2)

stated_change : (micro w : ℕ) (cs : List (List ℕ)) → Fits (stamped micro (session w state_change)) cs → Stated (stamped micro (session w state_change)) cs
unfolding stamped num
stated_change zero w cs f = stated_session w cs f
stated_change (suc n) w cs f = behind _ _ _ _ refl refl (λ u. stated_session w) cs f

module _ (longest : ℕ) where
  states_by : (st : St) (k : Chosen) (y : form.Body) → form.BodyFits (plan st (layout_for longest k)) y → InStates (notice_by k (layout_for longest k) y)
  unfolding layout_for plan form.BodyFits
  states_by st (Err why) y h = tt
  states_by st (chosen.Unread micro) y h = tt
  states_by st (chosen.TableDump size) y h = tt
  states_by st chosen.PeerTable y h = tt
  states_by st (chosen.Rib bits) y h = tt
  states_by st chosen.RibGeneric y h = tt
  states_by st (chosen.Change micro w) (form.plain cs) h = stated_change micro w cs h
  states_by st (chosen.Message micro w) y h = tt
  states_by st (chosen.Change micro w) (form.loose _ _) h = elim h [ ]
  states_by st (chosen.Change micro w) (form.listed _ _) h = elim h [ ]

  pub states-valid : (st : St) (r : Rec) → Valid (layout longest) st r → InStates (notice longest r)
  unfolding notice layout
  states-valid st r h = states_by st (kind r.type r.sub) r.body h.fits

-- ---- the fields by name, in what is shown

find-sequence : (size v s : ℕ) (cs : List (List ℕ)) → find sequence (table_dump size) (to_be 2 v ∷ to_be 2 s ∷ cs) ≡ some (to_be 2 s)
unfolding find table_dump num
find-sequence size v s cs = refl

abbrev Found : Fmt → List (List ℕ) → (old new : ℕ) → Type 0
Found f cs old new = (value (find old_state f cs) ≡ old) × (value (find new_state f cs) ≡ new)

module _ (w v p l n m : ℕ) (theirs ours : List ℕ) (old new : ℕ) where
  abbrev values : List Value
  values = session_values v p l n m theirs ours (state_values old new)

  -- the family is one that is listed, since the fields fit
  found_addresses : (t u : Bool) → let f = choose t (addresses 4 state_change) (choose u (addresses 16 state_change) (fail 7 2)) in
      let cs = theirs ∷ ours ∷ lay (state_values old new) in
      Fits f cs → Fit (state_values old new) → Found f cs old new
  unfolding choose addresses skip fail Fits find state_change state checked
  found_addresses true u f g = (be-to_be 2 old g.0, be-to_be 2 new g.1.0)
  found_addresses false true f g = (be-to_be 2 old g.0, be-to_be 2 new g.1.0)
  found_addresses false false f g = absurd (omega (arith, f.0))

  found_session : Fits (session w state_change) (lay values) → Fit values → Found (session w state_change) (lay values) old new
  unfolding session num find Fits
  found_session f g = found_addresses (eqb (be (to_be 2 m)) 1) (eqb (be (to_be 2 m)) 2) f.2.2.2.2 g.1.1.1.1.1.1

  found_change : (i : Time) → let cs = lay (micros i ++ values) in
      Fits (stamped (micro_size i) (session w state_change)) cs → Fit (micros i ++ values) → Found (stamped (micro_size i) (session w state_change)) cs old new
  unfolding stamped num find Fits
  found_change (Seconds t) f g = found_session f g
  found_change (Micro t u) f g = found_session f.2 g.1

-- ---- notice

plain_by : (k : Chosen) (l : Layout) (y : form.Body) (n : ℕ) → n ≡ writer k → (n ≡ 1 → ⊥) → (n ≡ 5 → ⊥) → notice_by k l y ≡ heed.Plain
plain_by (Err why) l y m e a b = refl
plain_by (chosen.Unread micro) l y m e a b = refl
plain_by (chosen.TableDump size) l y m e a b = absurd (a e)
plain_by chosen.PeerTable l y m e a b = refl
plain_by (chosen.Rib bits) l y m e a b = refl
plain_by chosen.RibGeneric l y m e a b = refl
plain_by (chosen.Change micro w) l y m e a b = absurd (b e)
plain_by (chosen.Message micro w) l y m e a b = refl

fits-front : (f : Fmt) (y : form.Body) → form.BodyFits (form.just f) y → Fits f (front_of y)
unfolding form.BodyFits
fits-front f (form.plain cs) h = h
fits-front f (form.loose _ _) h = elim h [ ]
fits-front f (form.listed _ _) h = elim h [ ]

micro_of : (i : Time) (y micro : ℕ) → bgp4mp i ≡ y → Bgp y micro → micro ≡ micro_size i
micro_of (Seconds t) y micro e (inl (a, b)) = b
micro_of (Seconds t) y micro e (inr (a, b)) = absurd (omega arith)
micro_of (Micro t u) y micro e (inl (a, b)) = absurd (omega arith)
micro_of (Micro t u) y micro e (inr (a, b)) = b

module _ (longest : ℕ) (s : List ℕ) (st : St) (r : Rec) (valid : Valid (layout longest) st r) where
  abbrev Says : Shown → Type 0
  Says x = Same longest s r x → notice longest r ≡ notice_of x

  says_plain : (x : Shown) → (writer_of x ≡ 1 → ⊥) → (writer_of x ≡ 5 → ⊥) → Same longest s r x → notice longest r ≡ heed.Plain
  unfolding notice
  says_plain x a b h = plain_by (kind r.type r.sub) _ r.body (writer_of x) h.whose a b

  says_sequence : (h : Header) (f : Route) → Says (Good h (TableDump f))
  unfolding notice layout_for
  says_sequence h f e =
      let k = kind_by (kind r.type r.sub) 1 e.whose (omega arith) in
      let g : find sequence (table_dump k.0) (front_of r.body) ≡ some (to_be 2 f.sequence) = rw (← e.gives.front) (find-sequence k.0 _ f.sequence _) in
      rw (k.1, g) (ap heed.Sequence (be-to_be 2 f.sequence e.gives.fit.1.0))

  says_change : (h : Header) (e : Session) (w : States) → Says (Good h (Change e w))
  unfolding notice layout_for layout plan
  says_change h e w q =
      let k = kind_by (kind r.type r.sub) 5 q.whose (omega arith) in
      let m : k.0 ≡ micro_size (clock h) = micro_of (clock h) r.type k.0 q.gives.type (rw k.2 at (kind_says r.type r.sub)) in
      let f : Fits (stamped k.0 (session k.1 state_change)) (front_of r.body) = fits-front _ r.body (rw k.2 at valid.fits) in
      let g = found_change k.1 _ e.peer e.local e.interface e.family _ _ w.old w.new (clock h) (rw (q.gives.front, ← m) f) q.gives.fit in
      let a : Found (stamped k.0 (session k.1 state_change)) (front_of r.body) w.old w.new = rw (m, ← q.gives.front) g in
      rw (k.2, a.0, a.1)

  says : (x : Shown) → Says x
  says Nothing h = says_plain Nothing (λ e. omega arith) (λ e. omega arith) h
  says (Err why) h = says_plain (refused why.number why.place) (λ e. omega arith) (λ e. omega arith) h
  says (Good a (Unread c)) h = says_plain (Good a (Unread c)) (λ e. omega arith) (λ e. omega arith) h
  says (Good a (TableDump f)) h = says_sequence a f h
  says (Good a (PeerTable p)) h = says_plain (Good a (PeerTable p)) (λ e. omega arith) (λ e. omega arith) h
  says (Good a (Rib b)) h = says_plain (Good a (Rib b)) (λ e. omega arith) (λ e. omega arith) h
  says (Good a (RibGeneric f b)) h = says_plain (Good a (RibGeneric f b)) (λ e. omega arith) (λ e. omega arith) h
  says (Good a (Change e w)) h = says_change a e w h
  says (Good a (Message e b)) h = says_plain (Good a (Message e b)) (λ e. omega arith) (λ e. omega arith) h

pub notice-shown : (longest : ℕ) (s : List ℕ) (st : St) (r : Rec) (x : Shown) → Valid (layout longest) st r → Same longest s r x → notice longest r ≡ notice_of x
notice-shown longest s st r x v h = says longest s st r v x h
