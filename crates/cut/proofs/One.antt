-- What becomes of a record is what is left of it.
use mathlib.Core.Path.{◌≡◌, refl, sym, ap, ◌∙◌, subst}
use mathlib.Core.Bool.{Bool, true, false, cond, not, ◌&&◌, false≢true}
use mathlib.Core.List.{List, map}
use Prim.Native.Nat.{ℕ, ◌+◌, ◌-◌, ◌≤◌, ◌<◌}
use native.Mathlib.Omega.{arith}
use lib.Dec.{leb, ltb}
use lib.ListN.{length, take, drop}
use Rattle.std.proofs.Common.{Option, Some, None}
use Rattle.form_spec.specs.Octets.{Octets}
use Rattle.form_spec.specs.Shape.{St, with_peers, as_of}
use Rattle.form_spec.specs.Record.{next}
use Rattle.form_spec.specs.Dump.{writes}
use Rattle.page_spec.specs.Peers.{peer}
use Rattle.page_spec.specs.Layout.{layout}
use Rattle.record_spec.specs.declared.Part.{Part}
use Rattle.record_spec.specs.declared.Header.{Header}
use Rattle.record_spec.specs.declared.Session.{Session}
use Rattle.record_spec.specs.declared.Route.{Route}
use Rattle.record_spec.specs.declared.Peers as table
use Rattle.record_spec.specs.declared.Routes.{Routes}
use Rattle.record_spec.specs.Shown.{Shown, Nothing, Good}
use Rattle.record_spec.specs.Table.{Holds}
use Rattle.record_spec.specs.declared.Scope.{Scope}
use Rattle.record_spec.specs.declared.States.{States}
use Rattle.record_spec.specs.declared.Bgp.{Bgp}
use Rattle.record_spec.specs.declared.Body.TheVariants.{Unread, TableDump, PeerTable, Rib, RibGeneric, Change, Message}
use Rattle.record_spec.specs.Answer.{place, time}
use Rattle.record_spec.specs.Tells.{Tells}
use Rattle.octets_spec.specs.Be.{num_at}
use Rattle.look_spec.specs.Sort.{sort_of, is_table}
use Rattle.look_spec.specs.Field.{items_at, count_of, Counted}
use Rattle.cut_spec.specs.Keep.{kept}
use Rattle.cut_spec.specs.Cut.{mem, cutting, numbers}
use Rattle.form_spec.specs.Found.{items, Lie}
use Rattle.octets_spec.specs.Over.{over}
use Rattle.cut_spec.specs.Moved.{new_indexes_from, sieved}
use Rattle.cut_spec.specs.One.{state_at, Ranked, items_left, cut_one}
use Rattle.cut_laws.proofs.Lost.{sieved-kept}
use Rattle.cut_laws.proofs.Shows.{Shows, shows, shows_some, shows_good}
use Rattle.cut_laws.proofs.Whole as whole
use Rattle.cut_laws.proofs.Tables.{peers_in, TableLeft, table-left}
use Rattle.cut_laws.proofs.Ribs.{RibLeft, rib-left, generic_left, tells_peers, tells_none}
use Rattle.cut_laws.proofs.Stays.{table_whole, rib_whole}
use Rattle.cut.specs.State.{state_told, table_told, peers_of, loses, shown_at, rec_at}
use Rattle.cut_spec.specs.Fate.{fate_of}
use Rattle.cut_spec.specs.Left.{octets_of, Sound}
use Rattle.cut.specs.Stands.{InStep, Stands}
use Rattle.cut.specs.declared.InForce.{InForce}
use Rattle.cut_spec.specs.declared.Fate.{Fate}
use Rattle.cut_spec.specs.declared.Fate.TheVariants.{Stays, Goes, Peers, Entries}
use Rattle.form_spec.specs.Refusal.{refused}
use Rattle.std.specs.Prelude.{Err}

-- the count that g tells is that of the table in force
count_is : (g : Option InForce) (st : St) → Tells (table_told g) st → st ≡ with_peers (numbers st) → peers_of g ≡ length (numbers st)
count_is None st h e = absurd (tells_none st h e)
count_is (Some g) st h e = (tells_peers g.count st h).1

-- a table that is told, by its peers
pub state_at_is : (d : List ℕ) (from count : ℕ) → state_at peer d true from count ≡ with_peers (map (as_of peer) (items peer count (drop from d)))
unfolding state_at
state_at_is d from count = refl

-- what becomes of a record is what is left of it: it stands at `at`, where f is in force, and ends at `end`, behind which g is, with the
-- new indexes `fresh`
abbrev pub Is : (longest from to : ℕ) (ms d : List ℕ) (at : ℕ) (f : Option InForce) (fresh : List ℕ) (g : Option InForce) (end : ℕ) → Fate → Type 0
Is longest from to ms d at f fresh g end l =
    (octets_of fresh d at end (peers_of g) l ≡ writes (cut_one (layout longest) (cutting from to ms) (state_told d f) (rec_at longest d f at))) × Sound d at (peers_of g) l

-- ---- a good record stands at `at`

module _ {longest : ℕ} {ms new_indexes d : List ℕ} (oc : Octets d) {at : ℕ} {f : Option InForce} (c : Stands longest ms new_indexes d at f) where
  abbrev x : Shown
  x = shown_at longest d f at

  abbrev st : St
  st = state_told d f

  pub shown_here : Shows longest d at st x
  shown_here = shows longest d oc at c.before (table_told f) st c.step.tells x refl c.good

  not_nothing : x ≡ Nothing → ⊥
  not_nothing e = shows_some longest d oc at c.before (table_told f) st c.step.tells e

  not_refused : (n p : ℕ) → x ≡ refused n p → ⊥
  not_refused n p e = shows_good longest d oc at c.before (table_told f) st c.step.tells shown_here.reads n p e

  -- it ends in the dump
  pub goes_on : (0 < place (shown_at longest d f at)) × (at + place (shown_at longest d f at) ≤ length d)
  goes_on = (omega (arith, shown_here.ends), shown_here.inside)

  module _ (from to : ℕ) where
    abbrev in_window : Header → Bool
    in_window h = leb from (time h) && ltb (time h) to

    whole_unread : (h : Header) (p : Part) → x ≡ Good h (Unread p) → whole.Whole longest from to ms d at st (Good h (Unread p)) (in_window h)
    whole_unread h p e = whole.unread_left longest from to ms d oc at c.before (table_told f) st c.step.tells h p e

    whole_table_dump : (h : Header) (r : Route) → x ≡ Good h (TableDump r) → whole.Whole longest from to ms d at st (Good h (TableDump r)) (in_window h && not (mem r.peer ms))
    whole_table_dump h r e = whole.table_dump_left longest from to ms d oc at c.before (table_told f) st c.step.tells h r e

    whole_change : (h : Header) (r : Session) (v : States) → x ≡ Good h (Change r v) → whole.Whole longest from to ms d at st (Good h (Change r v)) (in_window h && not (mem r.peer ms))
    whole_change h r v e = whole.change-left longest from to ms d oc at c.before (table_told f) st c.step.tells h r v e

    whole_message : (h : Header) (r : Session) (v : Bgp) → x ≡ Good h (Message r v) → whole.Whole longest from to ms d at st (Good h (Message r v)) (in_window h && not (mem r.peer ms))
    whole_message h r v e = whole.message-left longest from to ms d oc at c.before (table_told f) st c.step.tells h r v e

    table_here : (h : Header) (p : table.Peers) → x ≡ Good h (PeerTable p) → TableLeft longest from to ms d at st h p
    table_here h p e = table-left longest from to ms d oc at c.before (table_told f) st c.step.tells h p e

    -- RIB records, of both kinds, whatever new indexes are the table's
    abbrev AsRib : Shown → Header → Routes → Type 0
    AsRib y h e = (more : List ℕ) → Ranked (λ n. mem n ms) more st → RibLeft longest from to ms more d at st y h e

    rib_here : (h : Header) (e : Routes) → x ≡ Good h (Rib e) → AsRib (Good h (Rib e)) h e
    rib_here h e q more k = rib-left longest from to ms more d at oc c.before (table_told f) st c.step.tells k h e q

    generic_here : (h : Header) (a : Scope) (e : Routes) → x ≡ Good h (RibGeneric a e) → AsRib (Good h (RibGeneric a e)) h e
    generic_here h a e q more k = generic_left longest from to ms more d at oc c.before (table_told f) st c.step.tells k h a e q

  -- ---- the table in force behind it

  -- a peer table with so many peers, the first at `from`
  pub record Peered (from n : ℕ) : Type 0 where
    pub few : n < 65536
    pub lie : Lie peer n (drop from d)
    pub many : length (items peer n (drop from d)) ≡ n
    pub next : next (layout longest) (rec_at longest d f at) st ≡ state_at peer d true from n
    pub tells : Tells (Holds n) (state_at peer d true from n)
    pub ranked : (more : List ℕ) → n ≤ length more → Ranked (λ k. mem k ms) (over more 0 (new_indexes_from (λ k. mem k ms) (map (as_of peer) (items peer n (drop from d))) 0)) (state_at peer d true from n)

  by_table : (y : Shown) → x ≡ y → is_table (sort_of y) ≡ true → (from n : ℕ) → from ≡ at + items_at y → n ≡ count_of y → Peered from n
  by_table Nothing e o from n a b = absurd (false≢true o)
  by_table (Err why) e o from n a b = absurd (false≢true o)
  by_table (Good h (Unread p)) e o from n a b = absurd (false≢true o)
  by_table (Good h (TableDump r)) e o from n a b = absurd (false≢true o)
  by_table (Good h (PeerTable p)) e o from n a b =
      let t = table_here 0 0 h p e in
      rw (a, b) (record { few = t.held.few; lie = t.held.lie; many = t.held.many; next = t.next; tells = t.tells; ranked = t.ranked })
  by_table (Good h (Rib r)) e o from n a b = absurd (false≢true o)
  by_table (Good h (RibGeneric i r)) e o from n a b = absurd (false≢true o)
  by_table (Good h (Change r v)) e o from n a b = absurd (false≢true o)
  by_table (Good h (Message r v)) e o from n a b = absurd (false≢true o)

  pub peered : {r n : ℕ} → Counted d at r x → n ≡ num_at d r 2 → is_table (sort_of x) ≡ true → Peered (r + 2) n
  peered {r} {n} k e o = by_table x refl o (r + 2) n k.items (e ∙ k.many)

  -- any other record leaves the table in force that there was
  same_state : (y : Shown) → x ≡ y → is_table (sort_of y) ≡ false → st ≡ next (layout longest) (rec_at longest d f at) st
  same_state Nothing e n = absurd (not_nothing e)
  same_state (Err why) e n = absurd (not_refused why.number why.place e)
  same_state (Good h (Unread p)) e n = sym (whole_unread 0 0 h p e).next
  same_state (Good h (TableDump r)) e n = sym (whole_table_dump 0 0 h r e).next
  same_state (Good h (PeerTable p)) e n = absurd (false≢true (sym n))
  same_state (Good h (Rib r)) e n = sym (rib_here 0 0 h r e new_indexes c.step.ranked).next
  same_state (Good h (RibGeneric a r)) e n = sym (generic_here 0 0 h a r e new_indexes c.step.ranked).next
  same_state (Good h (Change r v)) e n = sym (whole_change 0 0 h r v e).next
  same_state (Good h (Message r v)) e n = sym (whole_message 0 0 h r v e).next

  pub table_stays : is_table (sort_of x) ≡ false → st ≡ next (layout longest) (rec_at longest d f at) st
  table_stays n = same_state x refl n

  -- ---- what becomes of it: it ends at `end`, and behind it g is in force, with the new indexes `fresh`

  module _ (from to : ℕ) {fresh : List ℕ} {g : Option InForce} {end : ℕ} (ends : end ≡ at + place (shown_at longest d f at)) (behind : state_told d g ≡ next (layout longest) (rec_at longest d f at) (state_told d f)) (step : InStep ms fresh d g) where
    abbrev Here : Fate → Type 0
    Here = Is longest from to ms d at f fresh g end

    -- it stays as it is
    by_stays : (y : Shown) → x ≡ y → writes (cut_one (layout longest) (cutting from to ms) st (rec_at longest d f at)) ≡ take (place y) (drop at d) → Here Stays
    by_stays y e w = let m : end - at ≡ place x = omega (arith, ends) in let n : end - at ≡ place y = rw e at m in (rw n (sym w), tt)

    by_whole : (y : Shown) (b : Bool) → x ≡ y → whole.Whole longest from to ms d at st y b → Here (cond b Stays Goes)
    by_whole y true e w = by_stays y e w.left
    by_whole y false e w = (sym w.left, tt)

    by_peers : (h : Header) (p : table.Peers) → x ≡ Good h (PeerTable p) → Here (cond (loses g) (Peers p.peers.at p.count) Stays)
    by_peers h p e = go (loses g) refl
      where
        w : TableLeft longest from to ms d at st h p
        w = table_here from to h p e

        is : state_told d g ≡ with_peers (map (as_of peer) (peers_in d at p))
        is = behind ∙ w.next ∙ state_at_is d (at + p.peers.at) p.count

        kept_is : sieved fresh 0 (peers_in d at p) ≡ kept (λ it. mem (as_of peer it) ms) (peers_in d at p)
        kept_is = sieved-kept (λ n. mem n ms) (as_of peer) fresh (peers_in d at p) (subst (Ranked (λ n. mem n ms) fresh) is step.ranked)

        go : (b : Bool) → (loses g) ≡ b → Here (cond b (Peers p.peers.at p.count) Stays)
        go true z = (
          ap (items_left d at (p.peers.at - 14)) kept_is ∙ sym w.left,
          (omega (arith, w.held.starts), omega (arith, w.held.all, w.shown.inside, w.shown.ends), w.held.few, w.held.lie),
        )
        go false z = by_stays (Good h (PeerTable p)) e (table_whole w (subst (λ (s : St). length (kept (λ n. mem n ms) (numbers s)) ≡ length (numbers s)) is (step.none z)))

    by_rib : (y : Shown) (h : Header) (r : Routes) → x ≡ y → AsRib from to y h r → Here (cond (in_window from to h) (cond (loses g) (Entries r.entries.at r.count) Stays) Goes)
    by_rib y h r e as_rib = go (in_window from to h) refl (loses g) refl
      where
        -- no table is in force but the one before
        is : state_told d g ≡ st
        is = behind ∙ (as_rib new_indexes c.step.ranked).next

        w : RibLeft longest from to ms fresh d at st y h r
        w = as_rib fresh (subst (Ranked (λ n. mem n ms) fresh) is step.ranked)

        many : peers_of g ≡ length (numbers st)
        many = count_is g st (subst (Tells (table_told g)) is step.tells) w.table

        go : (b : Bool) → in_window from to h ≡ b → (l : Bool) → (loses g) ≡ l → Here (cond b (cond l (Entries r.entries.at r.count) Stays) Goes)
        go false z l k = (sym (w.left ∙ rw z), tt)
        go true z true k = (
          rw many (sym (w.left ∙ rw z)),
          (omega (arith, w.held.starts), omega (arith, w.held.all, w.shown.inside, w.shown.ends), rw many w.held.lie),
        )
        go true z false k = by_stays y e (rib_whole w (subst (λ (s : St). length (kept (λ n. mem n ms) (numbers s)) ≡ length (numbers s)) is (step.none k)) z)

    fated : (y : Shown) → x ≡ y → Here (fate_of from to ms (loses g) y)
    unfolding fate_of
    fated Nothing e = absurd (not_nothing e)
    fated (Err why) e = absurd (not_refused why.number why.place e)
    fated (Good h (Unread p)) e = by_whole _ _ e (whole_unread from to h p e)
    fated (Good h (TableDump r)) e = by_whole _ _ e (whole_table_dump from to h r e)
    fated (Good h (PeerTable p)) e = by_peers h p e
    fated (Good h (Rib r)) e = by_rib _ h r e (rib_here from to h r e)
    fated (Good h (RibGeneric a r)) e = by_rib _ h r e (generic_here from to h a r e)
    fated (Good h (Change r v)) e = by_whole _ _ e (whole_change from to h r v e)
    fated (Good h (Message r v)) e = by_whole _ _ e (whole_message from to h r v e)

    pub fate_is : {lost : Bool} → lost ≡ loses g → (l : Fate) → l ≡ fate_of from to ms lost x → Here l
    fate_is e l k = rw (k, e) (fated x refl)
