-- Records that stay whole or go: contents that are carried unread, and types 12, 16 and 17.
use mathlib.Core.Path.{◌≡◌, refl, ap, ◌∙◌}
use mathlib.Core.Bool.{Bool, true, false, cond, not, ◌&&◌}
use mathlib.Core.Logic.{inl, inr}
use mathlib.Core.Option.{some}
use mathlib.Core.List.{List, [], ◌∷◌, ◌++◌, append-nil}
use Prim.Native.Nat.{ℕ, ◌^◌, ◌<◌}
use native.Mathlib.Omega.{arith}
use lib.Dec.{leb, ltb}
use lib.ListN.{length, take, drop}
use Rattle.form_spec.specs.Octets.{Octets, be, to_be}
use Rattle.form_spec.specs.Fmt.{Fmt, find}
use Rattle.form_spec.specs.Words.{num, skip, checked, choose}
use Rattle.form_spec.specs.Shape.{Layout, fields, unread, St, after, front_of, peer_as}
use Rattle.form_spec.specs.Record.{Rec, write, size, next, time_of}
use Rattle.form_spec.specs.Dump.{writes}
use Rattle.form_spec.specs.Put.{Value, digits, lay}
use Rattle.form_spec.specs.Gives.{Fit}
use Rattle.form_laws.proofs.Octets.{be-to_be}
use Rattle.page_spec.specs.Bgp4mp.{session}
use Rattle.page_spec.specs.TableDump.{table_dump, table_dump_rest}
use Rattle.page_spec.specs.Layout.{kind, layout_for, layout, stamped, finer}
use Rattle.record_spec.specs.declared.Part.{Part}
use Rattle.record_spec.specs.declared.Header.{Header}
use Rattle.record_spec.specs.declared.Session.{Session}
use Rattle.record_spec.specs.declared.Route.{Route}
use Rattle.record_spec.specs.Shown.{Shown, Good}
use Rattle.record_spec.specs.declared.States.{States}
use Rattle.record_spec.specs.declared.Bgp as bgp
use Rattle.record_spec.specs.declared.Body.TheVariants.{Unread, TableDump, Change, Message}
use Rattle.record_spec.specs.Table.{Table}
use Rattle.record_spec.specs.Answer.{place, time}
use Rattle.record_spec.specs.One.{read_one}
use Rattle.write_spec.specs.Times.{micro_size, micros}
use Rattle.write_spec.specs.declared.Time.{Time}
use Rattle.write_spec.specs.declared.Time.TheVariants.{Seconds, Micro}
use Rattle.record_spec.specs.Tells.{Tells}
use Rattle.record_spec.specs.Again.{clock}
use Rattle.page_laws.proofs.Choice.{Bgp, kind_says}
use Rattle.cut_spec.specs.Cut.{Cut, mem, cutting, when, cut_body, rebody}
use Rattle.cut_spec.specs.One.{first_rec, cut_one}
use Rattle.record_laws.proofs.KindBy.{kind_by, kind_by_unread}
use Rattle.cut_laws.proofs.Shows.{Shows, shows}

-- ---- the peer's AS number in the fields

find_route : (size v s b u o p l : ℕ) (prefix address a : List ℕ)
    → find peer_as (table_dump size) (to_be 2 v ∷ to_be 2 s ∷ prefix ∷ to_be 1 b ∷ to_be 1 u ∷ to_be 4 o ∷ address ∷ to_be 2 p ∷ to_be 2 l ∷ a ∷ []) ≡ some (to_be 2 p)
unfolding find table_dump table_dump_rest num skip checked
find_route size v s b u o p l prefix address a = refl

find-session : (i : Time) (w : ℕ) (f : Fmt) (v p : ℕ) (vs : List Value) → Fit (micros i ++ (digits v p ∷ vs))
    → (find peer_as (stamped (micro_size i) (session w f)) (lay (micros i ++ (digits v p ∷ vs))) ≡ some (to_be v p)) × (p < 256 ^ v)
unfolding find stamped session num
find-session (Seconds t) w f v p vs h = (refl, h.0)
find-session (Micro t u) w f v p vs h = (refl, h.1.0)

micro_clock : (h : Header) (y micro : ℕ) → h.ty ≡ y → Bgp y micro → micro ≡ micro_size (clock h)
unfolding finer choose
micro_clock h y micro e (inl (a, b)) = let z : h.ty ≡ 16 = e ∙ a in rw (b, z)
micro_clock h y micro e (inr (a, b)) = let z : h.ty ≡ 17 = e ∙ a in rw (b, z)

-- ---- what is left

-- x is shown of the record, which stays whole or goes
pub record Whole (longest from to : ℕ) (ms d : List ℕ) (at : ℕ) (st : St) (x : Shown) (stays : Bool) : Type 0 where
  pub shown : Shows longest d at st x
  pub left : writes (cut_one (layout longest) (cutting from to ms) st (first_rec (layout longest) st (drop at d))) ≡ cond stays (take (place x) (drop at d)) []
  pub next : next (layout longest) (first_rec (layout longest) st (drop at d)) st ≡ st

left_whole : (r : Rec) (b : Bool) → writes (rebody r (when b (some r.body)) []) ≡ cond b (write r) []
left_whole r true = append-nil (write r)
left_whole r false = refl

left_unread : (lay : ℕ → ℕ → Layout) (c : Cut) (st : St) (r : Rec) (f : Fmt) → lay r.type r.sub ≡ unread f
    → (writes (cut_one lay c st r) ≡ cond (c.inside (time_of lay r)) (write r) []) × (next lay r st ≡ st)
unfolding cut_body next after
left_unread lay c st r f e = (rw e (left_whole r (c.inside (time_of lay r))), rw e)

left-fields : (lay : ℕ → ℕ → Layout) (c : Cut) (st : St) (r : Rec) (f : Fmt) (a : List ℕ) → lay r.type r.sub ≡ fields f → find peer_as f (front_of r.body) ≡ some a
    → (writes (cut_one lay c st r) ≡ cond (c.inside (time_of lay r) && not (c.gone (be a))) (write r) []) × (next lay r st ≡ st)
unfolding cut_body next after
left-fields lay c st r f a e g = (rw (e, g) (left_whole r (c.inside (time_of lay r) && not (c.gone (be a)))), rw e)

module _ (longest from to : ℕ) (ms d : List ℕ) (oc : Octets d) (at : ℕ) (more : at < length d) (t : Table) (st : St) (tells : Tells t st) where
  abbrev r : Rec
  r = first_rec (layout longest) st (drop at d)

  abbrev c : Cut
  c = cutting from to ms

  -- from what is left of the record, in the reader's terms
  whole : (x : Shown) → Shows longest d at st x → (b : Bool) → (writes (cut_one (layout longest) c st r) ≡ cond b (write r) []) × (next (layout longest) r st ≡ st) → Whole longest from to ms d at st x b
  whole x h b l =
      let e : writes (cut_one (layout longest) c st r) ≡ cond b (take (place x) (drop at d)) [] = rw h.octets l.0 in
      record { shown = h; left = e; next = l.1 }

  pub unread_left : (h : Header) (p : Part) → read_one longest t (drop at d) ≡ Good h (Unread p) → Whole longest from to ms d at st (Good h (Unread p)) (leb from (time h) && ltb (time h) to)
  unfolding layout layout_for
  unread_left h p e =
      let w = shows longest d oc at more t st tells (Good h (Unread p)) e refl in
      let k = kind_by_unread (kind r.type r.sub) (micro_size (clock h)) w.same.whose in
      let l : layout longest r.type r.sub ≡ unread _ = ap (layout_for longest) k.1 in
      whole (Good h (Unread p)) w _ (rw w.same.timed (left_unread (layout longest) c st r _ l))

  pub table_dump_left : (h : Header) (f : Route) → read_one longest t (drop at d) ≡ Good h (TableDump f)
      → Whole longest from to ms d at st (Good h (TableDump f)) ((leb from (time h) && ltb (time h) to) && not (mem f.peer ms))
  unfolding layout layout_for
  table_dump_left h f e =
      let w = shows longest d oc at more t st tells (Good h (TableDump f)) e refl in
      let k = kind_by (kind r.type r.sub) 1 w.same.whose (omega arith) in
      let l : layout longest r.type r.sub ≡ fields (table_dump k.0) = ap (layout_for longest) k.1 in
      let g : find peer_as (table_dump k.0) (front_of r.body) ≡ some (to_be 2 f.peer) = rw (← w.same.gives.front) (find_route k.0 _ _ _ _ _ f.peer _ _ _ _) in
      let n : be (to_be 2 f.peer) ≡ f.peer = be-to_be 2 f.peer w.same.gives.fit.1.1.1.1.1.1.1.0 in
      whole (Good h (TableDump f)) w _ (rw (w.same.timed, ← n) (left-fields (layout longest) c st r _ _ l g))

  -- types 16 and 17: the layout f stands behind the session
  session-left : (x : Shown) → Shows longest d at st x → (h : Header) → h.ty ≡ r.type → time h ≡ time_of (layout longest) r → (micro w : ℕ) (f : Fmt) → Bgp r.type micro
      → layout longest r.type r.sub ≡ fields (stamped micro (session w f)) → (v p : ℕ) (vs : List Value) → Fit (micros (clock h) ++ (digits v p ∷ vs))
      → lay (micros (clock h) ++ (digits v p ∷ vs)) ≡ front_of r.body → Whole longest from to ms d at st x ((leb from (time h) && ltb (time h) to) && not (mem p ms))
  session-left x s h y z micro w f b l v p vs fit front =
      let m : micro ≡ micro_size (clock h) = micro_clock h r.type micro y b in
      let q = find-session (clock h) w f v p vs fit in
      let g : find peer_as (stamped micro (session w f)) (front_of r.body) ≡ some (to_be v p) = rw (m, ← front) q.0 in
      let n : be (to_be v p) ≡ p = be-to_be v p q.1 in
      whole x s _ (rw (z, ← n) (left-fields (layout longest) c st r _ _ l g))

  pub change-left : (h : Header) (e : Session) (v : States) → read_one longest t (drop at d) ≡ Good h (Change e v)
      → Whole longest from to ms d at st (Good h (Change e v)) ((leb from (time h) && ltb (time h) to) && not (mem e.peer ms))
  unfolding layout layout_for
  change-left h e v q =
      let w = shows longest d oc at more t st tells (Good h (Change e v)) q refl in
      let k = kind_by (kind r.type r.sub) 5 w.same.whose (omega arith) in
      let b : Bgp r.type k.0 = rw k.2 at (kind_says r.type r.sub) in
      session-left (Good h (Change e v)) w h (ap (λ (z : Header). z.ty) w.same.headed) w.same.timed k.0 k.1 _ b (ap (layout_for longest) k.2) _ e.peer _ w.same.gives.fit w.same.gives.front

  pub message-left : (h : Header) (e : Session) (v : bgp.Bgp) → read_one longest t (drop at d) ≡ Good h (Message e v)
      → Whole longest from to ms d at st (Good h (Message e v)) ((leb from (time h) && ltb (time h) to) && not (mem e.peer ms))
  unfolding layout layout_for
  message-left h e v q =
      let w = shows longest d oc at more t st tells (Good h (Message e v)) q refl in
      let k = kind_by (kind r.type r.sub) 6 w.same.whose (omega arith) in
      let b : Bgp r.type k.0 = rw k.2 at (kind_says r.type r.sub) in
      session-left (Good h (Message e v)) w h (ap (λ (z : Header). z.ty) w.same.headed) w.same.timed k.0 k.1 _ b (ap (layout_for longest) k.2) _ e.peer _ w.same.gives.fit w.same.gives.front
