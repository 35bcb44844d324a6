-- One step over a dump goes as the dump's walk does: at its end, at a fault, and past a record.
use mathlib.Core.Path.{◌≡◌, refl, subst}
use mathlib.Core.Logic.{⊎_elim}
use mathlib.Core.List.{List}
use Prim.Native.Nat.{ℕ, ◌+◌, ◌-◌, ◌≤◌, ◌<◌}
use native.Mathlib.Omega.{arith}
use native.Mathlib.Nat.{add-zero, eq-or-lt_of_le}
use lib.ListN.{length, take, drop, length-drop}
use lib.Seq.{drop-length, take_at}
use Rattle.form_spec.specs.Octets.{Octets}
use Rattle.form_spec.specs.Fmt.{Out, bad, good}
use Rattle.form_spec.specs.Body.{spell}
use Rattle.form_spec.specs.Shape.{St}
use Rattle.form_spec.specs.Record.{Rec, write, size, read_rec, Valid, next, time_of}
use Rattle.form_spec.specs.Dump.{stop, before, walk_from}
use Rattle.form_laws.proofs.Octets.{octets-drop}
use Rattle.form_laws.proofs.Fmt.{Right}
use Rattle.form_laws.proofs.Record.{length-write, sound_rec}
use Rattle.form_laws.proofs.Moved.{moved, moved_record}
use Rattle.form_laws.proofs.Dump.{walk_end, walk_bad, walk_good, good_fits}
use Rattle.page_spec.specs.Layout.{layout}
use Rattle.page_laws.proofs.Inside.{inside}
use Rattle.record_spec.specs.declared.Header.{Header}
use Rattle.record_spec.specs.Table.{Table, state_of}
use Rattle.record_spec.specs.Shown.{Shown, Nothing, Good}
use Rattle.record_spec.specs.One.{read_one}
use Rattle.record_spec.specs.Answer.{table_behind}
use Rattle.record_spec.specs.Tells.{Tells}
use Rattle.record_spec.specs.Agrees.{Same, Agrees, head_of}
use Rattle.record_laws.proofs.One.{one_record}
use Rattle.record_laws.proofs.Accepts.{no_octets, not_refused, tells-table}
use Rattle.place_laws.proofs.Record.{faulty_record, place_in}
use Rattle.walk_spec.specs.Steps.{stepped, step_of, step_at}
use Rattle.walk_spec.specs.declared.Item.{Item}
use Rattle.walk_spec.specs.Step.{Step, End, Record}
use Rattle.walk_laws.proofs.Table.{tells_behind}
use Rattle.form_spec.specs.Refusal.{refused}
use Rattle.std.specs.Prelude.{Err}

-- ---- what a step says of the walk from there on

module _ (longest : ℕ) (d : List ℕ) (at : ℕ) (st : St) where
  -- no octets are left
  pub record AtEnd : Type 0 where
    pub here : at ≡ length d
    pub walk : walk_from (layout longest) st at (drop at d) ≡ stop 0 at

  -- no record stands there, its fault is in the field at `off` of it, and the walk stops with that fault
  pub record AtFault (n p : ℕ) : Type 0 where
    pub off : ℕ
    pub read : read_rec (layout longest) st 0 (drop at d) ≡ bad n off
    pub here : p ≡ at + off
    pub number : n ≡ 0 → ⊥
    pub walk : walk_from (layout longest) st at (drop at d) ≡ stop n p

  -- a record stands there, and the walk goes on behind it
  pub record Past (i : Item) (t : Table) : Type 0 where
    pub rec : Rec
    pub left : List ℕ
    pub read : read_rec (layout longest) st 0 (drop at d) ≡ good rec left
    pub valid : Valid (layout longest) st rec
    pub tells : Tells t (next (layout longest) rec st)
    pub here : i.at ≡ at
    pub ends : i.next ≡ at + size rec
    pub on : at < i.next
    pub inside : i.next ≤ length d
    pub timed : i.time ≡ time_of (layout longest) rec
    pub type : i.ty ≡ rec.type
    pub sub : i.subtype ≡ rec.sub
    pub long : i.length ≡ length (spell rec.body)
    pub octets : take (size rec) (drop at d) ≡ write rec
    pub walk : walk_from (layout longest) st at (drop at d) ≡ before rec (walk_from (layout longest) (next (layout longest) rec st) i.next (drop i.next d))

  abbrev pub Goes : Step → Type 0
  Goes End = AtEnd
  Goes (Err why) = AtFault why.number why.place
  Goes (Record i t) = Past i t

-- ---- the law

module _ (longest : ℕ) (d : List ℕ) (oc : Octets d) (at : ℕ) (bound : at ≤ length d) (t : Table) (st : St) (tells : Tells t st) where
  abbrev s : List ℕ
  s = drop at d

  ended : at ≡ length d → Goes longest d at st (step_of t at (read_one longest t s))
  ended e =
      let z : read_one longest t s ≡ Nothing = rw (e, drop-length) (no_octets longest t) in
      rw z (record { here = e; walk = rw e (walk_end (layout longest) st d) })

  module _ (more : at < length d) where
    -- the same is read at 0 and at `at`, but for the place
    moves : (o : Out Rec) → read_rec (layout longest) st 0 s ≡ o → read_rec (layout longest) st at s ≡ moved at o
    moves o e = rw (← e) (rw add-zero at (moved_record (layout longest) (inside longest) st at 0 s))

    faulty : (n p : ℕ) → read_rec (layout longest) st 0 s ≡ bad n p → Right (Valid (layout longest) st) write s (bad n p) → AtFault longest d at st n (at + p)
    faulty n p e r = record { off = p; read = e; here = refl; number = r; walk = walk_bad (layout longest) st at d n (at + p) oc more (moves (bad n p) e) }

    -- a record with this header, and this table told behind it
    past : (r : Rec) (q : List ℕ) → read_rec (layout longest) st 0 s ≡ good r q → Right (Valid (layout longest) st) write s (good r q) → (h : Header) → h ≡ head_of longest r → (u : Table)
        → Tells u (next (layout longest) r st) → Goes longest d at st (stepped at h u)
    unfolding time_of
    past r q a w h e u after =
        let g : read_rec (layout longest) st at s ≡ good r q = moves (good r q) a in
        let k : at + size r ≤ length d = good_fits (layout longest) st at d r q oc bound g in
        rw e (record {
          rec = r;
          left = q;
          read = a;
          valid = w.0;
          tells = after;
          here = refl;
          ends = refl;
          on = omega arith;
          inside = k;
          timed = refl;
          type = refl;
          sub = refl;
          long = refl;
          octets = rw (← w.1) (take_at (write r) q (size r) (length-write r));
          walk = walk_good (layout longest) st at d r q oc more g;
        })

    shown : (r : Rec) (q : List ℕ) → read_rec (layout longest) st 0 s ≡ good r q → Right (Valid (layout longest) st) write s (good r q) → (x : Shown) → Same longest s r x
        → Goes longest d at st (step_of t at x)
    shown r q a w Nothing m = absurd (omega (arith, m.ends))
    shown r q a w (Err why) m = absurd (not_refused longest st s r why.number why.place w.0 m)
    shown r q a w (Good h b) m = past r q a w h m.headed (table_behind t b) (tells_behind longest s r h b t st m tells)

    found : (o : Out Rec) → read_rec (layout longest) st 0 s ≡ o → Right (Valid (layout longest) st) write s o → (x : Shown) → Agrees longest s o x → Goes longest d at st (step_of t at x)
    found (bad n p) a w x e = rw e (faulty n p a w)
    found (good r q) a w x m = shown r q a w x m

    goes_on : Goes longest d at st (step_of t at (read_one longest t s))
    goes_on =
        let os : Octets s = octets-drop at d oc in
        let l : 0 < length s = rw length-drop (omega arith) in
        found (read_rec (layout longest) st 0 s) refl (sound_rec (layout longest) st 0 s os) (read_one longest t s) (one_record longest t st tells s os l)

  pub goes : Goes longest d at st (step_at longest t d at)
  unfolding step_at
  goes = ⊎_elim ended goes_on (eq-or-lt_of_le bound)

  -- where the step's answer is known
  pub goes_to : (o : Step) → step_at longest t d at ≡ o → Goes longest d at st o
  goes_to o e = subst (Goes longest d at st) e goes

-- what is shown of a record that a step found is that record
pub shown_past : (longest : ℕ) (d : List ℕ) → Octets d → (at : ℕ) → at < length d → (t : Table) (st : St) → Tells t st → (i : Item) (u : Table) (g : Past longest d at st i u)
    → Same longest (drop at d) g.rec (read_one longest t (drop at d))
shown_past longest d oc at more t st tells i u g =
    rw g.read at (one_record longest t st tells (drop at d) (octets-drop at d oc) (rw length-drop (omega arith)))

-- a step goes on, and stays inside the dump, whatever table is told
pub step_on : (longest : ℕ) (d : List ℕ) → Octets d → (at : ℕ) → at ≤ length d → (t : Table) (i : Item) (u : Table) → step_at longest t d at ≡ Record i u
    → (at < i.next) × (i.next ≤ length d)
step_on longest d oc at h t i u e = let g = goes_to longest d oc at h t (state_of t) (tells-table t) (Record i u) e in (g.on, g.inside)

-- and a fault's place is in the dump, from where its record starts on
pub fault_in : (longest : ℕ) (d : List ℕ) → Octets d → (at : ℕ) → at < length d → (t : Table) (n p : ℕ) → step_at longest t d at ≡ refused n p → (at ≤ p) × (p ≤ length d)
fault_in longest d oc at h t n p e =
    let g = goes_to longest d oc at (omega arith) t (state_of t) (tells-table t) (refused n p) e in
    let s : List ℕ = drop at d in
    let i : g.off ≤ length d - at = rw length-drop at (place_in longest (state_of t) s n g.off (faulty_record longest (state_of t) s (octets-drop at d oc) (rw length-drop (omega arith)) n g.off g.read)).0 in
    (omega (arith, g.here), omega (arith, g.here))
