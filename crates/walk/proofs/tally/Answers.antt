-- `walk::tally` meets its contract.
use mathlib.Core.Path.{◌≡◌, refl, sym, ap, ◌∙◌}
use mathlib.Core.Bool.{Bool, true, false, cond}
use mathlib.Core.Logic.{◌⊎◌, inl, inr, ⊎_elim}
use mathlib.Core.List.{List}
use Prim.Native.Nat.{ℕ, ◌≤◌, ◌<◌}
use native.Mathlib.Omega.{arith}
use lib.Dec.{eqb}
use lib.ListN.{length, drop, length-map}
use Rattle.form_spec.specs.Octets.{Octets}
use Rattle.form_laws.proofs.Octets.{octets_of_lem}
use Rattle.record_spec.specs.Table.{Table}
use Rattle.record_spec.specs.Shown.{Shown}
use Rattle.record_spec.specs.One.{read_one}
use Rattle.look_spec.specs.Field.{Told}
use Rattle.walk_spec.specs.Steps.{step_at}
use Rattle.walk_spec.specs.Step.{Step}
use Rattle.walk_laws.proofs.Ahead.{ends, faults}
use Rattle.report_spec.specs.declared.Notice.TheVariants.{Change}
use Rattle.report_spec.specs.Last.{Last, Absent, Was}
use Rattle.report_spec.specs.Own.{following, broken}
use Rattle.report_spec.specs.Notice.{InStates}
use Rattle.report_spec.specs.Tally.{heeded}
use Rattle.report_laws.proofs.Own.{changes_few, breaks_few, cell_few}
use Rattle.report_laws.proofs.Shown.{notice-shown}
use Rattle.walk.proofs.Sure.{Stepped, stepped_as, Passed, passed, lent, step_on}
use Rattle.walk.proofs.Tallying.{starts, stops, on_plain, on_change, on_sequence}
use Rattle.walk.proofs.tally.Goals.{After-notice_at, At-loop-end, Joined-end-eq0, Joined-end-gt0, then-end-gt0+in-Unsure, then-end-gt0+in-Record, then-end-gt0+in-Table, else-end-gt0, then-end-eq0+in-Ok-Some, else-end-eq0, in-Plain, in-Change, in-Sequence}
use Rattle.walk.proofs.tally.Goals as goal
use Rattle.std.specs.Prelude.{Ok}

-- the dump's octets are octets
octets : (c : At-loop-end) → Octets c.args.d.now
octets c =
    octets_of_lem c.args.d.now (λ k. omega (arith, c.shared_slice_known-1.given k))

-- ---- the record that stands there is stepped over

-- what is known where it was judged in few steps: it is not sure, or it was stepped over
abbrev Sured : (longest : ℕ) (d : List ℕ) (at : ℕ) (t : Table) (end : ℕ) (u : Table) → Type 0
Sured longest d at t end u = ((end ≡ 0) × (u ≡ t)) ⊎ ((0 < end) × Stepped longest d at t end u)

sured : (c : Joined-end-gt0) → Sured c.args.longest c.args.d.now c.loop-end.at c.loop-end.table c.if-end-gt0.end c.if-end-gt0.table
sured c =
    let a = c.args in
    elim c.if-end-gt0.branch [
      | then-end-gt0+in-Unsure w ↦ inl (w.end-is, w.table-is)
      | then-end-gt0+in-Record w ↦
          let e = c.end_of-end.ensures w.if-end-gt0.true in
          inr (omega (arith, w.if-end-gt0.true, w.end-is), stepped_as w.end-is w.table-is (step_on a.longest a.d.now c.loop-end.at _ c.loop-end.table _ e.0 e.1 (rw w.in-Record.is at w.accept.ensures)))
      | then-end-gt0+in-Table w ↦
          let e = c.end_of-end.ensures w.if-end-gt0.true in
          inr (omega (arith, w.if-end-gt0.true, w.end-is), stepped_as w.end-is w.table-is (step_on a.longest a.d.now c.loop-end.at _ c.loop-end.table _ e.0 e.1 (rw w.in-Table.is at w.accept.ensures)))
      | else-end-gt0 w ↦ inl (omega (arith, w.if-end-gt0.false, w.end-is), w.table-is)
    ]

-- where the reader is asked, the table is as it was
unsure : (longest : ℕ) (d : List ℕ) (at : ℕ) (t : Table) (end : ℕ) (u : Table) → Sured longest d at t end u → end ≡ 0 → u ≡ t
unsure longest d at t end u s z = ⊎_elim (λ h. h.1) (λ h. absurd (omega (arith, h.0, z))) s

-- and so the step is the reader's
answered : (longest : ℕ) (d : List ℕ) (at : ℕ) (t u : Table) (r : Step) → u ≡ t → r ≡ step_at longest u d at → step_at longest t d at ≡ r
answered longest d at t u r e h = ap (λ (t : Table). step_at longest t d at) (sym e) ∙ sym h

stepped : (c : Joined-end-eq0) → Sured c.args.longest c.args.d.now c.loop-end.at c.loop-end.table c.if-end-gt0.end c.if-end-gt0.table
    → Stepped c.args.longest c.args.d.now c.loop-end.at c.loop-end.table c.if-end-eq0.end c.if-end-eq0.table
stepped c s =
    let a = c.args in
    elim c.if-end-eq0.branch [
      | then-end-eq0+in-Ok-Some w ↦
          let u = unsure _ _ _ _ _ _ s w.if-end-eq0.true in
          stepped_as w.end-is w.table-is (record { item = w.in-Ok-Some.i; step = answered a.longest a.d.now c.loop-end.at _ _ _ u w.step_with.ensures ∙ w.in-Ok-Some.is ∙ ap Ok w.in-Ok-Some.field-0-is; next = refl })
      | else-end-eq0 w ↦ ⊎_elim (λ h. absurd (w.if-end-eq0.false h.0)) (λ h. stepped_as w.end-is w.table-is h.1) s
    ]

-- one record further
passing : (c : Joined-end-eq0) → Sured c.args.longest c.args.d.now c.loop-end.at c.loop-end.table c.if-end-gt0.end c.if-end-gt0.table
    → Passed c.args.longest c.args.d.now c.loop-end.at c.loop-end.table c.if-end-eq0.end c.if-end-eq0.table c.loop-end.invariant.recs
passing c s = passed (octets_of_lem c.args.d.now (λ k. omega (arith, c.shared_slice_known-1.given k))) c.loop-end.invariant.ahead (stepped c s)

-- what the record gives notice of
heeds : (c : After-notice_at) (p : Passed c.args.longest c.args.d.now c.loop-end.at c.loop-end.table c.if-end-eq0.end c.if-end-eq0.table c.loop-end.invariant.recs)
    → c.notice_at.result ≡ heeded c.args.heed c.args.longest p.rec
heeds c p =
    let a = c.args in
    let told : Told = record { longest = a.longest; table = c.loop-end.table } in
    let x : Shown = read_one a.longest c.loop-end.table (drop c.loop-end.at a.d.now) in
    rw (notice-shown a.longest (drop c.loop-end.at a.d.now) p.st p.rec x p.valid p.same) (c.notice_at.ensures.1 told (p.more, p.same.accepted))

-- no number is above the number of records, which is none above the offset
few : (c : At-loop-end) → let l = c.loop-end in (l.records ≤ l.at) × (l.at ≤ length c.args.d.now) × (l.changes ≤ l.records) × (l.breaks ≤ l.records)
few c =
    let i = c.loop-end.invariant in
    let n = i.notices in
    let r : c.loop-end.records ≡ length n = i.numbered in
    let m : length n ≡ length i.recs = ap length i.noticed ∙ length-map i.recs _ in
    (omega (arith, m, i.ahead.few), i.ahead.bound, omega (arith, i.changes, changes_few n), omega (arith, i.breaks, breaks_few Absent n))

-- a break is one or none
one : (l : Last) (s : ℕ) → broken l s ≤ 1
one Absent s = omega arith
one (Was p) s = go (eqb (following p) s)
  where
    go : (b : Bool) → cond b 0 1 ≤ 1
    go true = omega arith
    go false = omega arith

pub loop-end-init : goal.loop-end-init
loop-end-init c = starts _ _ _

pub end_of-end-requires : goal.end_of-end-requires
end_of-end-requires c = c.loop-end.invariant.ahead.bound

pub slice_bounds-accept-count : goal.slice_bounds-accept-count
slice_bounds-accept-count c = let e = c.end_of-end.ensures (omega arith) in omega (arith, e.0)

pub slice_bounds-accept-start : goal.slice_bounds-accept-start
slice_bounds-accept-start c = let e = c.end_of-end.ensures (omega arith) in omega (arith, e.0)

pub slice_bounds-accept-end : goal.slice_bounds-accept-end
slice_bounds-accept-end c = let e = c.end_of-end.ensures (omega arith) in omega (arith, e.0, e.1)

pub accept-requires : goal.accept-requires
accept-requires c =
    let a = c.args in
    let e = c.end_of-end.ensures (omega arith) in
    lent a.longest a.d.now c.loop-end.at _ c.loop-end.table c.loop-end.table e.0 e.1

pub returns-in-Ok-None : goal.returns-in-Ok-None
returns-in-Ok-None c =
    let a = c.args in
    let i = c.loop-end.invariant in
    let w = ends a.longest a.d.now (octets (goal.at.returns-in-Ok-None c).At-loop-end) c.loop-end.at c.loop-end.table i.recs i.ahead (answered a.longest a.d.now c.loop-end.at _ _ _ (unsure _ _ _ _ _ _ (sured (goal.at.returns-in-Ok-None c).Joined-end-gt0) c.if-end-eq0.true) c.step_with.ensures ∙ c.in-Ok-None.is ∙ ap Ok c.in-Ok-None.field-0-is) in
    let t = c.tallied.ensures in
    stops a.heed a.longest a.d.now _ _ _ _ _ _ _ i 0 _ _ w t.0 t.1 t.2 t.3

pub returns-in-Err : goal.returns-in-Err
returns-in-Err c =
    let a = c.args in
    let i = c.loop-end.invariant in
    let w = faults a.longest a.d.now (octets (goal.at.returns-in-Err c).At-loop-end) c.loop-end.at c.loop-end.table i.recs i.ahead _ _ (answered a.longest a.d.now c.loop-end.at _ _ _ (unsure _ _ _ _ _ _ (sured (goal.at.returns-in-Err c).Joined-end-gt0) c.if-end-eq0.true) c.step_with.ensures ∙ c.in-Err.is) in
    let t = c.tallied-in-Err.ensures in
    stops a.heed a.longest a.d.now _ _ _ _ _ _ _ i _ _ _ w t.0 t.1 t.2 t.3

pub notice_at-requires : goal.notice_at-requires
notice_at-requires c =
    let b = goal.at.notice_at-requires c in
    let p = passing b.Joined-end-eq0 (sured b.Joined-end-gt0) in
    (record { longest = c.args.longest; table = c.loop-end.table }, (p.more, p.same.accepted))

pub overflow_add-changes : goal.overflow_add-changes
overflow_add-changes c = let f = few (goal.at.overflow_add-changes c).At-loop-end in omega arith

pub bumped-more-requires : goal.bumped-more-requires
bumped-more-requires c =
    let i = c.loop-end.invariant in
    let f = few (goal.at.bumped-more-requires c).At-loop-end in
    let h : InStates (Change _ _) = rw c.in-Change.is at c.notice_at.ensures.0 in
    (h, rw i.cells (omega (arith, cell_few i.notices _ _ h, i.numbered)))

pub overflow_add-breaks : goal.overflow_add-breaks
overflow_add-breaks c = let f = few (goal.at.overflow_add-breaks c).At-loop-end in let o = one c.loop-end.last c.in-Sequence.s in omega (arith, c.broken-breaks.ensures)

pub overflow_add-records : goal.overflow_add-records
overflow_add-records c = let f = few (goal.at.overflow_add-records c).At-loop-end in omega arith

pub loop-end-smaller : goal.loop-end-smaller
loop-end-smaller c =
    let b = goal.at.loop-end-smaller c in
    let p = passing b.Joined-end-eq0 (sured b.Joined-end-gt0) in
    omega (arith, p.on, p.ahead.bound)

pub loop-end-preserved : goal.loop-end-preserved
loop-end-preserved c =
    let a = c.args in
    let b = goal.at.loop-end-preserved c in
    let p = passing b.Joined-end-eq0 (sured b.Joined-end-gt0) in
    let h = heeds b.After-notice_at p in
    let i = c.loop-end.invariant in
    elim c.match-notice_at.branch [
      | in-Plain w ↦ rw (w.changes-is, w.breaks-is, w.last-is, w.cells-is) (on_plain a.heed a.longest a.d.now _ _ _ _ _ _ _ i _ _ p.rec p.ahead (sym w.in-Plain.is ∙ h))
      | in-Change w ↦ rw (w.changes-is, w.breaks-is, w.last-is, w.cells-is, w.bumped-more.ensures) (on_change a.heed a.longest a.d.now _ _ _ _ _ _ _ i _ _ p.rec p.ahead _ _ (sym w.in-Change.is ∙ h) (rw w.in-Change.is at c.notice_at.ensures.0))
      | in-Sequence w ↦ rw (w.changes-is, w.breaks-is, w.last-is, w.cells-is, w.broken-breaks.ensures) (on_sequence a.heed a.longest a.d.now _ _ _ _ _ _ _ i _ _ p.rec p.ahead _ (sym w.in-Sequence.is ∙ h))
    ]
