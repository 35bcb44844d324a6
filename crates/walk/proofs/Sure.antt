-- A record that is surely good is stepped over, and a step leads past one record more.
use mathlib.Core.Path.{◌≡◌, ap, ◌∙◌, subst}
use mathlib.Core.List.{List, [], ◌∷◌, ◌++◌}
use Prim.Native.Nat.{ℕ, ◌+◌, ◌-◌, ◌≤◌, ◌<◌}
use native.Mathlib.Omega.{arith}
use lib.ListN.{length, take, drop, length-drop}
use lib.Seq.{drop-drop, length-take-le}
use borrow.Author.Tests.{ne_eqb, le-ltb}
use Rattle.form_spec.specs.Octets.{Octets}
use Rattle.form_spec.specs.Words.{choose}
use Rattle.form_spec.specs.Shape.{St}
use Rattle.form_spec.specs.Record.{Rec, Valid}
use Rattle.page_spec.specs.Layout.{layout}
use Rattle.octets_spec.specs.Be.{num_at}
use Rattle.record_spec.specs.Table.{Table}
use Rattle.record_spec.specs.Answer.{end, time}
use Rattle.record_spec.specs.Agrees.{Same}
use Rattle.record_spec.specs.One.{whole_record, read_one}
use Rattle.walk_spec.specs.Steps.{step_of, step_at}
use Rattle.walk_spec.specs.declared.Item.{Item}
use Rattle.walk_spec.specs.Step.{Record}
use Rattle.walk_laws.proofs.Answers.{before_end}
use Rattle.walk_laws.proofs.Ahead.{Ahead, passes}
use Rattle.look_laws.proofs.There.{taken_octets}
use Rattle.accept_spec.specs.Sure.{Leaves}

-- the step from `at`, where t is told, leads to e and leaves u in force
pub record Stepped (longest : ℕ) (d : List ℕ) (at : ℕ) (t : Table) (e : ℕ) (u : Table) : Type 0 where
  pub item : Item
  pub step : step_at longest t d at ≡ Record item u
  pub next : item.next ≡ e

-- where both are known under other names
pub stepped_as : {longest : ℕ} {d : List ℕ} {at : ℕ} {t : Table} {e f : ℕ} {u v : Table} → f ≡ e → v ≡ u → Stepped longest d at t e u → Stepped longest d at t f v
stepped_as p q s = rw (p, q) s

-- behind the records rs, it leads past one more
pub record Passed (longest : ℕ) (d : List ℕ) (at : ℕ) (t : Table) (e : ℕ) (u : Table) (rs : List Rec) : Type 0 where
  pub more : at < length d
  pub st : St
  pub rec : Rec
  pub valid : Valid (layout longest) st rec
  pub same : Same longest (drop at d) rec (read_one longest t (drop at d))
  pub on : at < e
  pub ahead : Ahead longest d e u (rs ++ (rec ∷ []))

pub passed : {longest : ℕ} {d : List ℕ} {at : ℕ} {t : Table} {e : ℕ} {u : Table} {rs : List Rec} → Octets d → Ahead longest d at t rs → Stepped longest d at t e u → Passed longest d at t e u rs
passed {longest} {d} {at} {t} {e} {u} {rs} oc a s =
    let p = passes longest d oc at t rs a s.item u s.step in
    rw (← s.next) (record { more = before_end longest t at d s.item u s.step; st = a.st; rec = p.rec; valid = p.valid; same = p.same; on = p.on; ahead = p.ahead })

-- s starts with a record that is all there
whole_there : (longest : ℕ) (t : Table) (s : List ℕ) → 12 + num_at s 8 4 ≤ length s → read_one longest t s ≡ whole_record longest t (take (12 + num_at s 8 4) s)
unfolding read_one choose
whole_there longest t s h = rw (ne_eqb (length s) 0 (λ e. omega arith), le-ltb (length s) 12 (omega arith), le-ltb (length s - 12) (num_at s 8 4) (omega arith))

module _ (longest : ℕ) (d : List ℕ) (at e : ℕ) (t u : Table) (ends : e ≡ at + 12 + num_at d (at + 8) 4) (inside : e ≤ length d) where
  abbrev s : List ℕ
  s = drop at d

  length_here : num_at s 8 4 ≡ num_at d (at + 8) 4
  unfolding num_at
  length_here = rw (drop-drop 8 at d)

  room : 12 + num_at s 8 4 ≤ length s
  room = rw length-drop (omega (arith, length_here))

  size : e - at ≡ 12 + num_at s 8 4
  size = omega (arith, length_here)

  -- the part that code lends has its header
  pub lent : 12 ≤ length (take (e - at) s)
  lent = rw (size, length-take-le (12 + num_at s 8 4) s room) (omega arith)

  pub step_on : Leaves (take (e - at) s) t (whole_record longest t (take (e - at) s)) u → Stepped longest d at t e u
  unfolding step_at
  step_on l =
      let m : List ℕ = take (12 + num_at s 8 4) s in
      let z : take (e - at) s ≡ m = ap (λ (n : ℕ). take n s) size in
      let k : Leaves m t (whole_record longest t m) u = subst (λ (y : List ℕ). Leaves y t (whole_record longest t y) u) z l in
      let n : num_at m 8 4 ≡ num_at s 8 4 = taken_octets (12 + num_at s 8 4) s room 8 4 (omega arith) in
      let f : k.head.length ≡ num_at s 8 4 = k.long ∙ n in
      record {
        item = record { at = at; time = time k.head; ty = k.head.ty; subtype = k.head.subtype; length = k.head.length; next = at + end k.head };
        step = ap (step_of t at) (whole_there longest t s room) ∙ k.step at;
        next = omega (arith, length_here);
      }
