-- What a step over a record says of what was shown there.
use mathlib.Core.Path.{◌≡◌, refl, sym, ap}
use mathlib.Core.Bool.{Bool, true, false}
use mathlib.Core.List.{List}
use Prim.Native.Nat.{ℕ, ◌+◌, ◌<◌}
use native.Mathlib.Omega.{arith}
use lib.Dec.{ltb}
use lib.ListN.{length}
use borrow.Author.Tests.{ltb-true, ltb-false}
use Rattle.record_spec.specs.Table.{Table}
use Rattle.record_spec.specs.Shown.{Shown, Nothing, Good}
use Rattle.record_spec.specs.Answer.{fault, place}
use Rattle.walk_spec.specs.Steps.{step_of, step_at}
use Rattle.walk_spec.specs.declared.Item.{Item}
use Rattle.walk_spec.specs.Step as step
use Rattle.walk_laws.proofs.Steps.{past_end}
use Rattle.std.specs.Prelude.{Err}

-- where the next record starts, of a step over one
abbrev next_in : step.Step → ℕ
next_in (step.Record i u) = i.next
next_in step.End = 0
next_in (Err why) = 0

module _ (t : Table) (at : ℕ) where
  pub over_record : (i : Item) (u : Table) (x : Shown) → step_of t at x ≡ step.Record i u → (fault x ≡ 0) × (i.next ≡ at + place x)
  over_record i u Nothing e = let z : ◌≡◌ {A = ℕ} 0 1 = cc in absurd (omega arith)
  over_record i u (Err why) e = let z : ◌≡◌ {A = ℕ} 0 1 = cc in absurd (omega arith)
  over_record i u (Good a b) e = (refl, sym (ap next_in e))

-- a step that finds a record stands before the dump's end
pub before_end : (longest : ℕ) (t : Table) (at : ℕ) (d : List ℕ) (i : Item) (u : Table) → step_at longest t d at ≡ step.Record i u → at < length d
before_end longest t at d i u h = go (ltb at (length d)) refl
  where
    go : (b : Bool) → ltb at (length d) ≡ b → at < length d
    go true e = ltb-true at (length d) e
    go false e =
        let p = past_end longest t d at (ltb-false at (length d) e) in
        let z : ◌≡◌ {A = ℕ} 0 1 = cc in
        absurd (omega arith)
