-- Where a record is found, it is all there, and it has the octets that its Length says.
use mathlib.Core.Path.{◌≡◌, refl, sym, ap, ◌∙◌}
use mathlib.Core.List.{List, [], ◌∷◌}
use Prim.Native.Nat.{ℕ, ◌+◌, ◌≤◌, ◌<◌}
use native.Mathlib.Omega.{arith}
use lib.ListN.{length}
use Rattle.record_spec.specs.Table.{Table}
use Rattle.record_spec.specs.Shown.{Shown, Nothing, Good}
use Rattle.record_spec.specs.One.{read_one}
use Rattle.record_spec.specs.Answer.{fault, place}
use Rattle.record_laws.proofs.Accepts.{no_octets}
use Rattle.walk_spec.specs.Steps.{step_of}
use Rattle.walk_spec.specs.declared.Item.{Item}
use Rattle.walk_spec.specs.Step as step
use Rattle.look_laws.proofs.There.{end_shown}
use Rattle.feed_spec.specs.Feed.{size_of}
use Rattle.std.specs.Prelude.{Err}

-- the step from `at` over s finds this record
pub record Sized (at : ℕ) (s : List ℕ) (i : Item) : Type 0 where
  pub size : 12 + i.length ≡ size_of s
  pub there : size_of s ≤ length s
  pub next : i.next ≡ at + (12 + i.length)

module _ (longest : ℕ) (t : Table) (at : ℕ) (i : Item) (u : Table) where
  -- nothing is found in no octets
  some : (s : List ℕ) → step_of t at (read_one longest t s) ≡ step.Record i u → 0 < length s
  some [] e = let f = sym (ap (step_of t at) (no_octets longest t)) ∙ e in let z : ◌≡◌ {A = ℕ} 0 1 = cc in absurd (omega arith)
  some (x ∷ s) e = omega arith

  -- the record of a step over one
  abbrev item_in : step.Step → Item
  item_in (step.Record j v) = j
  item_in step.End = i
  item_in (Err why) = i

  sized : (s : List ℕ) → 0 < length s → (x : Shown) → read_one longest t s ≡ x → step_of t at x ≡ step.Record i u → Sized at s i
  sized s h Nothing r e = let z : ◌≡◌ {A = ℕ} 0 1 = cc in absurd (omega arith)
  sized s h (Err why) r e = let z : ◌≡◌ {A = ℕ} 0 1 = cc in absurd (omega arith)
  sized s h (Good a b) r e =
      let g = end_shown (record { longest = longest; table = t }) s 0 (h, ap fault r) in
      let same = ap item_in e in
      let l : a.length ≡ i.length = ap (λ (j : Item). j.length) same in
      let p : place (read_one longest t s) ≡ 12 + a.length = ap place r in
      record { size = omega (arith, g.is); there = g.inside; next = sym (ap (λ (j : Item). j.next) same) ∙ ap (λ (n : ℕ). at + (12 + n)) l }

  pub record_sized : (s : List ℕ) → step_of t at (read_one longest t s) ≡ step.Record i u → Sized at s i
  record_sized s e = sized s (some s e) (read_one longest t s) refl e
