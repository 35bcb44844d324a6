-- What a step finds in the octets from its offset on, which the code lends as a part of the dump.
use mathlib.Core.Path.{◌≡◌, refl, sym, ap, ◌∙◌}
use mathlib.Core.List.{List}
use Prim.Native.Nat.{ℕ, ◌+◌, ◌-◌, ◌≤◌}
use native.Mathlib.Omega.{arith}
use lib.ListN.{length, take, drop, length-drop, drop_of_length-le}
use lib.Seq.{take_all}
use Rattle.form_spec.specs.Octets.{Octets}
use Rattle.form_laws.proofs.Octets.{octets-drop}
use Rattle.record_spec.specs.Shown.{Shown, Nothing, Good}
use Rattle.record_spec.specs.Table.{Table}
use Rattle.record_spec.specs.One.{read_one}
use Rattle.record_spec.specs.Answer as shown
use Rattle.record_laws.proofs.Accepts.{no_octets}
use Rattle.record_laws.proofs.Numbers.{reads}
use Rattle.walk_spec.specs.Steps.{step_of, step_at}
use Rattle.walk_spec.specs.Answer.{fault, place, Steps}
use Rattle.walk_spec.specs.Step.{Step, End}
use Rattle.std.specs.Prelude.{Err}

module _ (longest : ℕ) (t : Table) (d : List ℕ) (at : ℕ) where
  pub past_end : length d ≤ at → End ≡ step_at longest t d at
  unfolding step_at
  past_end h = rw (drop_of_length-le d h, no_octets longest t)

  -- o is the step over x, which was shown there
  pub step_over : (x y : Shown) (o : Step) → x ≡ read_one longest t (take (length d - at) (drop at d)) → x ≡ y → o ≡ step_of t at y → o ≡ step_at longest t d at
  unfolding step_at
  step_over x y o r e s =
      let l : take (length d - at) (drop at d) ≡ drop at d = take_all (length d - at) (drop at d) (rw length-drop (omega arith)) in
      let z : y ≡ read_one longest t (drop at d) = sym e ∙ rw l at r in
      s ∙ ap (step_of t at) z

-- a step has the number of what is shown, and its place so much further on
moved : (t : Table) (at : ℕ) (x : Shown) → (fault (step_of t at x) ≡ shown.fault x) × (place at (step_of t at x) ≡ at + shown.place x)
moved t at Nothing = (refl, omega arith)
moved t at (Err why) = (refl, omega arith)
moved t at (Good h b) = (refl, refl)

pub steps : (longest : ℕ) (t : Table) (d : List ℕ) (at : ℕ) → Octets d → Steps longest t d at (step_at longest t d at)
unfolding step_at
steps longest t d at oc =
    let m = moved t at (read_one longest t (drop at d)) in
    let n = reads longest t (drop at d) (octets-drop at d oc) in
    (refl, m.0 ∙ n.1, m.1 ∙ ap (◌+◌ at) n.2)
