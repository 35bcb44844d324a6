-- Ways through the definition of reading one record.
use mathlib.Core.Path.{◌≡◌, refl, ap, ◌∙◌}
use mathlib.Core.List.{List}
use Prim.Native.Nat.{ℕ, ◌+◌, ◌≤◌, ◌<◌}
use native.Mathlib.Omega.{arith}
use native.Mathlib.Nat.{lt_of_lt_of_le, pow-le-pow_right}
use mathlib.Core.Bool.{Bool, true, false}
use lib.Dec.{ltb, lit<}
use lib.ListN.{length, take, drop, get_or, length-take}
use Rattle.form_spec.specs.Octets.{be}
use Rattle.form_spec.specs.Words.{choose}
use Rattle.form_laws.proofs.Octets.{octets_of_lem, octets-take, octets-drop, be-lt}
use Rattle.octets_spec.specs.Be.{num_at}
use Rattle.octets_spec.specs.Field.{Num, field_at}
use Rattle.record_spec.specs.Shown.{Shown}
use Rattle.record_spec.specs.declared.Header.{Header}
use Rattle.record_spec.specs.One.{header, behind}
use Rattle.record.specs.Stamp.{stamp_of}
use Rattle.record.specs.Small.{Small}
use Rattle.std.specs.Prelude.{Result, Ok, Err}
use Rattle.form_spec.specs.declared.Fault.{Fault}
use Rattle.form_spec.specs.Refusal.{refused}

-- the header h was read with its microseconds, and k says what stands behind them at a place
module _ (m : List ℕ) (k : Header → ℕ → Shown) where
  abbrev pub onward : Result (Header × ℕ) Fault → Shown
  onward (Ok r) = k r.0 r.1
  onward (Err why) = Err why

  onward_is : (n : Result (ℕ × ℕ) Fault) → onward (stamp_of m n) ≡ behind n (λ u at. k (header m u) at)
  unfolding behind
  onward_is (Num u at) = refl
  onward_is (Err why) = refl

  pub stamped : (n : Result (ℕ × ℕ) Fault) {x : Result (Header × ℕ) Fault} → x ≡ stamp_of m n → onward x ≡ behind n (λ u at. k (header m u) at)
  stamped n e = ap onward e ∙ onward_is n

-- a field of at most 4 octets is below 2 ^ 32
pub small_field : (m : List ℕ) (at w : ℕ) (r : Result (ℕ × ℕ) Fault) → ((k : ℕ) → get_or m k 0 < 256) → w ≤ 4 → r ≡ field_at m at w → Small r
unfolding field_at num_at choose
small_field m at w r o h e = rw e (go (ltb (length m) (at + w)))
  where
    c : List ℕ
    c = take w (drop at m)

    go : (b : Bool) → Small (choose b (refused 5 at) (Num (be c) (at + w)))
    go true = tt
    go false =
        let l : length c ≤ 4 = simp length-take (omega arith) in
        lt_of_lt_of_le (be-lt c (octets-take w (drop at m) (octets-drop at m (octets_of_lem m o)))) (pow-le-pow_right {n = 256} (lit< tt) {i = length c} {j = 4} l)
