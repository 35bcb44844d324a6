-- Going from item to item, where items of one format stand, shows just them.
use mathlib.Core.Path.{◌≡◌, refl, sym, ap, ap₂, ◌∙◌, subst⁻¹}
use mathlib.Core.List.{List, [], ◌∷◌, ◌++◌, append_assoc}
use Prim.Native.Nat.{ℕ, ◌+◌, ◌-◌, ◌≤◌}
use native.Mathlib.Omega.{arith}
use lib.ListN.{length, drop, length-append, length-drop}
use lib.Seq.{drop-drop, take-append_seam}
use Rattle.form_spec.specs.Fmt.{Fmt, Fits, join}
use Rattle.form_spec.specs.Body.{joins, AllFits}
use Rattle.form_laws.proofs.Found.{Here}
use Rattle.record_spec.specs.Items.{met, met_end, standing, Each, Meets}
use Rattle.record_laws.proofs.Parts.{rest_here}

-- the n items its of a format stand in m, from `at` to `stop`
pub record Stand (m : List ℕ) (f : Fmt) (n at stop : ℕ) (its : List (List (List ℕ))) : Type 0 where
  pub rest : List ℕ
  pub here : Here f n (drop at m) its rest
  pub ends : at + length (joins its) ≡ stop
  pub inside : stop ≤ length m

-- as offsets of the octets behind which m starts
pub stand_behind : (d : List ℕ) (a : ℕ) (f : Fmt) (n at stop : ℕ) (its : List (List (List ℕ))) → a ≤ length d → Stand (drop a d) f n at stop its → Stand d f n (a + at) (a + stop) its
stand_behind d a f n at stop its h s =
    let l : stop ≤ length d - a = rw length-drop at s.inside in
    let e : at + length (joins its) ≡ stop = s.ends in
    record { rest = s.rest; here = rw drop-drop at s.here; ends = omega arith; inside = omega arith }

module _ {A : Type 0} (m : List ℕ) (f : Fmt) (one : ℕ → A) (end : A → ℕ) (of : ℕ → List (List ℕ) → A)
    (shown : (at : ℕ) (c : List (List ℕ)) (rest : List ℕ) → at ≤ length m → Fits f c → join c ++ rest ≡ drop at m → one at ≡ of at c)
    (ends : (at : ℕ) (c : List (List ℕ)) → end (of at c) ≡ at + length (join c)) where
  -- the items, and where they end
  going : (its : List (List (List ℕ))) (rest : List ℕ) (at : ℕ) → at ≤ length m → AllFits f its → joins its ++ rest ≡ drop at m
      → (met one end (length its) at ≡ standing of at its) × (met_end one end (length its) at ≡ at + length (joins its))
  going [] rest at h fit e = (refl, omega arith)
  going (c ∷ its) rest at h fit e =
      let e1 : join c ++ (joins its ++ rest) ≡ drop at m = sym (append_assoc (join c) (joins its) rest) ∙ e in
      let here : one at ≡ of at c = shown at c (joins its ++ rest) h fit.0 e1 in
      let next : end (one at) ≡ at + length (join c) = ap end here ∙ ends at c in
      let l : length (join c) + length (joins its ++ rest) ≡ length m - at = sym (length-append (join c) (joins its ++ rest)) ∙ ap length e1 ∙ length-drop at m in
      let k : length (join c ++ joins its) ≡ length (join c) + length (joins its) = length-append (join c) (joins its) in
      let on = going its rest (at + length (join c)) (omega arith) fit.1 (rest_here m (join c) (joins its ++ rest) at e1) in
      (ap₂ ◌∷◌ here (ap (met one end (length its)) next ∙ on.0), ap (met_end one end (length its)) next ∙ on.1 ∙ omega arith)

  pub meets : (n at stop : ℕ) (its : List (List (List ℕ))) → Stand m f n at stop its → Meets m one end of n at stop its
  meets n at stop its s =
      let e : joins its ++ s.rest ≡ drop at m = s.here.lie in
      let g = going its s.rest at (omega (arith, s.ends, s.inside)) s.here.fits e in
      rw (← s.here.many, ← s.ends) (record { all = g.0; ends = g.1; octets = rw (← e) (take-append_seam (joins its) s.rest) })

-- ---- what holds of every item that is shown by its fields holds of all that are met

module _ {A : Type 0} (of : ℕ → List (List ℕ) → A) (P : A → Type 0) (all : (at : ℕ) (c : List (List ℕ)) → P (of at c)) where
  each_standing : (at : ℕ) (its : List (List (List ℕ))) → Each P (standing of at its)
  each_standing at [] = tt
  each_standing at (c ∷ its) = (all at c, each_standing (at + length (join c)) its)

  pub each_met : (m : List ℕ) (one : ℕ → A) (end : A → ℕ) (n at stop : ℕ) (its : List (List (List ℕ))) → Meets m one end of n at stop its → Each P (met one end n at)
  each_met m one end n at stop its h = subst⁻¹ (Each P) h.all (each_standing at its)
