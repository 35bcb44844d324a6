-- Values laid one behind another.
use mathlib.Core.Path.{◌≡◌, refl, sym, ap, ◌∙◌}
use mathlib.Core.List.{List, [], ◌∷◌, ◌++◌, append_assoc, append-nil}
use Prim.Native.Nat.{ℕ, ◌+◌, ◌≤◌}
use native.Mathlib.Omega.{arith}
use lib.ListN.{length, length-append}
use Rattle.form_spec.specs.Octets.{to_be}
use Rattle.form_spec.specs.Fmt.{join}
use Rattle.form_spec.specs.Put.{Value, digits, bytes, spelled, lay}
use Rattle.form_laws.proofs.Octets.{length-to_be}
use Rattle.octets_spec.specs.Over.{over}
use Rattle.octets_laws.proofs.Over.{over_none, more}

pub both : (vs us : List Value) → join (lay (vs ++ us)) ≡ join (lay vs) ++ join (lay us)
both [] us = refl
both (v ∷ vs) us = ap (λ (x : List ℕ). spelled v ++ x) (both vs us) ∙ sym (append_assoc (spelled v) (join (lay vs)) (join (lay us)))

-- l is out with the values laid from `at` on, in n octets
pub record Laid (out : List ℕ) (at : ℕ) (vs : List Value) (n : ℕ) (l : List ℕ) : Type 0 where
  pub is : l ≡ over out at (join (lay vs))
  pub long : length (join (lay vs)) ≡ n

pub none : (out : List ℕ) (at : ℕ) → at ≤ length out → Laid out at [] 0 out
none out at h = record { is = sym (over_none out at h); long = refl }

module _ {out : List ℕ} {at : ℕ} {vs : List Value} {n : ℕ} {l k : List ℕ} {i : ℕ} (x : Laid out at vs n l) where
  -- more values behind them
  pub values : (us : List Value) (m : ℕ) → length (join (lay us)) ≡ m → k ≡ over l i (join (lay us)) → i ≡ at + n → at + (n + m) ≤ length out → Laid out at (vs ++ us) (n + m) k
  values us m z e p h =
      let w = x.long in
      let d : k ≡ over out at (join (lay vs) ++ join (lay us)) = more out (join (lay vs)) (join (lay us)) l k at i x.is e (omega arith) (omega arith) in
      record { is = d ∙ ap (over out at) (sym (both vs us)); long = ap length (both vs us) ∙ length-append (join (lay vs)) (join (lay us)) ∙ omega arith }

  pub number : (w v : ℕ) → k ≡ over l i (to_be w v) → i ≡ at + n → at + (n + w) ≤ length out → Laid out at (vs ++ digits w v ∷ []) (n + w) k
  number w v e p h = values (digits w v ∷ []) w (ap length (append-nil (to_be w v)) ∙ length-to_be w v) (e ∙ ap (over l i) (sym (append-nil (to_be w v)))) p h

  pub octets : (c : List ℕ) → k ≡ over l i c → i ≡ at + n → at + (n + length c) ≤ length out → Laid out at (vs ++ bytes c ∷ []) (n + length c) k
  octets c e p h = values (bytes c ∷ []) (length c) (ap length (append-nil c)) (e ∙ ap (over l i) (sym (append-nil c))) p h
