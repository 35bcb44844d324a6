-- Laws of one entry and one peer as they are laid.
use mathlib.Core.Path.{◌≡◌, sym, ap, ◌∙◌}
use mathlib.Core.List.{List, [], ◌∷◌, ◌++◌}
use Prim.Native.Nat.{ℕ, ◌+◌, ◌≤◌}
use native.Mathlib.Omega.{arith}
use lib.ListN.{length, take, drop}
use Rattle.form_spec.specs.Octets.{to_be, Octets}
use Rattle.form_spec.specs.Fmt.{Fits, join}
use Rattle.form_spec.specs.Found.{Lies, item}
use Rattle.form_spec.specs.Words.{checked}
use Rattle.form_laws.proofs.Found.{fits_of, item-octets}
use Rattle.form_laws.proofs.Octets.{octets-drop, length-to_be}
use Rattle.cut_spec.specs.Cut.{renumber}
use Rattle.page_spec.specs.Rib.{entry}
use Rattle.octets_spec.specs.Over.{over}
use Rattle.cut_laws.proofs.Laid.{over_within}

-- an entry's octets as they were, and over the first two its new index
pub renumbered : (m : List ℕ) (at n k : ℕ) → Octets m → Lies (entry n) (drop at m) → let it = item (entry n) (drop at m) in
    (out l out' : List ℕ) (put size : ℕ) → size ≡ length (join it) → put + size ≤ length out
    → l ≡ over out put (take size (drop at m)) → out' ≡ over l put (to_be 2 k) → out' ≡ over out put (join (renumber k it))
unfolding entry Fits checked
renumbered m at n k oc h out l out' put size es room a b =
    let o = octets-drop at m oc in
    go (item (entry n) (drop at m)) (fits_of (entry n) (drop at m) o h).0 es (a ∙ ap (over out put) (ap (λ (i : ℕ). take i (drop at m)) es ∙ item-octets (entry n) (drop at m) o h))
  where
    go : (it : List (List ℕ)) → Fits (entry n) it → size ≡ length (join it) → l ≡ over out put (join it) → out' ≡ over out put (join (renumber k it))
    go (c ∷ cs) f e w =
        let lz : length (to_be 2 k) ≡ length c = length-to_be 2 k ∙ sym f.0 in
        let r : put + length (c ++ join cs) ≤ length out = omega arith in
        let z : put + 0 ≡ put = omega arith in
        b ∙ rw w (rw z at (over_within out put [] c (join cs) (to_be 2 k) lz r))
    go [] f e w = elim f [ ]
