-- The lent table of new indexes, as it is filled, is that of the table in force.
use mathlib.Core.Path.{◌≡◌, ap, ◌∙◌}
use mathlib.Core.Bool.{Bool, cond}
use mathlib.Core.List.{List}
use Prim.Native.Nat.{ℕ, ◌+◌, ◌≤◌, ◌<◌}
use native.Mathlib.Omega.{arith}
use lib.ListN.{length, drop, get_or, get_or-append}
use Rattle.form_spec.specs.Fmt.{Fmt}
use Rattle.form_spec.specs.Body.{AllFits}
use Rattle.form_spec.specs.Shape.{with_peers, indexed}
use Rattle.cut_spec.specs.Keep.{rank}
use Rattle.cut_spec.specs.Cut.{cut_entries}
use Rattle.octets_spec.specs.Over.{over}
use Rattle.octets_laws.proofs.Over.{length_over}
use Rattle.cut_spec.specs.Moved.{new_indexes_from, moved}
use Rattle.cut_spec.specs.One.{Ranked}
use Rattle.cut_laws.proofs.Moved.{new_at, length_new, moved-cut}

first : (xs out : List ℕ) (i : ℕ) → i < length xs → get_or (over out 0 xs) i 0 ≡ get_or xs i 0
unfolding over
first xs out i h = get_or-append xs (drop (0 + length xs) out) 0 i h

pub filled : (g : ℕ → Bool) (ns out : List ℕ) → length ns ≤ 65535 → length ns ≤ length out → Ranked g (over out 0 (new_indexes_from g ns 0)) (with_peers ns)
unfolding Ranked
filled g ns out h k =
    let l = length_new g ns 0 in
    let m : 0 + length (new_indexes_from g ns 0) ≤ length out = omega (arith, l) in
    let z : (i : ℕ) → 0 + rank g ns i ≡ rank g ns i = λ i. omega arith in (
      h,
      rw (length_over out 0 (new_indexes_from g ns 0) m) k,
      λ i p. first (new_indexes_from g ns 0) out i (rw l p) ∙ new_at g ns 0 i p ∙ ap (cond (g (get_or ns i 0)) 65535) (z i),
    )

-- and so the entries that are moved by it are those of the cut
pub ranked-cut : (g : ℕ → Bool) (ns : List ℕ) (f : Fmt) (new_indexes : List ℕ) → Ranked g new_indexes (with_peers ns) → (its : List (List (List ℕ))) → AllFits (indexed (length ns) f) its
    → moved new_indexes its ≡ cut_entries g ns its
unfolding Ranked
ranked-cut g ns f new_indexes r its h = moved-cut g ns f new_indexes r.2 r.0 its h
