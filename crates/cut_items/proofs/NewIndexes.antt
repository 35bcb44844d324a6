-- The loop that fills the new indexes.
use mathlib.Core.Path.{◌≡◌, refl, sym, ◌∙◌}
use mathlib.Core.Bool.{Bool, true, false, cond}
use mathlib.Core.List.{List, [], ◌∷◌, map}
use Prim.Native.Nat.{ℕ, suc, ◌+◌, ◌-◌, ◌≤◌, ◌<◌}
use native.Mathlib.Omega.{arith}
use native.Mathlib.Numerals.{add-one}
use lib.ListN.{length, drop, set, length-set, length-map}
use lib.Seq.{set_split}
use Rattle.form_spec.specs.Octets.{Octets}
use Rattle.form_spec.specs.Fmt.{join}
use Rattle.form_spec.specs.Shape.{as_of}
use Rattle.form_laws.proofs.Octets.{octets-drop}
use Rattle.page_spec.specs.Peers.{peer}
use Rattle.cut_spec.specs.Keep.{cons_unless, kept}
use Rattle.octets_spec.specs.Over.{over}
use Rattle.octets_laws.proofs.Over.{over_over, over_none}
use Rattle.form_spec.specs.Found.{Lie, items, item}
use Rattle.cut_spec.specs.Moved.{new_indexes_from}
use Rattle.form_laws.proofs.Found.{Here, left_n, here_of, tail, next, none_left}
use Rattle.cut_laws.proofs.Moved.{length_new}

set_over : (out : List ℕ) (i v : ℕ) → i < length out → set out i v ≡ over out i (v ∷ [])
unfolding over
set_over out i v h = rw add-one (set_split out i v h)

over_set : (out : List ℕ) (i v : ℕ) (y : List ℕ) → i + suc (length y) ≤ length out → over (set out i v) (i + 1) y ≡ over out i (v ∷ y)
over_set out i v y h =
    let k : i < length out = omega arith in
    let l : i + (1 + length y) ≤ length out = omega arith in
    rw (set_over out i v k) (over_over out i (v ∷ []) y l)

-- ---- i of count peers have their new index, and k of them stay

pub record Filling (m : List ℕ) (g : ℕ → Bool) (all : List (List (List ℕ))) (new_indexes₀ new_indexes : List ℕ) (count at i k : ℕ) : Type 0 where
  pub its : List (List (List ℕ))
  pub rest : List ℕ
  pub here : Here peer (count - i) (drop at m) its rest
  pub within : i ≤ count
  pub few : k ≤ i
  pub long : length new_indexes ≡ length new_indexes₀
  pub counted : k + length (kept g (map (as_of peer) its)) ≡ length (kept g (map (as_of peer) all))
  pub holds : over new_indexes i (new_indexes_from g (map (as_of peer) its) k) ≡ over new_indexes₀ 0 (new_indexes_from g (map (as_of peer) all) 0)

pub fill_starts : (m : List ℕ) (g : ℕ → Bool) (new_indexes : List ℕ) (from count : ℕ) → Octets m → Lie peer count (drop from m)
    → Filling m g (items peer count (drop from m)) new_indexes new_indexes count from 0 0
fill_starts m g new_indexes from count oc h =
    let z : count - 0 ≡ count = omega arith in
    record {
      its = items peer count (drop from m);
      rest = left_n peer count (drop from m);
      here = rw z (here_of peer count (drop from m) (octets-drop from m oc) h);
      within = omega arith;
      few = omega arith;
      long = refl;
      counted = omega arith;
      holds = refl;
    }

new_cons : (g : ℕ → Bool) (n k : ℕ) (ns : List ℕ) → new_indexes_from g (n ∷ ns) k ≡ cond (g n) 65535 k ∷ new_indexes_from g ns (cond (g n) k (k + 1))
unfolding new_indexes_from
new_cons g n k ns = refl

kept_more : (t : Bool) (n k : ℕ) (ns : List ℕ) → cond t k (k + 1) + length ns ≡ k + length (cons_unless t n ns)
kept_more true n k ns = refl
kept_more false n k ns = omega arith

few_more : (t : Bool) (k : ℕ) → cond t k (k + 1) ≤ k + 1
few_more true k = omega arith
few_more false k = omega arith

pub fill_turn : (m : List ℕ) (g : ℕ → Bool) (all : List (List (List ℕ))) (new_indexes₀ new_indexes : List ℕ) (count at i k next' v k' : ℕ) (t : Bool)
    → Filling m g all new_indexes₀ new_indexes count at i k → i < count → count ≤ length new_indexes₀
    → next' ≡ at + length (join (item peer (drop at m))) → t ≡ g (as_of peer (item peer (drop at m))) → v ≡ cond t 65535 k → k' ≡ cond t k (k + 1)
    → Filling m g all new_indexes₀ (set new_indexes i v) count next' (i + 1) k'
fill_turn m g all new_indexes₀ new_indexes count at i k next' v k' t r p q es et ev ek =
    let x = next peer m at (count - i) r.its r.rest r.here (omega arith) in
    let n : ℕ = as_of peer (item peer (drop at m)) in
    let ns : List ℕ = map (as_of peer) (tail r.its) in
    let s : map (as_of peer) r.its ≡ n ∷ ns = rw x.split refl in
    let ys : List ℕ = new_indexes_from g ns (cond (g n) k (k + 1)) in
    let l : length ys ≡ count - i - 1 = length_new g ns (cond (g n) k (k + 1)) ∙ length-map (tail r.its) (as_of peer) ∙ x.on.many in
    let h : i + suc (length ys) ≤ length new_indexes = omega (arith, r.long) in
    let z : count - i - 1 ≡ count - (i + 1) = omega arith in
    rw (ev, ek, es, et)
    (record {
      its = tail r.its;
      rest = r.rest;
      here = rw z at x.on;
      within = omega arith;
      few = omega (arith, r.few, few_more (g n) k);
      long = simp length-set r.long;
      counted = kept_more (g n) n k (kept g ns) ∙ rw s at r.counted;
      holds = over_set new_indexes i (cond (g n) 65535 k) ys h ∙ rw (s, new_cons) at r.holds;
    })

pub fill_done : (m : List ℕ) (g : ℕ → Bool) (all : List (List (List ℕ))) (new_indexes₀ new_indexes : List ℕ) (count at i k : ℕ)
    → Filling m g all new_indexes₀ new_indexes count at i k → count ≤ i → count ≤ length new_indexes₀
    → (k ≡ length (kept g (map (as_of peer) all))) × (new_indexes ≡ over new_indexes₀ 0 (new_indexes_from g (map (as_of peer) all) 0))
unfolding new_indexes_from
fill_done m g all new_indexes₀ new_indexes count at i k r p q =
    let z : count - i ≡ 0 = omega arith in
    let e = none_left peer (drop at m) r.its r.rest (rw z at r.here) in
    let c = rw e at r.holds in
    let n = rw e at r.counted in
    (omega (arith, n), sym (over_none new_indexes i (omega (arith, r.within, r.long))) ∙ c)
