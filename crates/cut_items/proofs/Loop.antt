-- The loops over the items of a record, for any format and any way to pick what stays.
use mathlib.Core.Path.{◌≡◌, refl, sym, ap, ◌∙◌}
use mathlib.Core.Bool.{Bool, true, false, cond}
use mathlib.Core.List.{List, [], ◌∷◌, ◌++◌}
use Prim.Native.Nat.{ℕ, suc, ◌+◌, ◌-◌, ◌≤◌, ◌<◌}
use native.Mathlib.Omega.{arith}
use lib.ListN.{length, drop, get_or, length-append}
use lib.Dec.{leb}
use Rattle.form_spec.specs.Octets.{Octets}
use Rattle.form_spec.specs.Fmt.{Fmt, Fits, join}
use Rattle.form_spec.specs.Body.{joins}
use Rattle.form_laws.proofs.Octets.{octets-drop}
use Rattle.cut_spec.specs.Keep.{cons_unless}
use Rattle.cut_spec.specs.Cut.{renumber}
use Rattle.form_spec.specs.Shape.{index_of}
use Rattle.cut_laws.proofs.Cut.{renumber-length}
use Rattle.page_spec.specs.Rib.{entry_rest, entry}
use Rattle.form_spec.specs.Found.{Lie, items, item}
use Rattle.cut_spec.specs.Moved.{moved, sieved}
use Rattle.cut_spec.specs.Laid.{laid, Room, Roomy}
use Rattle.form_laws.proofs.Found.{Here, left_n, here_of, tail, Next, next, none_left}
use Rattle.cut_laws.proofs.Laid.{laid_nothing, laid_behind_some, length-laid}

-- what stays of items, the first of which is the i-th: each goes, or stays as another with as many octets
pub record Sieve (f : Fmt) (stay : ℕ → List (List (List ℕ)) → List (List (List ℕ))) (gone : ℕ → List (List ℕ) → Bool) (new : List (List ℕ) → List (List ℕ)) : Type 0 where
  pub none : (i : ℕ) → stay i [] ≡ []
  pub each : (i : ℕ) (it : List (List ℕ)) (its : List (List (List ℕ))) → stay i (it ∷ its) ≡ cons_unless (gone i it) (new it) (stay (i + 1) its)
  pub same : (it : List (List ℕ)) → Fits f it → length (join (new it)) ≡ length (join it)

pub moves : (n : ℕ) (new_indexes : List ℕ) → Sieve (entry n) (λ i. moved new_indexes) (λ i it. leb 65535 (get_or new_indexes (index_of it) 0)) (λ it. renumber (get_or new_indexes (index_of it) 0) it)
unfolding entry
moves n new_indexes = record { none = λ i. refl; each = λ i it its. refl; same = λ it h. renumber-length n (get_or new_indexes (index_of it) 0) entry_rest it h }

pub keeps : (f : Fmt) (new_indexes : List ℕ) → Sieve f (sieved new_indexes) (λ i it. leb 65535 (get_or new_indexes i 0)) (λ it. it)
keeps f new_indexes = record { none = λ i. refl; each = λ i it its. refl; same = λ it h. refl }

-- ---- one item more

count_one : (t : Bool) (x : List (List ℕ)) (xs : List (List (List ℕ))) → length (cons_unless t x xs) ≡ cond t 0 1 + length xs
count_one true x xs = omega arith
count_one false x xs = omega arith

joins_one : (t : Bool) (x : List (List ℕ)) (xs : List (List (List ℕ))) → joins (cons_unless t x xs) ≡ cond t [] (join x) ++ joins xs
joins_one true x xs = refl
joins_one false x xs = refl

length_one : (t : Bool) (x : List ℕ) (n : ℕ) → length x ≡ n → length (cond t [] x) ≡ cond t 0 n
length_one true x n e = refl
length_one false x n e = e

one_le : (t : Bool) (n : ℕ) → cond t 0 n ≤ n
one_le true n = omega arith
one_le false n = omega arith

-- octets are those of an item
some_item : (xs : List (List (List ℕ))) → 0 < length (joins xs) → 0 < length xs
some_item [] h = absurd (omega (arith, h))
some_item (x ∷ xs) h = omega arith

module _ {f : Fmt} {stay : ℕ → List (List (List ℕ)) → List (List (List ℕ))} {gone : ℕ → List (List ℕ) → Bool} {new : List (List ℕ) → List (List ℕ)} (v : Sieve f stay gone new) where
  -- the first of the items left: what it adds to the count, its octets, and how many they are
  first : (m : List ℕ) (at i k : ℕ) (its : List (List (List ℕ))) (rest : List ℕ) → Next f m at k its rest
      → let it = item f (drop at m) in
      (length (stay i its) ≡ cond (gone i it) 0 1 + length (stay (i + 1) (tail its)))
      × (joins (stay i its) ≡ cond (gone i it) [] (join (new it)) ++ joins (stay (i + 1) (tail its)))
      × (length (cond (gone i it) [] (join (new it))) ≡ cond (gone i it) 0 (length (join it)))
  first m at i k its rest x =
      let it : List (List ℕ) = item f (drop at m) in
      let e : stay i its ≡ cons_unless (gone i it) (new it) (stay (i + 1) (tail its)) = ap (stay i) x.split ∙ v.each i it (tail its) in (
        rw e (count_one (gone i it) (new it) (stay (i + 1) (tail its))),
        rw e (joins_one (gone i it) (new it) (stay (i + 1) (tail its))),
        length_one (gone i it) (join (new it)) (length (join it)) (v.same it x.fit),
      )

-- i of count items are passed, and `left` are left: what stays of these, over the buffer as it is, is what stays of all, over the
-- buffer as it was
pub record Laying (f : Fmt) (stay : ℕ → List (List (List ℕ)) → List (List (List ℕ))) (lays : Bool) (m : List ℕ) (all : List (List (List ℕ))) (count : ℕ) (out₀ : List ℕ) (put₀ : ℕ) (out : List ℕ)
    (at i left kept end : ℕ) : Type 0 where
  pub its : List (List (List ℕ))
  pub rest : List ℕ
  pub here : Here f left (drop at m) its rest
  pub long : length out ≡ length out₀
  pub counted : kept + length (stay i its) ≡ length (stay 0 all)
  pub ends : end + length (joins (stay i its)) ≡ put₀ + length (joins (stay 0 all))
  pub holds : laid lays out end (joins (stay i its)) ≡ laid lays out₀ put₀ (joins (stay 0 all))
  pub few : kept + left ≤ count
  pub used : end ≤ at

pub lay-starts : (f : Fmt) (stay : ℕ → List (List (List ℕ)) → List (List (List ℕ))) (lays : Bool) (m : List ℕ) (from count i left : ℕ) (out : List ℕ) (put : ℕ)
    → Octets m → Lie f count (drop from m) → put ≤ from → i ≡ 0 → left ≡ count → Laying f stay lays m (items f count (drop from m)) count out put out from i left 0 put
lay-starts f stay lays m from count i left out put oc h u ei el =
    rw (ei, el)
    (record {
      its = items f count (drop from m);
      rest = left_n f count (drop from m);
      here = here_of f count (drop from m) (octets-drop from m oc) h;
      long = refl;
      counted = omega arith;
      ends = refl;
      holds = refl;
      few = omega arith;
      used = u;
    })

module _ {f : Fmt} {stay : ℕ → List (List (List ℕ)) → List (List (List ℕ))} {gone : ℕ → List (List ℕ) → Bool} {new : List (List ℕ) → List (List ℕ)} (v : Sieve f stay gone new)
    {lays : Bool} {m : List ℕ} {all : List (List (List ℕ))} {count : ℕ} {out₀ : List ℕ} {put₀ : ℕ} {out : List ℕ} {at i left kept end : ℕ}
    (r : Laying f stay lays m all count out₀ put₀ out at i left kept end) where
  -- the item at `at`, and those behind it
  pub ahead : 0 < left → Next f m at left r.its r.rest
  ahead p = next f m at left r.its r.rest r.here p

  module _ (p : 0 < left) (roomy : Roomy lays out₀ put₀ (stay 0 all)) {size : ℕ} (es : size ≡ length (join (item f (drop at m)))) where
    -- the next item has room, if it stays
    pub lay-room : gone i (item f (drop at m)) ≡ false → Room lays out end size
    lay-room z l =
        let o = first v m at i left r.its r.rest (ahead p) in
        let c1 : length (stay i r.its) ≡ 1 + length (stay (i + 1) (tail r.its)) = rw z at o.0 in
        let c2 : length (joins (stay i r.its)) ≡ length (join (item f (drop at m))) + length (joins (stay (i + 1) (tail r.its))) = rw (o.1, length-append, o.2, z) in
        let b = roomy l (omega (arith, r.counted)) in
        omega (arith, r.ends, r.long, c2, es, b)

    -- it is passed
    module _ {out' : List ℕ} {at' left' kept' end' : ℕ} (ea : at' ≡ at + size) (el : left' ≡ left - 1) where
      lay_turn : let t = gone i (item f (drop at m)) in
          kept' ≡ kept + cond t 0 1 → end' ≡ end + cond t 0 size → out' ≡ laid lays out end (cond t [] (join (new (item f (drop at m)))))
          → Laying f stay lays m all count out₀ put₀ out' at' (i + 1) left' kept' end'
      lay_turn ek ee eo =
          let x = ahead p in
          let it : List (List ℕ) = item f (drop at m) in
          let w : List ℕ = cond (gone i it) [] (join (new it)) in
          let y : List ℕ = joins (stay (i + 1) (tail r.its)) in
          let o = first v m at i left r.its r.rest x in
          let l : length (joins (stay i r.its)) ≡ cond (gone i it) 0 (length (join it)) + length y = rw (o.1, length-append, o.2) in
          let lw : length w ≡ cond (gone i it) 0 (length (join it)) = o.2 in
          let roomw : lays ≡ true → 0 < length (w ++ y) → end + length (w ++ y) ≤ length out =
          λ q h. let b : 0 < length (stay i r.its) = some_item (stay i r.its) (rw o.1 h) in
          let k = roomy q (omega (arith, r.counted)) in
          let n : length (w ++ y) ≡ length (joins (stay i r.its)) = rw o.1 in
          omega (arith, n, r.ends, r.long, k) in
          rw (ek, ee, ea, el, eo, es, ← lw)
          (record {
            its = tail r.its;
            rest = r.rest;
            here = x.on;
            long = length_some w y roomw ∙ r.long;
            counted = omega (arith, r.counted, o.0);
            ends = omega (arith, r.ends, l, lw);
            holds = laid_behind_some lays out end w y roomw ∙ ap (laid lays out end) (sym o.1) ∙ r.holds;
            few = omega (arith, r.few, one_le (gone i it) 1);
            used = omega (arith, r.used, lw, one_le (gone i it) (length (join it)));
          })
        where
          length_some : (w y : List ℕ) → (lays ≡ true → 0 < length (w ++ y) → end + length (w ++ y) ≤ length out) → length (laid lays out end w) ≡ length out
          length_some [] y h = ap length (laid_nothing lays out end)
          length_some (a ∷ w) y h = length-laid lays out end (a ∷ w) (λ q. let n : length ((a ∷ w) ++ y) ≡ suc (length w) + length y = length-append (a ∷ w) y in omega (arith, h q (omega arith)))

      pub lay_stays : gone i (item f (drop at m)) ≡ false → kept' ≡ kept + 1 → end' ≡ end + size → out' ≡ laid lays out end (join (new (item f (drop at m))))
          → Laying f stay lays m all count out₀ put₀ out' at' (i + 1) left' kept' end'
      lay_stays z ek ee eo = lay_turn (rw z ek) (rw z ee) (rw z eo)

      pub lay_goes : gone i (item f (drop at m)) ≡ true → kept' ≡ kept → end' ≡ end → out' ≡ out → Laying f stay lays m all count out₀ put₀ out' at' (i + 1) left' kept' end'
      lay_goes z ek ee eo = lay_turn (rw z (omega (arith, ek))) (rw z (omega (arith, ee))) (rw z (eo ∙ sym (laid_nothing lays out end)))

  pub lay_done : left ≤ 0 → (kept ≡ length (stay 0 all)) × (end ≡ put₀ + length (joins (stay 0 all))) × (out ≡ laid lays out₀ put₀ (joins (stay 0 all)))
  lay_done p =
      let z : left ≡ 0 = omega arith in
      let e : stay i r.its ≡ [] = ap (stay i) (none_left f (drop at m) r.its r.rest (rw z at r.here)) ∙ v.none i in
      let c1 = rw e at r.counted in
      let c2 = rw e at r.ends in
      let c3 = rw e at r.holds in
      (omega (arith, c1), omega (arith, c2), sym (laid_nothing lays out end) ∙ c3)
