-- What 5 and 6 say of the octets at their place.
use mathlib.Core.Path.{◌≡◌, refl, ◌∙◌}
use mathlib.Core.Bool.{Bool, true, false}
use mathlib.Core.Logic.{◌⊎◌, inl, inr}
use mathlib.Core.List.{List, [], ◌∷◌, ◌++◌}
use Prim.Native.Nat.{ℕ, ◌<◌}
use native.Mathlib.Omega.{arith}
use lib.Dec.{eqb}
use lib.ListN.{length}
use borrow.Author.Tests.{eqb-true}
use Rattle.form_spec.specs.Fmt.{Fmt, end, test, field}
use Rattle.form_spec.specs.Words.{choose}
use Rattle.page_spec.specs.Names.{bgp_rest}
use Rattle.place_spec.specs.About.{there_from}
use Rattle.place_spec.specs.Failed.{behind_fields, judged, Fails, Lacks, NoFieldLeft, name_of, latest_of, Failed}

none : (cs : List (List ℕ)) → length cs ≡ 0 → cs ≡ []
none [] e = refl
none (c ∷ cs) e = absurd (omega arith)

-- ---- where no field is complete from the place on

-- a field starts there, and is not complete
five_lacks : (f : Fmt) (r : List ℕ) → Fails f [] r 5 → Lacks f r
unfolding Fails Lacks judged
five_lacks (end b) r h = absurd (omega (arith, h.0))
five_lacks (test m b f) r (inl h) = let z : false ≡ true = h.1 in let x : ◌≡◌ {A = ℕ} 0 1 = cc in absurd (omega arith)
five_lacks (test m b f) r (inr h) = (h.0, five_lacks f r h.1)
five_lacks (field x l b k) r h = h.1

-- the fields end there, and octets are left
six_ends : (f : Fmt) (r : List ℕ) → Fails f [] r 6 → NoFieldLeft f × (0 < length r)
unfolding Fails NoFieldLeft judged
six_ends (end b) r h = (tt, h.1)
six_ends (test m b f) r (inl h) = let z : false ≡ true = h.1 in let x : ◌≡◌ {A = ℕ} 0 1 = cc in absurd (omega arith)
six_ends (test m b f) r (inr h) = let e = six_ends f r h.1 in ((h.0, e.0), e.1)
six_ends (field x l b k) r h = absurd (omega (arith, h.0))

-- ---- the laws

module _ (p : ℕ) (f : Fmt) (m : List ℕ) (a : ℕ) where
  -- 5: a field starts there, and the octets end before it is complete; or the rest of a BGP message is not complete, and the place is 2 fields back
  pub incomplete : (h : Failed p f m 5 a) → ((h.there ≡ []) × Lacks (behind_fields f h.before) h.rest)
      ⊎ ((name_of (behind_fields f (h.before ++ h.there)) ≡ bgp_rest) × (length h.there ≡ 2))
  unfolding there_from choose
  incomplete h = go (eqb next bgp_rest) refl
    where
      next : ℕ
      next = name_of (behind_fields f (h.before ++ h.there))

      go : (b : Bool) → eqb next bgp_rest ≡ b → ((h.there ≡ []) × Lacks (behind_fields f h.before) h.rest) ⊎ ((next ≡ bgp_rest) × (length h.there ≡ 2))
      go true e = inr (eqb-true next bgp_rest e, h.counts ∙ rw e refl)
      go false e = let z : h.there ≡ [] = none h.there (h.counts ∙ rw e refl) in inl (z, five_lacks _ h.rest (rw z at h.fails))

  -- 6: the fields end there, and octets are left; or they are left behind a BGP message, and the place is 3 fields back
  pub left_over : (h : Failed p f m 6 a) → ((h.there ≡ []) × NoFieldLeft (behind_fields f h.before) × (0 < length h.rest))
      ⊎ ((latest_of p f (h.before ++ h.there) ≡ bgp_rest) × (length h.there ≡ 3))
  unfolding there_from choose
  left_over h = go (eqb latest bgp_rest) refl
    where
      latest : ℕ
      latest = latest_of p f (h.before ++ h.there)

      go : (b : Bool) → eqb latest bgp_rest ≡ b → ((h.there ≡ []) × NoFieldLeft (behind_fields f h.before) × (0 < length h.rest)) ⊎ ((latest ≡ bgp_rest) × (length h.there ≡ 3))
      go true e = inr (eqb-true latest bgp_rest e, h.counts ∙ rw e refl)
      go false e =
          let z : h.there ≡ [] = none h.there (h.counts ∙ rw e refl) in
          let s = six_ends _ h.rest (rw z at h.fails) in
          inl (z, s.0, s.1)
