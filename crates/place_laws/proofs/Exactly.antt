-- A format's octets have one fault at most, at one place.
use mathlib.Core.Path.{◌≡◌, refl, sym, ap, ◌∙◌, subst}
use mathlib.Core.Bool.{true}
use mathlib.Core.Logic.{inl, inr}
use mathlib.Core.List.{List, [], ◌∷◌, ◌++◌, append_assoc}
use Prim.Native.Nat.{ℕ, zero, suc, ◌+◌, ◌-◌, ◌≤◌, ◌<◌}
use native.Mathlib.Omega.{arith}
use lib.ListN.{length, take, drop, length-append}
use lib.Seq.{take_at, drop_at}
use borrow.Author.Tests.{lt-ltb, le-ltb}
use Rattle.form_spec.specs.Fmt.{bad, Fmt, end, test, field, join}
use Rattle.place_spec.specs.Failed.{behind_fields, FieldsPass, judged, Fails, Failed}
use Rattle.place_laws.proofs.Finish.{finish}

-- no test gives 0
not_judged : judged 0 ≡ true → ⊥
unfolding judged
not_judged e = let z : ◌≡◌ {A = ℕ} 0 1 = cc in omega arith

-- fields that pass, and then fields that fail, are fields that fail
fails_from : (f : Fmt) (bs cs : List (List ℕ)) (r : List ℕ) (n : ℕ) → FieldsPass f bs → Fails (behind_fields f bs) cs r n → Fails f (bs ++ cs) r n
unfolding FieldsPass behind_fields Fails
fails_from (end b) [] cs r n p h = h
fails_from (test m b f) [] cs r n p h = h
fails_from (test m b f) (c ∷ bs) cs r n p h = (p.0, fails_from f (c ∷ bs) cs r n p.1 h)
fails_from (field x l b k) [] cs r n p h = h
fails_from (field x l b k) (c ∷ bs) cs r n p h = (p.0, fails_from (k c) bs cs r n p.1 h)
fails_from (end b) (c ∷ bs) cs r n p h = elim p [ ]

-- the same octets from the same format on
module _ {A : Type 0} where
  same_first : (a b c d : List A) → length a ≡ length c → a ++ b ≡ c ++ d → a ≡ c
  same_first a b c d l e = sym (take_at a b (length a) refl) ∙ ap (take (length a)) e ∙ take_at c d (length a) (sym l)

  same_rest : (a b c d : List A) → length a ≡ length c → a ++ b ≡ c ++ d → b ≡ d
  same_rest a b c d l e = sym (drop_at a b (length a) refl) ∙ ap (drop (length a)) e ∙ drop_at c d (length a) (sym l)

-- a field that is not complete is not the first of complete ones
incomplete_not : (l : ℕ) (r c q : List ℕ) → length r < l → length c ≡ l → r ≡ c ++ q → ⊥
incomplete_not l r c q h g e = let z : length r ≡ length c + length q = ap length e ∙ length-append c q in omega arith

one_way : (f : Fmt) (cs ds : List (List ℕ)) (r q : List ℕ) (n m : ℕ) → Fails f cs r n → Fails f ds q m → join cs ++ r ≡ join ds ++ q → (cs ≡ ds) × (n ≡ m)
unfolding Fails
one_way (end b) [] [] r q n m h g e = (refl, h.0 ∙ sym g.0)
one_way (test k b f) [] [] r q n m (inl h) (inl g) e = (refl, sym h.0 ∙ g.0)
one_way (test k b f) [] [] r q n m (inl h) (inr g) e = absurd (not_judged (rw (sym h.0 ∙ g.0) at h.1))
one_way (test k b f) [] [] r q n m (inr h) (inl g) e = absurd (not_judged (rw (sym g.0 ∙ h.0) at g.1))
one_way (test k b f) [] [] r q n m (inr h) (inr g) e = one_way f [] [] r q n m h.1 g.1 e
one_way (test k b f) [] (d ∷ ds) r q n m (inl h) g e = absurd (not_judged (rw (sym h.0 ∙ g.0) at h.1))
one_way (test k b f) [] (d ∷ ds) r q n m (inr h) g e = one_way f [] (d ∷ ds) r q n m h.1 g.1 e
one_way (test k b f) (c ∷ cs) [] r q n m h (inl g) e = absurd (not_judged (rw (sym g.0 ∙ h.0) at g.1))
one_way (test k b f) (c ∷ cs) [] r q n m h (inr g) e = one_way f (c ∷ cs) [] r q n m h.1 g.1 e
one_way (test k b f) (c ∷ cs) (d ∷ ds) r q n m h g e = one_way f (c ∷ cs) (d ∷ ds) r q n m h.1 g.1 e
one_way (field x l b k) [] [] r q n m h g e = (refl, h.0 ∙ sym g.0)
one_way (field x l b k) [] (d ∷ ds) r q n m h g e = absurd (incomplete_not l r d (join ds ++ q) h.1 g.0 (e ∙ append_assoc d (join ds) q))
one_way (field x l b k) (c ∷ cs) [] r q n m h g e = absurd (incomplete_not l q c (join cs ++ r) g.1 h.0 (sym e ∙ append_assoc c (join cs) r))
one_way (field x l b k) (c ∷ cs) (d ∷ ds) r q n m h g e =
    let z : c ++ (join cs ++ r) ≡ d ++ (join ds ++ q) = sym (append_assoc c (join cs) r) ∙ e ∙ append_assoc d (join ds) q in
    let w : length c ≡ length d = h.0 ∙ sym g.0 in
    let a : c ≡ d = same_first c (join cs ++ r) d (join ds ++ q) w z in
    let i = one_way (k c) cs ds r q n m h.1 (subst (λ (y : List ℕ). Fails (k y) ds q m) (sym a) g.1) (same_rest c (join cs ++ r) d (join ds ++ q) w z) in
    (rw (a, i.0), i.1)
one_way (end b) [] (d ∷ ds) r q n m h g e = elim g [ ]
one_way (end b) (c ∷ cs) ds r q n m h g e = elim h [ ]

joined : (bs cs : List (List ℕ)) (r : List ℕ) → join (bs ++ cs) ++ r ≡ join bs ++ (join cs ++ r)
joined [] cs r = refl
joined (c ∷ bs) cs r = append_assoc c (join (bs ++ cs)) r ∙ ap (λ (z : List ℕ). c ++ z) (joined bs cs r) ∙ sym (append_assoc c (join bs) (join cs ++ r))

-- ---- the law

module _ (p : ℕ) (f : Fmt) (m : List ℕ) (n k a b : ℕ) where
  pub one_fault : Failed p f m n a → Failed p f m k b → (n ≡ k) × (a ≡ b)
  one_fault h g =
      let bs : List (List ℕ) = h.before in
      let ds : List (List ℕ) = g.before in
      let x : Fails f (bs ++ h.there) h.rest n = fails_from f bs h.there h.rest n h.passes h.fails in
      let y : Fails f (ds ++ g.there) g.rest k = fails_from f ds g.there g.rest k g.passes g.fails in
      let o : join (bs ++ h.there) ++ h.rest ≡ join (ds ++ g.there) ++ g.rest = joined bs h.there h.rest ∙ h.octets ∙ sym g.octets ∙ sym (joined ds g.there g.rest) in
      let w = one_way f (bs ++ h.there) (ds ++ g.there) h.rest g.rest n k x y o in
      let c : length h.there ≡ length g.there = h.counts ∙ rw (w.0, w.1) (sym g.counts) in
      let l : length bs + length h.there ≡ length ds + length g.there = sym (length-append bs h.there) ∙ ap length w.0 ∙ length-append ds g.there in
      let s : bs ≡ ds = same_first bs h.there ds g.there (omega arith) w.0 in
      (w.1, h.place ∙ ap (λ (z : List (List ℕ)). length (join z)) s ∙ sym g.place)

-- a format that fails has a fault when it is read
finish_fails : (f : Fmt) (cs : List (List ℕ)) (r : List ℕ) (n at : ℕ) → Fails f cs r n → (q : ℕ) × (finish f at (join cs ++ r) ≡ bad n q)
unfolding Fails finish
finish_fails (end b) [] [] n at h = absurd (omega (arith, h.1))
finish_fails (end b) [] (x ∷ r) n at h = (at - b, rw h.0)
finish_fails (test zero b f) [] r n at (inl h) = absurd (not_judged (rw (sym h.0) at h.1))
finish_fails (test zero b f) [] r n at (inr h) = finish_fails f [] r n at h.1
finish_fails (test zero b f) (c ∷ cs) r n at h = finish_fails f (c ∷ cs) r n at h.1
finish_fails (test (suc m) b f) [] r n at (inl h) = (at - b, rw h.0)
finish_fails (test (suc m) b f) [] r n at (inr h) = absurd (omega (arith, h.0))
finish_fails (test (suc m) b f) (c ∷ cs) r n at h = absurd (omega (arith, h.0))
finish_fails (field x l b k) [] r n at h = (at - b, rw (h.0, lt-ltb _ _ h.1))
finish_fails (field x l b k) (c ∷ cs) r n at h =
    let i = finish_fails (k c) cs r n (at + l) h.1 in
    let o : (c ++ join cs) ++ r ≡ c ++ (join cs ++ r) = append_assoc c (join cs) r in
    let w : l ≤ length (c ++ (join cs ++ r)) = rw length-append (omega (arith, h.0)) in
    (i.0, rw (o, le-ltb _ _ w, take_at c (join cs ++ r) l h.0, drop_at c (join cs ++ r) l h.0) i.1)
finish_fails (end b) (c ∷ cs) r n at h = elim h [ ]

pub failed_finish : (p : ℕ) (f : Fmt) (m : List ℕ) (n a at : ℕ) → Failed p f m n a → (q : ℕ) × (finish f at m ≡ bad n q)
failed_finish p f m n a at h =
    let i = finish_fails f (h.before ++ h.there) h.rest n at (fails_from f h.before h.there h.rest n h.passes h.fails) in
    (i.0, rw (← (joined h.before h.there h.rest ∙ h.octets)) i.1)
