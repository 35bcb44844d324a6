-- Whatever fault is found where a record should start, its octets are as the fault and its place say.
use mathlib.Core.Path.{◌≡◌, refl, sym, ap, ◌∙◌}
use mathlib.Core.Bool.{Bool, true, false}
use mathlib.Core.Logic.{◌↔◌, inl, inr, ⊎_elim}
use mathlib.Core.List.{List, [], ◌∷◌, ◌++◌}
use Prim.Native.Nat.{ℕ, zero, suc, ◌+◌, ◌-◌, ◌≤◌, ◌<◌}
use native.Mathlib.Omega.{arith}
use lib.Dec.{ltb}
use lib.ListN.{length, take, drop, length-append}
use lib.Seq.{drop-drop, drop_at, take-add, length-take-le}
use borrow.Author.Tests.{ltb-true, ltb-false, lt-ltb, le-ltb}
use Rattle.form_spec.specs.Octets.{Octets}
use Rattle.form_spec.specs.Fmt.{Out, bad, good, bind, refuse_if, Fmt, end, test, field, read, join}
use Rattle.form_spec.specs.Body.{Plan, just, free, many, Body, loose, read_body}
use Rattle.form_spec.specs.Pass.{◌⨾◌, counted}
use Rattle.form_spec.specs.Shape.{St}
use Rattle.form_spec.specs.Record.{Rec, read_rec}
use Rattle.form_laws.proofs.Octets.{octets-take, octets-drop}
use Rattle.form_laws.proofs.Many.{flat_body, body-many}
use Rattle.octets_spec.specs.Be.{num_at}
use Rattle.page_spec.specs.Layout.{layout}
use Rattle.record_laws.proofs.Same.{rec}
use Rattle.record_laws.proofs.One.{header_complete, rec_header, short_header}
use Rattle.place_spec.specs.About.{timestamp_field, type_field, subtype_field, length_field}
use Rattle.place_spec.specs.Failed.{judged, Failed}
use Rattle.place_spec.specs.Faulty.{header_then, FailedRecord, record_end, laid_out, Faulty}
use Rattle.place_laws.proofs.Finish.{finish, finish_body, finish_bad, finish_good, finish_free}
use Rattle.place_laws.proofs.Failed.{Trail, AimsTo, Aims, failed}
use Rattle.place_laws.proofs.Aims.{Row, aims}
use Rattle.place_laws.proofs.Exactly.{one_fault, failed_finish}

-- a fault is not a value
differ : {A : Type 0} (o : Out A) (n p : ℕ) (a : A) (r : List ℕ) → o ≡ bad n p → o ≡ good a r → ⊥
differ o n p a r b g = let e : bad n p ≡ good a r = sym b ∙ g in let x : ◌≡◌ {A = ℕ} 0 1 = cc in omega arith

-- ---- a record's fields in a row

-- behind the header's 12 octets the message's fields are read
finish_header : (f : Fmt) (m : List ℕ) → 12 ≤ length m → finish (header_then f) 0 m ≡ finish f 12 (drop 12 m)
unfolding finish
finish_header f m h = let c = header_complete m h in rw (c.0, c.1, drop-drop 2 4 m, c.2, drop-drop 2 6 m, c.3, drop-drop 4 8 m)

-- reading fields alone leaves octets over, and that is no fault
no_six : (f : Fmt) (t : Trail) → Aims f t → (at : ℕ) (bs : List ℕ) (n p : ℕ) → read f at bs ≡ bad n p → n ≡ 6 → ⊥
unfolding AimsTo read judged
no_six (end b) t a at bs n p e z = let x : ◌≡◌ {A = ℕ} 0 1 = cc in omega arith
no_six (test zero b f) t a at bs n p e z = no_six f t a at bs n p e z
no_six (test (suc m) b f) t a at bs n p e z =
    let i : suc m ≡ n = cc in
    let j : judged 6 ≡ true = rw (i ∙ z) at a.0 in
    let x : ◌≡◌ {A = ℕ} 0 1 = cc in
    omega arith
no_six (field x l b k) t a at bs n p e z =
    go (ltb (length bs) l) refl e (λ w. no_six (k (take l bs)) ((x, l) ∷ t) (a.1 (take l bs) (length-take-le l bs w)) (at + l) (drop l bs))
  where
    behind : (o : Out (List (List ℕ))) → bind o (λ cs r. good (take l bs ∷ cs) r) ≡ bad n p → o ≡ bad n p
    behind (bad k q) e = let a : k ≡ n = cc in let b : q ≡ p = cc in rw (a, b)
    behind (good cs r) e = let z : ◌≡◌ {A = ℕ} 0 1 = cc in absurd (omega arith)

    go : (s : Bool) → ltb (length bs) l ≡ s → refuse_if s 5 (at - b) (bind (read (k (take l bs)) (at + l) (drop l bs)) (λ cs r. good (take l bs ∷ cs) r)) ≡ bad n p
        → (l ≤ length bs → (n p : ℕ) → read (k (take l bs)) (at + l) (drop l bs) ≡ bad n p → n ≡ 6 → ⊥) → ⊥
    go true s e h = let i : 5 ≡ n = cc in omega (arith, i, z)
    go false s e h = h (ltb-false _ _ s) n p (behind _ e) z

-- so a message's fault is at one of the record's fields in a row
row-fails : (l : Plan) → Row l → (m x : List ℕ) (n p : ℕ) → Octets x → 12 ≤ length m → drop 12 m ≡ x → read_body l 12 x ≡ bad n p → FailedRecord l m n p
unfolding read_body AimsTo
row-fails (just f) a m x n p oc h e b = failed _ a m n p (finish_header f m h ∙ rw e (finish_body f 12 x n p b))
row-fails (free f) a m x n p oc h e b = go (read f 12 x) refl b
  where
    -- whatever the header has
    message : Aims f ((length_field, 4) ∷ (subtype_field, 2) ∷ (type_field, 2) ∷ (timestamp_field, 4) ∷ [])
    message = (((a.1 (0 ∷ 0 ∷ 0 ∷ 0 ∷ []) refl).1 (0 ∷ 0 ∷ []) refl).1 (0 ∷ 0 ∷ []) refl).1 (0 ∷ 0 ∷ 0 ∷ 0 ∷ []) refl

    go : (o : Out (List (List ℕ))) → read f 12 x ≡ o → bind o (λ cs r. good (loose cs r) []) ≡ bad n p → Failed 0 (header_then f) m n p × (n ≡ 6 → ⊥)
    go (bad k q) i e' = let c : k ≡ n = cc in let d : q ≡ p = cc in (failed _ a m n p (finish_header f m h ∙ rw e (finish_bad f 12 x n p (i ∙ rw (c, d)))), no_six f _ message 12 x n p (i ∙ rw (c, d)))
    go (good cs r) i e' = let z : ◌≡◌ {A = ℕ} 0 1 = cc in absurd (omega arith)
row-fails (many f g) a m x n p oc h e b = failed _ a m n p (finish_header _ m h ∙ rw e (finish_body (f ⨾ counted 0 g) 12 x n p (body-many 0 f g 12 x oc ∙ ap flat_body b)))

-- behind its header's octets a record has its message's
taken_message : (s : List ℕ) → 12 ≤ length s → drop 12 (take (record_end s) s) ≡ take (num_at s 8 4) (drop 12 s)
taken_message s h = rw (take-add 12 (num_at s 8 4) s) (drop_at (take 12 s) (take (num_at s 8 4) (drop 12 s)) 12 (length-take-le 12 s h))

-- ---- the law

module _ (longest : ℕ) (st : St) (s : List ℕ) (oc : Octets s) (some : 0 < length s) (n p : ℕ) where
  abbrev size : ℕ
  size = num_at s 8 4

  message-fails : 12 ≤ length s → size ≤ length s - 12 → (o : Out Body) → read_body (laid_out longest st s) 12 (take size (drop 12 s)) ≡ o
      → bind o (λ b q. good (rec (num_at s 0 4) (num_at s 4 2) (num_at s 6 2) b) (drop size (drop 12 s))) ≡ bad n p
      → Faulty longest st s n p
  message-fails a b (good y q) e h = let z : ◌≡◌ {A = ℕ} 0 1 = cc in absurd (omega arith)
  message-fails a b (bad k q) e h =
      let i : k ≡ n = cc in
      let j : q ≡ p = cc in
      let m : List ℕ = take (record_end s) s in
      let w : drop 12 m ≡ take size (drop 12 s) = taken_message s a in
      let l : length m ≡ record_end s = length-take-le (record_end s) s (omega arith) in
      let f : FailedRecord (laid_out longest st s) m n p = row-fails (laid_out longest st s) (aims longest st (num_at s 4 2) (num_at s 6 2)) m _ n p (octets-take size (drop 12 s) (octets-drop 12 s oc)) (omega arith) w (e ∙ rw (i, j)) in
      inr (inr (omega arith, f))

  pub faulty_record : read_rec (layout longest) st 0 s ≡ bad n p → Faulty longest st s n p
  faulty_record h = start (ltb (length s) 12) refl
    where
      fits : (b : Bool) → 12 ≤ length s → ltb (length s - 12) size ≡ b
          → refuse_if b 2 0 (bind (read_body (laid_out longest st s) 12 (take size (drop 12 s))) (λ b q. good (rec (num_at s 0 4) (num_at s 4 2) (num_at s 6 2) b) (drop size (drop 12 s)))) ≡ bad n p
          → Faulty longest st s n p
      fits true a e h = let i : 2 ≡ n = cc in let j : 0 ≡ p = cc in inr (inl (sym i, sym j, a, omega (arith, ltb-true (length s - 12) size e)))
      fits false a e h = message-fails a (ltb-false (length s - 12) size e) _ refl h

      start : (b : Bool) → ltb (length s) 12 ≡ b → Faulty longest st s n p
      start true e =
          let g : bad 1 0 ≡ bad n p = sym (short_header longest st 0 s e) ∙ h in
          let i : 1 ≡ n = cc in
          let j : 0 ≡ p = cc in
          inl (sym i, sym j, some, ltb-true _ _ e)
      start false e = fits (ltb (length s - 12) size) (ltb-false _ _ e) refl (sym (rec_header longest st 0 s (ltb-false _ _ e)) ∙ h)

-- ---- and the other way: octets that are so have that fault

one_row : (l : Plan) (m : List ℕ) (n k p q : ℕ) → FailedRecord l m n p → FailedRecord l m k q → (n ≡ k) × (p ≡ q)
one_row (just f) m n k p q h g = one_fault 0 _ m n k p q h g
one_row (free f) m n k p q h g = one_fault 0 _ m n k p q h.0 g.0
one_row (many f t) m n k p q h g = one_fault 0 _ m n k p q h g

-- a message that is read has none
good_row : (l : Plan) (m x : List ℕ) (n p : ℕ) (y : Body) (z : List ℕ) → Octets x → 12 ≤ length m → drop 12 m ≡ x → read_body l 12 x ≡ good y z → FailedRecord l m n p → ⊥
unfolding read_body
good_row (just f) m x n p y z oc h e b r =
    let g = failed_finish 0 _ m n p 0 r in
    differ _ n g.0 tt [] g.1 (finish_header f m h ∙ rw e (finish_good f 12 x y z b))
good_row (free f) m x n p y z oc h e b r = go (read f 12 x) refl b
  where
    go : (o : Out (List (List ℕ))) → read f 12 x ≡ o → bind o (λ cs r. good (loose cs r) []) ≡ good y z → ⊥
    go (bad k q) i d = let w : ◌≡◌ {A = ℕ} 0 1 = cc in omega arith
    go (good cs t) i d = let g = failed_finish 0 _ m n p 0 r.0 in r.1 (finish_free f 12 x cs t i n g.0 (sym (finish_header f m h ∙ rw e) ∙ g.1))
good_row (many f t) m x n p y z oc h e b r =
    let g = failed_finish 0 _ m n p 0 r in
    differ _ n g.0 tt [] g.1 (finish_header _ m h ∙ rw e (finish_good (f ⨾ counted 0 t) 12 x _ _ (body-many 0 f t 12 x oc ∙ ap flat_body b)))

module _ (longest : ℕ) (st : St) (s : List ℕ) (oc : Octets s) where
  one_place : (n k p q : ℕ) → Faulty longest st s n p → Faulty longest st s k q → (n ≡ k) × (p ≡ q)
  one_place n k p q (inl h) (inl g) = (h.0 ∙ sym g.0, h.1 ∙ sym g.1)
  one_place n k p q (inl h) (inr (inl g)) = absurd (omega (arith, h.3, g.2))
  one_place n k p q (inl h) (inr (inr g)) = absurd (omega (arith, h.3, g.0))
  one_place n k p q (inr (inl h)) (inl g) = absurd (omega (arith, g.3, h.2))
  one_place n k p q (inr (inl h)) (inr (inl g)) = (h.0 ∙ sym g.0, h.1 ∙ sym g.1)
  one_place n k p q (inr (inl h)) (inr (inr g)) = absurd (omega (arith, h.3, g.0))
  one_place n k p q (inr (inr h)) (inl g) = absurd (omega (arith, g.3, h.0))
  one_place n k p q (inr (inr h)) (inr (inl g)) = absurd (omega (arith, g.3, h.0))
  one_place n k p q (inr (inr h)) (inr (inr g)) = one_row (laid_out longest st s) _ n k p q h.1 g.1

  abbrev row : List ℕ
  row = take (num_at s 8 4) (drop 12 s)

  abbrev read-row : Out Body → Out Rec
  read-row o = bind o (λ b q. good (rec (num_at s 0 4) (num_at s 4 2) (num_at s 6 2) b) (drop (num_at s 8 4) (drop 12 s)))

  not_good : (n p : ℕ) (r : Rec) (z : List ℕ) → Faulty longest st s n p → read_rec (layout longest) st 0 s ≡ good r z → ⊥
  not_good n p r z (inl h) e = differ _ 1 0 r z (short_header longest st 0 s (lt-ltb _ _ h.3)) e
  not_good n p r z (inr (inl h)) e =
      let t : ltb (length s - 12) (num_at s 8 4) ≡ true = lt-ltb (length s - 12) (num_at s 8 4) (omega (arith, h.2, h.3)) in
      differ _ 2 0 r z (rec_header longest st 0 s h.2 ∙ rw t) e
  not_good n p r z (inr (inr h)) e =
      let t : ltb (length s - 12) (num_at s 8 4) ≡ false = le-ltb (length s - 12) (num_at s 8 4) (omega (arith, h.0)) in
      go (read_body (laid_out longest st s) 12 row) refl (sym (rec_header longest st 0 s (omega (arith, h.0)) ∙ rw t) ∙ e)
    where
      m : List ℕ
      m = take (record_end s) s

      go : (o : Out Body) → read_body (laid_out longest st s) 12 row ≡ o → read-row o ≡ good r z → ⊥
      go (bad k q) i g = let x : ◌≡◌ {A = ℕ} 0 1 = cc in omega arith
      go (good y q) i g =
          let l : length m ≡ record_end s = length-take-le (record_end s) s h.0 in
          good_row (laid_out longest st s) m row n p y q (octets-take (num_at s 8 4) (drop 12 s) (octets-drop 12 s oc)) (omega arith) (taken_message s (omega (arith, h.0))) i h.1

  pub faulty_exactly : 0 < length s → (n p : ℕ) → Faulty longest st s n p ↔ (read_rec (layout longest) st 0 s ≡ bad n p)
  faulty_exactly some n p = (λ h. go (read_rec (layout longest) st 0 s) refl h, faulty_record longest st s oc some n p)
    where
      go : (o : Out Rec) → read_rec (layout longest) st 0 s ≡ o → Faulty longest st s n p → read_rec (layout longest) st 0 s ≡ bad n p
      go (bad k q) e h = let i = one_place k n q p (faulty_record longest st s oc some k q e) h in e ∙ rw (i.0, i.1)
      go (good r z) e h = absurd (not_good n p r z h e)

-- ---- the place is in the octets, and in the record where it is whole

within : (f : Fmt) (m : List ℕ) (n p : ℕ) → Failed 0 f m n p → p ≤ length m
within f m n p h =
    let e : length (join h.before) + length (join h.there ++ h.rest) ≡ length m = sym (length-append (join h.before) _) ∙ ap length h.octets in
    omega (arith, h.place)

row_in : (l : Plan) (m : List ℕ) (n p : ℕ) → FailedRecord l m n p → p ≤ length m
row_in (just f) m n p h = within _ m n p h
row_in (free f) m n p h = within _ m n p h.0
row_in (many f g) m n p h = within _ m n p h

pub place_in : (longest : ℕ) (st : St) (s : List ℕ) (n p : ℕ) → Faulty longest st s n p → (p ≤ length s) × (record_end s ≤ length s → p ≤ record_end s)
place_in longest st s n p =
    ⊎_elim (λ z. (omega (arith, z.1), λ e. omega (arith, z.1)))
    (⊎_elim (λ z. (omega (arith, z.1), λ e. omega (arith, z.1)))
    (λ z. let l : length (take (record_end s) s) ≡ record_end s = length-take-le (record_end s) s z.0 in let w : p ≤ length (take (record_end s) s) = row_in (laid_out longest st s) _ n p z.1 in (omega (arith, z.0), λ e. omega arith)))

-- no fault is found in no octets
pub faulty_some : (longest : ℕ) (st : St) (s : List ℕ) (n p : ℕ) → Faulty longest st s n p → 0 < length s
faulty_some longest st s n p = ⊎_elim (λ z. z.2) (⊎_elim (λ z. omega (arith, z.2)) (λ z. omega (arith, z.0)))
