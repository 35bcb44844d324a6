-- The verdict by numbers is what a writer answers and leaves.
use mathlib.Core.Path.{◌≡◌, refl, sym, ap, ◌∙◌}
use mathlib.Core.Bool.{Bool, true, false}
use mathlib.Core.List.{List, ◌++◌, append_assoc}
use Prim.Native.Nat.{ℕ, zero, suc, ◌+◌, ◌^◌, ◌≤◌, ◌<◌}
use native.Mathlib.Omega.{arith}
use lib.Dec.{ltb}
use lib.ListN.{length, length-append}
use borrow.Author.Tests.{lt-ltb, le-ltb, ltb-true, ltb-false}
use Rattle.form_spec.specs.Octets.{to_be}
use Rattle.form_laws.proofs.Octets.{length-to_be}
use Rattle.form_spec.specs.Fmt.{join}
use Rattle.form_spec.specs.Put.{Given, lay, message, octets, or_else, large, fields_refusal, record_refusal}
use Rattle.form_spec.specs.Shape.{Layout, St}
use Rattle.form_spec.specs.Words.{choose}
use Rattle.octets_spec.specs.Over.{over}
use Rattle.octets_laws.proofs.Over.{more}
use Rattle.write_spec.specs.Verdict.{writer_answer, writer_leaves, Writes, capped, verdict_of}
use Rattle.write_spec.specs.Times.{micro_size, micros}
use Rattle.write_spec.specs.declared.Time.{Time}
use Rattle.write_spec.specs.declared.Time.TheVariants.{Seconds, Micro}
use Rattle.room_spec.specs.Written.{Written, Octets}
use Rattle.room_laws.proofs.Room.{Right, answers, faulty, fits-laid, long}
use Rattle.write_laws.proofs.Sums.{cap}
use Rattle.form_spec.specs.Refusal.{refused}
use Rattle.std.specs.Prelude.{Ok, Err, ⊤}
use Rattle.write_spec.specs.Judged.{judged}
use Rattle.write_laws.proofs.Judged.{stops}
use Rattle.form_spec.specs.declared.Fault.{Fault}

length-octets : (g : Given) → length (octets g) ≡ 12 + length (message g)
unfolding octets
length-octets g = simp (length-append, length-to_be) (omega arith)

-- what the verdict says of a record that is refused with n but for its Length and the room
abbrev Says : (n : ℕ) (m xs out : List ℕ) → Written → Type 0
Says n m xs out (Err why) = Right (or_else n (large 4 (length m))) 0 xs out (refused why.number why.place) out
Says n m xs out (Octets k) =
    Right (or_else n (large 4 (length m))) 0 xs out (Octets k) (over out 0 xs) × (12 + length m ≤ length out) × (capped (length m) ≡ length m)

says : (n : ℕ) (m xs out : List ℕ) → length xs ≡ 12 + length m → Says n m xs out (verdict_of n (capped (length m)) (length out))
unfolding verdict_of choose
says (suc n) m xs out e = faulty (suc n) 0 xs out (λ z. omega arith)
says zero m xs out e = go (ltb 4294967295 (capped (length m))) (ltb (length out) (12 + capped (length m))) refl refl
  where
    go : (t u : Bool) → ltb 4294967295 (capped (length m)) ≡ t → ltb (length out) (12 + capped (length m)) ≡ u
        → Says 0 m xs out (choose t (refused 6 0) (choose u (refused 15 0) (Octets (12 + capped (length m)))))
    go true u p q =
        let c = cap (length m) in
        let h : 256 ^ 4 ≤ length m = omega (arith, ltb-true 4294967295 (capped (length m)) p, c.most) in
        rw (le-ltb (length m) (256 ^ 4) h) (faulty 6 0 xs out (λ z. omega arith))
    go false true p q =
        let c = cap (length m) in
        let b = ltb-false 4294967295 (capped (length m)) p in
        let s : length m ≡ capped (length m) = c.same (omega arith) in
        let h : length m < 256 ^ 4 = omega arith in
        long (large 4 (length m)) 0 xs out (rw (lt-ltb (length m) (256 ^ 4) h)) (omega (arith, ltb-true (length out) (12 + capped (length m)) q))
    go false false p q =
        let c = cap (length m) in
        let b = ltb-false 4294967295 (capped (length m)) p in
        let s : length m ≡ capped (length m) = c.same (omega arith) in
        let h : length m < 256 ^ 4 = omega arith in
        let r : length xs ≤ length out = omega (arith, ltb-false (length out) (12 + capped (length m)) q) in
        let z = fits-laid (large 4 (length m)) 0 xs out (rw (lt-ltb (length m) (256 ^ 4) h)) r in
        let k : 12 + capped (length m) ≡ length xs = omega arith in
        ((ap Octets k ∙ z.0, z.1), omega arith, sym s)

-- ---- the verdict's own ways out

pub fault_first : (n size room : ℕ) (why : Fault) → Err why ≡ judged n → refused why.number 0 ≡ verdict_of n size room
unfolding verdict_of
fault_first zero size room why e = cc
fault_first (suc n) size room why e = rw (stops (suc n) why e).same

pub fault_not : (n size room : ℕ) (u : ⊤) (x : Written) → Ok u ≡ judged n → x ≡ choose (ltb 4294967295 size) (refused 6 0) (choose (ltb room (12 + size)) (refused 15 0) (Octets (12 + size))) → x ≡ verdict_of n size room
unfolding verdict_of
fault_not zero size room u x h e = e
fault_not (suc n) size room u x h e = cc

-- the right answer and buffer are what a writer promises
writes : (layout : ℕ → ℕ → Layout) (st : St) (g : Given) (out k : List ℕ) (v : Written) → v ≡ writer_answer layout st g out → k ≡ writer_leaves layout st g out → Writes layout st g out v k
writes layout st g out k v e f = (e, f, rw e (answers (record_refusal layout st g) 0 (octets g) out))

-- ---- what the writers use: n is the number for the fields, and size the message's length as it is added up

-- v says that the record goes into out, with size as its Length
pub record Goes (layout : ℕ → ℕ → Layout) (st : St) (g : Given) (out : List ℕ) (size : ℕ) (v : Written) : Type 0 where
  pub answer : v ≡ writer_answer layout st g out
  pub left : over out 0 (octets g) ≡ writer_leaves layout st g out
  pub space : 12 + length (message g) ≤ length out
  pub exact : size ≡ length (message g)

module _ (layout : ℕ → ℕ → Layout) (st : St) (g : Given) (out : List ℕ) (n size room : ℕ) (v : Written)
    (fields : n ≡ fields_refusal layout st g) (sized : size ≡ capped (length (message g))) (lent : room ≡ length out) (judged : v ≡ verdict_of n size room) where
  said : Says (fields_refusal layout st g) (message g) (octets g) out v
  said = rw (judged, fields, sized, lent) (says (fields_refusal layout st g) (message g) (octets g) out (length-octets g))

  -- a refusal: the answer is right, and so is the buffer as it was
  pub refuses : (why : Fault) → v ≡ Err why → Writes layout st g out v out
  unfolding record_refusal
  refuses why e = let s = rw e at said in writes layout st g out out v (e ∙ s.0) s.1

  pub goes : (k : ℕ) → v ≡ Octets k → Goes layout st g out size v
  unfolding record_refusal
  goes k e = let s = rw e at said in record { answer = e ∙ s.0.0; left = s.0.1; space = s.1; exact = sized ∙ s.2 }

-- a header, and the message behind it, are the record's octets laid from the buffer's first
laid : (g : Given) (out l k : List ℕ) (size : ℕ) → l ≡ over out 0 (to_be 4 g.stamp ++ (to_be 2 g.type ++ (to_be 2 g.sub ++ to_be 4 size))) → k ≡ over l 12 (message g)
    → size ≡ length (message g) → 12 + length (message g) ≤ length out → k ≡ over out 0 (octets g)
unfolding octets
laid g out l k size e d z h =
    let p : List ℕ = to_be 4 g.stamp ++ (to_be 2 g.type ++ (to_be 2 g.sub ++ to_be 4 size)) in
    let n : length p ≡ 12 = simp (length-append, length-to_be) in
    let q : k ≡ over out 0 (p ++ message g) = more out p (message g) l k 0 12 e d (omega arith) (omega arith) in
    let x : p ++ message g ≡ octets g = rw z (simp append_assoc) in
    q ∙ ap (over out 0) x

-- the header is laid, and then the message behind it
pub done : (layout : ℕ → ℕ → Layout) (st : St) (g : Given) (out l k : List ℕ) (size : ℕ) (v : Written) → Goes layout st g out size v
    → l ≡ over out 0 (to_be 4 g.stamp ++ (to_be 2 g.type ++ (to_be 2 g.sub ++ to_be 4 size))) → k ≡ over l 12 (message g) → Writes layout st g out v k
done layout st g out l k size v f e d = writes layout st g out k v f.answer (laid g out l k size e d f.exact f.space ∙ f.left)

-- the microseconds' octets
pub micros_long : (t : Time) → length (join (lay (micros t))) ≡ micro_size t
micros_long (Seconds s) = refl
micros_long (Micro s u) = simp (length-append, length-to_be)
