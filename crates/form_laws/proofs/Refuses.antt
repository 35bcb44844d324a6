-- A writer refuses with the number that the reader would give, where the reader finds each value in its place.
use mathlib.Core.Path.{◌≡◌, refl, sym, ap, ◌∙◌}
use mathlib.Core.Bool.{Bool, true, false, cond}
use mathlib.Core.Logic.{inl, inr}
use mathlib.Core.List.{List, [], ◌∷◌, ◌++◌, append_assoc}
use Prim.Native.Nat.{ℕ, zero, suc, ◌+◌, ◌-◌, ◌≤◌, ◌<◌}
use native.Mathlib.Omega.{arith}
use lib.ListN.{length, take, drop, length-append, length-drop}
use lib.Seq.{take_at, drop_at, take-append-le, drop-append-le}
use lib.Dec.{ltb, eqb}
use borrow.Author.Tests.{lt-ltb, le-ltb, eqb-true}
use Rattle.form_spec.specs.Octets.{be, to_be}
use Rattle.form_spec.specs.Fmt.{Out, bad, good, bind, refuse_if, Fmt, end, test, field, read, join, over_at}
use Rattle.form_spec.specs.Body.{read_n, joins, Plan, just, free, many, Body, plain, loose, listed, ended, read_body}
use Rattle.form_spec.specs.Shape.{Layout, refuse, fields, unread, table, entries, St, plan}
use Rattle.form_spec.specs.Record.{Rec, head, read_rec}
use Rattle.form_spec.specs.Put.{Value, digits, bytes, spelled, or_else, misfit, refusal, lay}
use Rattle.form_spec.specs.Put.{Tail, nothing, carried, items, tailed, fault_of, items_refusal, body_refusal, Given, message, octets, type_refusal, fields_refusal, record_refusal}
use Rattle.form_spec.specs.Found.{fault_number}
use Rattle.form_spec.specs.Gives.{FitOne, Fit}
use Rattle.form_spec.specs.Aligned.{Full, Aligned, Counted, AlignedBody, Placed}
use Rattle.form_laws.proofs.Octets.{length-to_be, be-to_be}
use Rattle.form_laws.proofs.Fmt.{refuse_case, read_field, complete}
use Rattle.form_laws.proofs.Moved.{moved-fault, moved-items}
use Rattle.form_laws.proofs.Record.{read-message}
use Rattle.form_laws.proofs.Put.{zero_large, zero-misfit}

-- ---- fields that end a message

fault-kept : (c : List ℕ) (o : Out (List (List ℕ))) → fault_of (bind o (λ cs r. good (c ∷ cs) r)) ≡ fault_of o
fault-kept c (bad n p) = refl
fault-kept c (good cs []) = refl
fault-kept c (good cs (x ∷ r)) = refl

left_over : {A : Type 0} (a : A) (r : List ℕ) → 0 < length r → fault_of (good a r) ≡ 6
left_over a [] h = absurd (omega arith)
left_over a (x ∷ r) h = refl

misfit_short : (v : Value) (l : ℕ) → FitOne v → length (spelled v) < l → misfit v l ≡ 5
misfit_short (digits w n) l h e = let g : w < l = rw length-to_be at e in rw (zero_large w n h, lt-ltb w l g)
misfit_short (bytes c) l h e = rw (lt-ltb (length c) l e)

misfit_long : (v : Value) (l : ℕ) → FitOne v → l < length (spelled v) → misfit v l ≡ 6
misfit_long (digits w n) l h e = let g : l < w = rw length-to_be at e in rw (zero_large w n h, le-ltb w l (omega arith), lt-ltb l w g)
misfit_long (bytes c) l h e = rw (le-ltb (length c) l (omega arith), lt-ltb l (length c) e)

aligned-read : (f : Fmt) (at : ℕ) (vs : List Value) (raw : List ℕ) → Fit vs → Aligned f vs raw → refusal f vs ≡ fault_of (read f at (join (lay vs) ++ raw))
unfolding refusal read Aligned
aligned-read (end b) at [] raw h s = rw s
aligned-read (end b) at (v ∷ vs) raw h s = sym (left_over {A = List (List ℕ)} [] (join (lay (v ∷ vs)) ++ raw) s)
aligned-read (test zero b f) at vs raw h s = aligned-read f at vs raw h (s refl)
aligned-read (test (suc n) b f) at vs raw h s = refl
aligned-read (field x l b k) at [] raw h s = rw (lt-ltb (length raw) l s)
aligned-read (field x l b k) at (v ∷ vs) raw h (inl s) =
    let c : List ℕ = spelled v in
    let q : List ℕ = join (lay vs) ++ raw in
    rw (append_assoc c (join (lay vs)) raw, read_field x l b k at c q s.0, zero-misfit v l h.0 s.0, fault-kept c (read (k c) (at + l) q)) (aligned-read (k c) (at + l) vs raw h.1 s.1)
aligned-read (field x l b k) at (v ∷ vs) raw h (inr (inl s)) =
    let g : length (spelled v) < l = omega (arith, simp length-append at s) in
    rw (lt-ltb _ _ s, misfit_short v l h.0 g)
aligned-read (field x l b k) at (v ∷ vs) raw h (inr (inr s)) =
    let c : List ℕ = spelled v in
    let q : List ℕ = join (lay vs) ++ raw in
    let i : l ≤ length c = omega (arith, s.0) in
    let g : l ≤ length (c ++ q) = simp length-append (omega arith) in
    let o : 0 < length (drop l c ++ q) = simp (length-append, length-drop) (omega (arith, s.0)) in
    rw (append_assoc, le-ltb _ _ g, misfit_long v l h.0 s.0, take-append-le l c q i, drop-append-le l c q i, complete (k (take l c)) (at + l) [] (drop l c ++ q) s.1)
    (sym (left_over {A = List (List ℕ)} (take l c ∷ []) (drop l c ++ q) o))

-- ---- fields before other octets

-- a writer's number n for the fields cs, and the outcome of reading them where the octets raw follow
abbrev ReadsAs : ℕ → List (List ℕ) → List ℕ → Out (List (List ℕ)) → Type 0
ReadsAs n cs raw (bad m p) = (n ≡ m) × (m ≡ 0 → ⊥)
ReadsAs n cs raw (good ds r) = (n ≡ 0) × (cs ≡ ds) × (raw ≡ r)

reads_as_kept : (n : ℕ) (c : List ℕ) (cs : List (List ℕ)) (raw : List ℕ) (o : Out (List (List ℕ))) → ReadsAs n cs raw o → ReadsAs n (c ∷ cs) raw (bind o (λ ds r. good (c ∷ ds) r))
reads_as_kept n c cs raw (bad m p) h = h
reads_as_kept n c cs raw (good ds r) h = (h.0, ap (◌∷◌ c) h.1, h.2)

full-read : (f : Fmt) (at : ℕ) (vs : List Value) (raw : List ℕ) → Fit vs → Full f vs → ReadsAs (refusal f vs) (lay vs) raw (read f at (join (lay vs) ++ raw))
unfolding refusal read Full
full-read (end b) at [] raw h s = (refl, refl, refl)
full-read (test zero b f) at vs raw h s = full-read f at vs raw h (s refl)
full-read (test (suc n) b f) at vs raw h s = (refl, λ z. omega arith)
full-read (field x l b k) at (v ∷ vs) raw h s =
    let c : List ℕ = spelled v in
    let q : List ℕ = join (lay vs) ++ raw in
    rw (append_assoc c (join (lay vs)) raw, read_field x l b k at c q s.0, zero-misfit v l h.0 s.0)
    (reads_as_kept (refusal (k c) vs) c (lay vs) raw (read (k c) (at + l) q) (full-read (k c) (at + l) vs raw h.1 s.1))
full-read (end b) at (v ∷ vs) raw h s = elim s [ ]
full-read (field x l b k) at [] raw h s = elim s [ ]

-- what goes on with them
reads_as_bind : {A : Type 0} (n : ℕ) (cs : List (List ℕ)) (raw : List ℕ) (k : List (List ℕ) → List ℕ → Out A) (o : Out (List (List ℕ))) → ReadsAs n cs raw o
    → or_else n (fault_of (k cs raw)) ≡ fault_of (bind o k)
reads_as_bind n cs raw k (bad zero p) h = absurd (h.1 refl)
reads_as_bind n cs raw k (bad (suc m) p) h = rw h.0
reads_as_bind n cs raw k (good ds r) h = rw (h.0, h.1, h.2)

-- ---- bodies

fault-ended : {A : Type 0} (o : Out A) (q : A → ℕ) (b : A → Body) → fault_of o ≡ fault_of (bind o (λ a r. ended (q a) (b a) r))
fault-ended (bad n p) q b = refl
fault-ended (good a []) q b = refl
fault-ended (good a (x ∷ r)) q b = refl

or_else_none : (n : ℕ) → n ≡ or_else n 0
or_else_none zero = refl
or_else_none (suc n) = refl

-- a count and items where they stand, after the fields cs
items-read : (g : Fmt) (at : ℕ) (cs : List (List ℕ)) (t : Tail) → Counted t
    → items_refusal g t ≡ fault_of (refuse_if (ltb (length (tailed t)) 2) 5 at
    (bind (read_n g (be (take 2 (tailed t))) (at + 2) (drop 2 (tailed t))) (λ its q. ended (at + 2 + length (joins its)) (listed cs its) q)))
items-read g at cs nothing h = refl
items-read g at cs (carried r) h = rw (lt-ltb (length r) 2 h)
items-read g at cs (items n raw) h =
    let l : length (to_be 2 n) ≡ 2 = length-to_be 2 n in
    let g2 : 2 ≤ length (to_be 2 n ++ raw) = simp length-append (omega arith) in
    rw (zero_large 2 n h, le-ltb _ _ g2, take_at (to_be 2 n) raw 2 l, drop_at (to_be 2 n) raw 2 l, be-to_be 2 n h)
    (sym (moved-fault (at + 2) _ (read_n g n (at + 2) raw) (read_n g n 0 raw) (moved-items (at + 2) g n 0 (at + 2) raw (omega arith))) ∙ fault-ended (read_n g n (at + 2) raw) (λ its. at + 2 + length (joins its)) (listed cs))

-- the writer's number is the reader's
pub refuses_as_reader : (p : Plan) (at : ℕ) (vs : List Value) (t : Tail) → Fit vs → AlignedBody p vs t → body_refusal p vs t ≡ fault_of (read_body p at (join (lay vs) ++ tailed t))
unfolding body_refusal read_body
refuses_as_reader (just f) at vs t h s =
    let o : Out (List (List ℕ)) = read f at (join (lay vs) ++ tailed t) in
    aligned-read f at vs (tailed t) h s ∙ fault-ended o (λ ds. at + length (join ds) - over_at f ds) plain
refuses_as_reader (free f) at vs t h s =
    or_else_none (refusal f vs) ∙ reads_as_bind (refusal f vs) (lay vs) (tailed t) (λ ds r. good (loose ds r) []) (read f at (join (lay vs) ++ tailed t)) (full-read f at vs (tailed t) h s)
refuses_as_reader (many f g) at vs t h s =
    ap (or_else (refusal f vs)) (items-read g (at + length (join (lay vs))) (lay vs) t s.1)
    ∙ reads_as_bind (refusal f vs) (lay vs) (tailed t) _ (read f at (join (lay vs) ++ tailed t)) (full-read f at vs (tailed t) h s.0)

-- ---- records

-- a body leaves nothing
abbrev Spent : Out Body → Type 0
Spent (bad n p) = Unit
Spent (good b r) = r ≡ []

spent_ended : (p : ℕ) (b : Body) (r : List ℕ) → Spent (ended p b r)
spent_ended p b [] = refl
spent_ended p b (x ∷ r) = tt

spent_bind : {A : Type 0} (o : Out A) (k : A → List ℕ → Out Body) → ((a : A) (r : List ℕ) → Spent (k a r)) → Spent (bind o k)
spent_bind (bad n p) k h = tt
spent_bind (good a r) k h = h a r

spent_body : (p : Plan) (at : ℕ) (bs : List ℕ) → Spent (read_body p at bs)
unfolding read_body
spent_body (just f) at bs = spent_bind (read f at bs) _ (λ cs r. spent_ended _ (plain cs) r)
spent_body (free f) at bs = spent_bind (read f at bs) _ (λ cs r. refl)
spent_body (many f g) at bs =
    spent_bind (read f at bs) _ (λ cs r. refuse_case Spent 5 (at + length (join cs)) _ (ltb (length r) 2) tt (λ e. spent_bind (read_n g _ _ (drop 2 r)) _ (λ its q. spent_ended _ (listed cs its) q)))

fault_spent : {A : Type 0} (o : Out Body) (k : Body → A) (q : List ℕ) → Spent o → fault_of o ≡ fault_number (bind o (λ b r. good (k b) q))
fault_spent (bad n p) k q h = refl
fault_spent (good b r) k q h = rw h

-- 3 is the number of a layout that has it
type-body : (st : St) (l : Layout) (vs : List Value) (t : Tail) → or_else (type_refusal l) (body_refusal (plan st l) vs t) ≡ body_refusal (plan st l) vs t
unfolding plan body_refusal refusal
type-body st (refuse n b) vs t = go (eqb n 3) refl
  where
    go : (u : Bool) → eqb n 3 ≡ u → or_else (cond u 3 0) (or_else n (refusal (end 0) vs)) ≡ or_else n (refusal (end 0) vs)
    go true e = rw (eqb-true n 3 e)
    go false e = refl
type-body st (fields f) vs t = refl
type-body st (unread f) vs t = refl
type-body st (table f g) vs t = refl
type-body st (entries f g) vs t = refl

module _ (layout : ℕ → ℕ → Layout) where
  -- the same of a record, wherever it stands and whatever follows
  pub refuses_record : (st : St) (at : ℕ) (g : Given) (q : List ℕ) → Placed layout st g → record_refusal layout st g ≡ fault_number (read_rec layout st at (octets g ++ q))
  unfolding fields_refusal record_refusal octets
  refuses_record st at g q h =
      let m : List ℕ = message g in
      let r : Rec = record { stamp = g.stamp; type = g.type; sub = g.sub; body = plain [] } in
      let p : Plan = plan st (layout g.type g.sub) in
      let e : octets g ++ q ≡ join (head r (length m)) ++ (m ++ q) = simp append_assoc in
      rw (e, read-message layout st at r m q h.stamp h.type h.sub h.size)
      (rw (zero_large 4 g.stamp h.stamp, zero_large 2 g.type h.type, zero_large 2 g.sub h.sub, zero_large 4 (length m) h.size, type-body st (layout g.type g.sub) g.values g.tail)
      (sym (or_else_none (body_refusal p g.values g.tail))
      ∙ refuses_as_reader p (at + 12) g.values g.tail h.fit h.aligned ∙ fault_spent (read_body p (at + 12) m) _ q (spent_body p (at + 12) m)))
