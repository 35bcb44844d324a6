-- Where octets stand changes only a fault's place: what is found a octets further on is the same, its place a further on.
use mathlib.Core.Path.{◌≡◌, refl, subst}
use mathlib.Core.Bool.{Bool, true, false}
use mathlib.Core.List.{List, [], ◌∷◌}
use Prim.Native.Nat.{ℕ, zero, suc, ◌+◌, ◌-◌, ◌≤◌}
use native.Mathlib.Omega.{arith}
use lib.ListN.{length, take, drop, length-append}
use lib.Seq.{length-take-le}
use lib.Dec.{ltb}
use borrow.Author.Tests.{ltb-false}
use Rattle.form_spec.specs.Octets.{be}
use Rattle.form_spec.specs.Fmt.{Out, bad, good, bind, refuse_if, Fmt, end, test, field, read, join, over_at}
use Rattle.form_spec.specs.Words.{checked}
use Rattle.form_spec.specs.Body.{read_n, Plan, just, free, many, Body, ended, read_body}
use Rattle.form_spec.specs.Shape.{Layout, refuse, fields, unread, table, entries, St, no_table, with_peers, plan, number}
use Rattle.form_spec.specs.Record.{header, read_rec}
use Rattle.form_spec.specs.Put.{fault_of}

-- ---- places that stay inside the record

-- a format behind i octets of its record places no fault before them
unfoldable pub Inside : Fmt → (i : ℕ) → Type 0
Inside (end b) i = b ≤ i
Inside (test n b f) i = (b ≤ i) × Inside f i
Inside (field x l b k) i = (b ≤ i) × ((c : List ℕ) → Inside (k c) (i + l))

-- an item places none before itself
abbrev pub InsideBody : Plan → (i : ℕ) → Type 0
InsideBody (just f) i = Inside f i
InsideBody (free f) i = Inside f i
InsideBody (many f g) i = Inside f i × Inside g 0

-- a message has its header's 12 octets before it, and what follows an entry's index has 2
unfoldable pub InsideLayout : Layout → Type 0
InsideLayout (refuse n b) = b ≤ 12
InsideLayout (fields f) = Inside f 12
InsideLayout (unread f) = Inside f 12
InsideLayout (table f g) = Inside f 12 × Inside g 0
InsideLayout (entries f g) = Inside f 12 × Inside g 2

inside-plan : (st : St) (l : Layout) → InsideLayout l → InsideBody (plan st l) 12
unfolding plan Inside InsideLayout checked
inside-plan st (refuse n b) h = (h, omega arith)
inside-plan st (fields f) h = h
inside-plan st (unread f) h = h
inside-plan st (table f g) h = h
inside-plan no_table (entries f g) h = (omega arith, omega arith)
inside-plan (with_peers ns) (entries f g) h = (h.0, (omega arith, λ c. (omega arith, h.1)))

-- so what is left over behind a format's fields is placed behind the record's start too
abbrev Over : ℕ → Fmt → Out (List (List ℕ)) → Type 0
Over i f (bad n p) = Unit
Over i f (good cs r) = over_at f cs ≤ i + length (join cs)

over_refuse : (i : ℕ) (f : Fmt) (t : Bool) (n p : ℕ) (o : Out (List (List ℕ))) → (t ≡ false → Over i f o) → Over i f (refuse_if t n p o)
over_refuse i f true n p o h = tt
over_refuse i f false n p o h = h refl

over_test : (i n b : ℕ) (f : Fmt) (o : Out (List (List ℕ))) → Over i f o → Over i (test n b f) o
unfolding over_at
over_test i n b f (bad m p) h = tt
over_test i n b f (good cs r) h = h

over_field : (i x l b : ℕ) (k : List ℕ → Fmt) (c : List ℕ) (o : Out (List (List ℕ))) → length c ≡ l → Over (i + l) (k c) o → Over i (field x l b k) (bind o (λ cs r. good (c ∷ cs) r))
unfolding over_at
over_field i x l b k c (bad n p) e h = tt
over_field i x l b k c (good cs r) e h = rw (length-append, e) (omega arith)

over_read : (f : Fmt) (i at : ℕ) (bs : List ℕ) → Inside f i → Over i f (read f at bs)
unfolding Inside read over_at
over_read (end b) i at bs h = omega arith
over_read (test zero b f) i at bs h = over_test i zero b f (read f at bs) (over_read f i at bs h.1)
over_read (test (suc n) b f) i at bs h = tt
over_read (field x l b k) i at bs h =
    let c : List ℕ = take l bs in
    let o : Out (List (List ℕ)) = read (k c) (at + l) (drop l bs) in
    let next : Over (i + l) (k c) o = over_read (k c) (i + l) (at + l) (drop l bs) (h.1 c) in
    over_refuse i (field x l b k) (ltb (length bs) l) 5 (at - b) _ (λ t. over_field i x l b k c o (length-take-le l bs (ltb-false _ _ t)) next)

-- ---- the law

-- two findings, the first of them a octets further on; the places need what I says
abbrev pub Moved : {A : Type 0} → (a : ℕ) → (I : Type 0) → Out A → Out A → Type 0
Moved a I (bad n p) (bad m q) = (n ≡ m) × (I → p ≡ a + q)
Moved a I (bad n p) (good y s) = ⊥
Moved a I (good x r) (bad m q) = ⊥
Moved a I (good x r) (good y s) = (x ≡ y) × (r ≡ s)

-- the numbers do not need it
pub moved-fault : {A : Type 0} (a : ℕ) (I : Type 0) (o u : Out A) → Moved a I o u → fault_of o ≡ fault_of u
moved-fault a I (bad n p) (bad m q) h = h.0
moved-fault a I (good x r) (good y s) h = rw h.1
moved-fault {A = A} a I (bad n p) (good y s) h = elim h [ ]
moved-fault {A = A} a I (good x r) (bad m q) h = elim h [ ]

abbrev pub moved : {A : Type 0} → ℕ → Out A → Out A
moved a (bad n p) = bad n (a + p)
moved a (good x r) = good x r

-- where the places stay inside, one is the other moved
pub is_moved : {A : Type 0} (a : ℕ) (I : Type 0) (o u : Out A) → Moved a I o u → I → o ≡ moved a u
is_moved a I (bad n p) (bad m q) h i = rw (h.0, h.1 i)
is_moved a I (good x r) (good y s) h i = rw (h.0, h.1)
is_moved {A = A} a I (bad n p) (good y s) h i = elim h [ ]
is_moved {A = A} a I (good x r) (bad m q) h i = elim h [ ]

module _ (a : ℕ) where
  moved_if : {A : Type 0} (I J : Type 0) (o u : Out A) → (I → J) → Moved a J o u → Moved a I o u
  moved_if I J (bad n p) (bad m q) f h = (h.0, λ i. h.1 (f i))
  moved_if I J (good x r) (good y s) f h = h
  moved_if {A = A} I J (bad n p) (good y s) f h = elim h [ ]
  moved_if {A = A} I J (good x r) (bad m q) f h = elim h [ ]

  moved-bind : {A B : Type 0} (I : Type 0) (o u : Out A) (k j : A → List ℕ → Out B) → Moved a I o u → ((x : A) (r : List ℕ) → u ≡ good x r → Moved a I (k x r) (j x r))
      → Moved a I (bind o k) (bind u j)
  moved-bind I (bad n p) (bad m q) k j e h = e
  moved-bind I (good x r) (good y s) k j e h = rw (e.0, e.1) (h y s refl)
  moved-bind {A = A} {B = B} I (bad n p) (good y s) k j e h = elim e [ ]
  moved-bind {A = A} {B = B} I (good x r) (bad m q) k j e h = elim e [ ]

  moved_refuse : {A : Type 0} (I : Type 0) (t : Bool) (n p q : ℕ) (o u : Out A) → (I → p ≡ a + q) → Moved a I o u → Moved a I (refuse_if t n p o) (refuse_if t n q u)
  moved_refuse I true n p q o u e h = (refl, e)
  moved_refuse I false n p q o u e h = h

  moved-ended : (I : Type 0) (p q : ℕ) (y : Body) (r : List ℕ) → (I → p ≡ a + q) → Moved a I (ended p y r) (ended q y r)
  moved-ended I p q y [] e = (refl, refl)
  moved-ended I p q y (x ∷ r) e = (refl, e)

  -- at c, which is a octets behind b, where i octets of the record are read
  pub moved-read : (f : Fmt) (i b c : ℕ) (bs : List ℕ) → i ≤ b → c ≡ a + b → Moved a (Inside f i) (read f c bs) (read f b bs)
  unfolding Inside read
  moved-read (end k) i b c bs g e = (refl, refl)
  moved-read (test zero k f) i b c bs g e = moved_if _ (Inside f i) (read f c bs) (read f b bs) (λ h. h.1) (moved-read f i b c bs g e)
  moved-read (test (suc n) k f) i b c bs g e = (refl, λ h. omega (arith, h.0))
  moved-read (field x l k f) i b c bs g e =
      let d : List ℕ = take l bs in
      let o : Out (List (List ℕ)) = read (f d) (c + l) (drop l bs) in
      let u : Out (List (List ℕ)) = read (f d) (b + l) (drop l bs) in
      let next : Moved a (Inside (f d) (i + l)) o u = moved-read (f d) (i + l) (b + l) (c + l) (drop l bs) (omega arith) (omega arith) in
      moved_refuse _ (ltb (length bs) l) 5 (c - k) (b - k) _ _ (λ h. omega (arith, h.0))
      (moved-bind _ o u _ _ (moved_if _ (Inside (f d) (i + l)) o u (λ h. h.1 d) next) (λ cs r z. (refl, refl)))

  pub moved-items : (f : Fmt) (n b c : ℕ) (bs : List ℕ) → c ≡ a + b → Moved a (Inside f 0) (read_n f n c bs) (read_n f n b bs)
  unfolding read_n
  moved-items f zero b c bs e = (refl, refl)
  moved-items f (suc n) b c bs e =
      moved-bind _ (read f c bs) (read f b bs) _ _ (moved-read f 0 b c bs (omega arith) e)
      (λ cs r z.
      let l : ℕ = length (join cs) in
      moved-bind _ (read_n f n (c + l) r) (read_n f n (b + l) r) _ _ (moved-items f n (b + l) (c + l) r (omega arith)) (λ its q y. (refl, refl)))

  pub moved-body : (l : Plan) (i b c : ℕ) (bs : List ℕ) → i ≤ b → c ≡ a + b → Moved a (InsideBody l i) (read_body l c bs) (read_body l b bs)
  unfolding read_body
  moved-body (just f) i b c bs g e =
      moved-bind _ (read f c bs) (read f b bs) _ _ (moved-read f i b c bs g e)
      (λ cs r z. moved-ended _ _ _ _ r (λ h. let v : over_at f cs ≤ i + length (join cs) = subst (Over i f) z (over_read f i b bs h) in omega arith))
  moved-body (free f) i b c bs g e = moved-bind _ (read f c bs) (read f b bs) _ _ (moved-read f i b c bs g e) (λ cs r z. (refl, refl))
  moved-body (many f g) i b c bs h e =
      moved-bind _ (read f c bs) (read f b bs) _ _ (moved_if _ (Inside f i) (read f c bs) (read f b bs) (λ v. v.0) (moved-read f i b c bs h e))
      (λ cs r z.
      let l : ℕ = length (join cs) in
      let o : Out (List (List (List ℕ))) = read_n g (be (take 2 r)) (c + l + 2) (drop 2 r) in
      let u : Out (List (List (List ℕ))) = read_n g (be (take 2 r)) (b + l + 2) (drop 2 r) in
      let next : Moved a (Inside g 0) o u = moved-items g (be (take 2 r)) (b + l + 2) (c + l + 2) (drop 2 r) (omega arith) in
      moved_refuse _ (ltb (length r) 2) 5 _ _ _ _ (λ v. omega arith)
      (moved-bind _ o u _ _ (moved_if _ (Inside g 0) o u (λ v. v.1) next) (λ its q y. moved-ended _ _ _ _ q (λ v. omega arith))))

-- a record whose places stay inside it
module _ (layout : ℕ → ℕ → Layout) (inside : (y u : ℕ) → InsideLayout (layout y u)) where
  moved-message : (st : St) (y u a b : ℕ) (m : List ℕ) → Moved a Unit (read_body (plan st (layout y u)) (a + b + 12) m) (read_body (plan st (layout y u)) (b + 12) m)
  moved-message st y u a b m =
      let p : Plan = plan st (layout y u) in
      moved_if a Unit (InsideBody p 12) (read_body p (a + b + 12) m) (read_body p (b + 12) m) (λ i. inside-plan st (layout y u) (inside y u))
      (moved-body a p 12 (b + 12) (a + b + 12) m (omega arith) (omega arith))

  pub moved_record : (st : St) (a b : ℕ) (d : List ℕ) → read_rec layout st (a + b) d ≡ moved a (read_rec layout st b d)
  unfolding read_rec Inside
  moved_record st a b d =
      let o : Out (List (List ℕ)) = read header (a + b) d in
      let u : Out (List (List ℕ)) = read header b d in
      let headed : Moved a Unit o u = moved_if a Unit (Inside header 0) o u (λ i. omega arith) (moved-read a header 0 b (a + b) d (omega arith) refl) in
      is_moved a Unit (read_rec layout st (a + b) d) (read_rec layout st b d)
      (moved_refuse a Unit (ltb (length d) 12) 1 (a + b) b _ _ (λ i. refl)
      (moved-bind a Unit o u _ _ headed
      (λ cs m z.
      let p : Plan = plan st (layout (number 1 cs) (number 2 cs)) in
      let x : List ℕ = take (number 3 cs) m in
      moved_refuse a Unit (ltb (length m) (number 3 cs)) 2 (a + b) b _ _ (λ i. refl)
      (moved-bind a Unit (read_body p (a + b + 12) x) (read_body p (b + 12) x) _ _ (moved-message st (number 1 cs) (number 2 cs) a b x) (λ y q v. (refl, refl))))))
      tt
