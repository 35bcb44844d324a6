-- A sequence's first octet: the check says of it what the grammar's rows say.
use mathlib.Core.Path.{◌≡◌, refl}
use mathlib.Core.Bool.{Bool, true, false, cond}
use mathlib.Core.List.{List, [], ◌∷◌, map}
use mathlib.Core.Logic.{inl, inr}
use Prim.Native.Nat.{ℕ, suc, ◌+◌, ◌-◌, ◌≤◌, ◌<◌}
use native.Mathlib.Omega.{arith}
use lib.ListN.{length}
use lib.Dec.{eqb}
use lib.Count.{count_leading_zeros}
use borrow.Author.Tests.{eqb-true}
use Rattle.form_spec.specs.Words.{choose, in_range}
use Rattle.text_spec.specs.declared.Start.{Start}
use Rattle.std.specs.Prelude.{Option, Some, None}
use Rattle.text_spec.specs.Grammar.{Range, to, tails, forms, Row, OneOf}
use Rattle.text_spec.specs.Check.{least, most, follow, start_of}
use Rattle.form_laws.proofs.Range.{bounds, up_to}
use Rattle.text_laws.proofs.Behind.{behind}
use Rattle.text_laws.proofs.Finite.{both, left, right, below, at}

-- ---- a row by its first octet's range, how many octets follow it, and the range of the next

pub record Lead : Type 0 where
  pub first : Range
  pub more : ℕ
  pub next : Range

abbrev pub row : Lead → List Range
row l = l.first ∷ behind l.more l.next

abbrev pub says : Lead → Option Start
says l = follow l.more l.next.low l.next.high

abbrev pub lead_of : List Range → Lead
lead_of [] = record { first = tails; more = 0; next = tails }
lead_of (f ∷ []) = record { first = f; more = 0; next = tails }
lead_of (f ∷ r ∷ rs) = record { first = f; more = suc (length rs); next = r }

abbrev pub leads : List Lead
leads = map lead_of forms

-- every form is such a row
pub rows_are_forms : map row leads ≡ forms
rows_are_forms = refl

-- no form is empty
some_row : (ls : List Lead) → OneOf (map row ls) [] → ⊥
some_row [] h = h
some_row (l ∷ ls) (inl h) = h
some_row (l ∷ ls) (inr h) = some_row ls h

pub form_some : OneOf forms [] → ⊥
form_some = some_row leads

-- ---- two answers, compared

abbrev same : Option Start → Option Start → Bool
same (Some s) (Some t) = both (eqb s.more t.more) (both (eqb s.low t.low) (eqb s.high t.high))
same (Some s) None = false
same None (Some t) = false
same None None = true

same_true : (s t : Option Start) → same s t ≡ true → s ≡ t
same_true (Some s) (Some t) e =
    let r = right (eqb s.more t.more) (both (eqb s.low t.low) (eqb s.high t.high)) e in
    let p : s.more ≡ t.more = eqb-true s.more t.more (left (eqb s.more t.more) (both (eqb s.low t.low) (eqb s.high t.high)) e) in
    let q : s.low ≡ t.low = eqb-true s.low t.low (left (eqb s.low t.low) (eqb s.high t.high) r) in
    let h : s.high ≡ t.high = eqb-true s.high t.high (right (eqb s.low t.low) (eqb s.high t.high) r) in
    let f : follow s.more s.low s.high ≡ follow t.more t.low t.high = rw (p, q, h) in
    f
same_true (Some s) None e = cc
same_true None (Some t) e = cc
same_true None None e = refl

-- ---- an octet that starts a row is answered by that row

agrees : Lead → Bool
agrees l = below (λ (k : ℕ). same (start_of (l.first.low + k)) (says l)) (suc l.first.high - l.first.low)

all_agree : List Lead → Bool
all_agree [] = true
all_agree (l ∷ ls) = both (agrees l) (all_agree ls)

leads_agree : all_agree leads ≡ true
unfolding all_agree agrees start_of least most choose count_leading_zeros
leads_agree = refl

agreed : (l : Lead) → agrees l ≡ true → (x : ℕ) → l.first.low ≤ x → x ≤ l.first.high → start_of x ≡ says l
unfolding agrees
agreed l e x p q =
    let low : ℕ = l.first.low in
    let s : low + (x - low) ≡ x = omega arith in
    let t = at (λ (k : ℕ). same (start_of (low + k)) (says l)) (suc l.first.high - low) e (x - low) (omega arith) in
    same_true (start_of x) (says l) (rw s at t)

-- what the check answers for the first octet of a form, and the other octets in the ranges that it answers
pub record Answered (x : ℕ) (c : List ℕ) : Type 0 where
  pub more : ℕ
  pub next : Range
  pub start : start_of x ≡ follow more next.low next.high
  pub others : Row (behind more next) c

answered_in : (ls : List Lead) → all_agree ls ≡ true → (x : ℕ) (c : List ℕ) → OneOf (map row ls) (x ∷ c) → Answered x c
unfolding all_agree
answered_in [] e x c h = absurd h
answered_in (l ∷ ls) e x c (inl h) =
    record { more = l.more; next = l.next; start = agreed l (left (agrees l) (all_agree ls) e) x h.0 h.1; others = h.2 }
answered_in (l ∷ ls) e x c (inr h) = answered_in ls (right (agrees l) (all_agree ls) e) x c h

pub form_answered : (x : ℕ) (c : List ℕ) → OneOf forms (x ∷ c) → Answered x c
form_answered = answered_in leads leads_agree

-- ---- what the check answers, a row has said

-- the octets that such an answer lets follow x make a form with it
abbrev pub Led : List (List Range) → ℕ → Option Start → Type 0
Led fs x (Some s) = (c : List ℕ) → Row (behind s.more (to s.low s.high)) c → OneOf fs (x ∷ c)
Led fs x None = Unit

-- the first of these rows that the octet may start
told : List Lead → ℕ → Option Start
told [] x = None
told (l ∷ ls) x = cond (in_range l.first.low x l.first.high) (says l) (told ls x)

all_told : below (λ (x : ℕ). same (start_of x) (told leads x)) 256 ≡ true
unfolding told start_of least most choose count_leading_zeros in_range
all_told = refl

-- no octet
beyond : (x : ℕ) → 255 < x → start_of x ≡ None
unfolding start_of choose count_leading_zeros
beyond x h = let z : 255 - x ≡ 0 = omega arith in rw z

led_more : (f : List Range) (fs : List (List Range)) (x : ℕ) (s : Option Start) → Led fs x s → Led (f ∷ fs) x s
led_more f fs x (Some s) h = λ c r. inr (h c r)
led_more f fs x None h = tt

told_led : (ls : List Lead) (x : ℕ) → Led (map row ls) x (told ls x)
unfolding told
told_led [] x = tt
told_led (l ∷ ls) x = go (in_range l.first.low x l.first.high) refl (told_led ls x)
  where
    go : (t : Bool) → in_range l.first.low x l.first.high ≡ t → Led (map row ls) x (told ls x) → Led (map row (l ∷ ls)) x (cond t (says l) (told ls x))
    go true e h = λ c r. let b = bounds l.first.low x l.first.high e in inl (b.0, b.1, r)
    go false e h = led_more (row l) (map row ls) x (told ls x) h

-- the check's answers let nothing but forms pass
pub answer_led : (x : ℕ) → Led forms x (start_of x)
answer_led x =
    up_to x 255
    (λ h.
    let s : start_of x ≡ told leads x = same_true _ _ (at (λ (k : ℕ). same (start_of k) (told leads k)) 256 all_told x (omega arith)) in
    rw s (told_led leads x))
    (λ h. rw (beyond x h) tt)
