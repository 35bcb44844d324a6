-- What the reader says of a BGP message is the number with which a writer refuses it.
use mathlib.Core.Path.{◌≡◌, refl, sym, ap, ◌∙◌}
use mathlib.Core.Bool.{Bool, true, false, cond}
use mathlib.Core.List.{List}
use Prim.Native.Nat.{ℕ, ◌+◌, ◌-◌, ◌≤◌, ◌<◌}
use native.Mathlib.Omega.{arith}
use lib.Dec.{ltb}
use lib.ListN.{length, take, drop, length-take, length-drop}
use borrow.Author.Tests.{lt-ltb, le-ltb, ltb-true, ltb-false}
use Rattle.form_spec.specs.Octets.{be}
use Rattle.form_spec.specs.Fmt.{end, test}
use Rattle.form_spec.specs.Pass.{Seen, note, pass, whole, place_of, number_of}
use Rattle.form_spec.specs.Put.{or_else, sized, refusal}
use Rattle.form_spec.specs.Words.{choose, num, skip, must, area, in_range}
use Rattle.page_spec.specs.Names.{marker, bgp_length, bgp_type, bgp_rest}
use Rattle.page_spec.specs.Bgp4mp.{message, message_rest}
use Rattle.record_spec.specs.Fields.{message_of}
use Rattle.record_spec.specs.declared.Header.{Header}
use Rattle.record_spec.specs.declared.Session.{Session}
use Rattle.record_spec.specs.Shown.{Shown}
use Rattle.write_spec.specs.Givens.{bgp_values}
use Rattle.record_spec.specs.Answer.{fault}
use Rattle.form_spec.specs.Refusal.{refused}
use Rattle.form_spec.specs.declared.Fault.{Fault}
use Rattle.std.specs.Prelude.{Option, Some, None, Ok, Err}
use Rattle.record_spec.specs.declared.Body.{Body}
use Rattle.record_spec.specs.declared.Body.TheVariants.{Message}
use Rattle.write_spec.specs.Judged.{judged}
use Rattle.write_laws.proofs.Judged.{whole_strict, by_number}

-- n is the number of the refusal, or 0
unfoldable Judged : ℕ → Shown → Type 0
Judged n x = fault x ≡ n

-- ---- the reader's number, by the message's length and its length field

abbrev ends : (long k : ℕ) → ℕ
ends long k = cond (ltb long (19 + k)) 5 (cond (ltb (19 + k) long) 6 0)

abbrev number : (longest long n : ℕ) → ℕ
number longest long n = cond (ltb long 16) 5 (cond (ltb long 18) 5 (cond (ltb long 19) 5 (cond (in_range 19 n longest) (ends long (n - 19)) 10)))

said : (k p : ℕ) → Judged k (refused k p)
unfolding Judged
said k p = refl

either : (b : Bool) (m n : ℕ) (x y : Shown) → Judged m x → Judged n y → Judged (cond b m n) (cond b x y)
either true m n x y p q = p
either false m n x y p q = q

-- behind the type octet: `to` is told where the message ends
rest : (to : List Seen → ℕ → ℕ → Shown) (longest n : ℕ) (b : List ℕ) → ((fs : List Seen) (a p : ℕ) → Judged (cond (ltb a (length b)) 6 0) (to fs a p))
    → Judged (cond (in_range 19 n longest) (ends (length b) (n - 19)) 10) (pass to refused (message_rest longest n) b 19)
unfolding pass message_rest must area
rest to longest n b h = go (in_range 19 n longest)
  where
    go : (w : Bool) → Judged (cond w (ends (length b) (n - 19)) 10) (pass to refused (test (cond w 0 10) 3 (area bgp_rest (n - 19) 3 (end (n - 16)))) b 19)
    go true = either (ltb (length b) (19 + (n - 19))) _ _ _ _ (said 5 _) (h _ (19 + (n - 19)) _)
    go false = said 10 _

last : (b : Bool) (p : ℕ) (h : Header) (s : Session) (fs : List Seen) → Judged (cond b 6 0) (choose b (refused 6 p) (message_of h s fs))
unfolding choose Judged
last true p h s fs = refl
last false p h s fs = refl

reader : (longest : ℕ) (h : Header) (s : Session) (b : List ℕ) → Judged (number longest (length b) (be (take 2 (drop 16 b)))) (whole (message_of h s) refused (message longest) b 0)
unfolding pass message num skip
reader longest h s b =
    let n : ℕ = be (take 2 (drop 16 b)) in
    let seen : List Seen → List Seen = λ fs. note marker 0 16 16 (be (take 16 b)) (note bgp_length 16 2 18 n (note bgp_type 18 1 19 (be (take 1 (drop 18 b))) fs)) in
    either (ltb (length b) 16) _ _ _ _ (said 5 _)
    (either (ltb (length b) 18) _ _ _ _ (said 5 _)
    (either (ltb (length b) 19) _ _ _ _ (said 5 _)
    (rest (λ fs a p. choose (ltb a (length b)) (refused 6 p) (message_of h s (seen fs))) longest n b (λ fs a p. last (ltb a (length b)) p h s (seen fs)))))

-- ---- the writer's

short : (w d : ℕ) (b : List ℕ) → d ≤ length b → length b < d + w → sized (length (take w (drop d b))) w ≡ 5
short w d b g h = let k : length (take w (drop d b)) < w = simp (length-take, length-drop) (omega arith) in rw (lt-ltb _ _ k)

there : (w d : ℕ) (b : List ℕ) → d + w ≤ length b → sized (length (take w (drop d b))) w ≡ 0
there w d b h =
    let k : w ≤ length (take w (drop d b)) = simp (length-take, length-drop) (omega arith) in
    let l : length (take w (drop d b)) ≤ w = simp (length-take, length-drop) (omega arith) in
    rw (le-ltb _ _ k, le-ltb _ _ l)

ending : (long k : ℕ) → 19 ≤ long → ends long k ≡ or_else (sized (long - 19) k) 0
ending long k h = go (ltb long (19 + k)) (ltb (19 + k) long) refl refl
  where
    go : (t u : Bool) → ltb long (19 + k) ≡ t → ltb (19 + k) long ≡ u → cond t 5 (cond u 6 0) ≡ or_else (sized (long - 19) k) 0
    go true u p q =
        let a = ltb-true long (19 + k) p in
        let s : long - 19 < k = omega arith in
        sym (rw (lt-ltb (long - 19) k s))
    go false true p q =
        let a = ltb-false long (19 + k) p in
        let b = ltb-true (19 + k) long q in
        let s : k ≤ long - 19 = omega arith in
        let r : k < long - 19 = omega arith in
        sym (rw (le-ltb (long - 19) k s, lt-ltb k (long - 19) r))
    go false false p q =
        let a = ltb-false long (19 + k) p in
        let b = ltb-false (19 + k) long q in
        let s : k ≤ long - 19 = omega arith in
        let r : long - 19 ≤ k = omega arith in
        sym (rw (le-ltb (long - 19) k s, le-ltb k (long - 19) r))

writes : (longest : ℕ) (b : List ℕ) → number longest (length b) (be (take 2 (drop 16 b))) ≡ refusal (message longest) (bgp_values b)
unfolding refusal message message_rest num skip must area
writes longest b = go (ltb (length b) 16) (ltb (length b) 18) (ltb (length b) 19) (in_range 19 n longest) refl refl refl
  where
    n : ℕ
    n = be (take 2 (drop 16 b))

    go : (t u v w : Bool) → ltb (length b) 16 ≡ t → ltb (length b) 18 ≡ u → ltb (length b) 19 ≡ v
        → cond t 5 (cond u 5 (cond v 5 (cond w (ends (length b) (n - 19)) 10)))
        ≡ or_else (sized (length (take 16 b)) 16) (or_else (sized (length (take 2 (drop 16 b))) 2) (or_else (sized (length (take 1 (drop 18 b))) 1) (or_else (cond w 0 10) (or_else (sized (length (drop 19 b)) (n - 19)) 0))))
    go true u v w p q r = sym (rw (short 16 0 b (omega arith) (ltb-true (length b) 16 p)))
    go false true v w p q r = sym (rw (there 16 0 b (ltb-false (length b) 16 p), short 2 16 b (ltb-false (length b) 16 p) (ltb-true (length b) 18 q)))
    go false false true w p q r =
        sym (rw (there 16 0 b (ltb-false (length b) 16 p), there 2 16 b (ltb-false (length b) 18 q), short 1 18 b (ltb-false (length b) 18 q) (ltb-true (length b) 19 r)))
    go false false false false p q r =
        sym (rw (there 16 0 b (ltb-false (length b) 16 p), there 2 16 b (ltb-false (length b) 18 q), there 1 18 b (ltb-false (length b) 19 r)))
    go false false false true p q r =
        let h = ltb-false (length b) 19 r in
        ending (length b) (n - 19) h
        ∙ sym (rw (there 16 0 b (ltb-false (length b) 16 p), there 2 16 b (ltb-false (length b) 18 q), there 1 18 b h, length-drop))

by_reader : (longest : ℕ) (h : Header) (s : Session) (b : List ℕ) (x : Shown) → x ≡ whole (message_of h s) refused (message longest) b 0 → fault x ≡ refusal (message longest) (bgp_values b)
unfolding Judged
by_reader longest h s b x e = ap fault e ∙ reader longest h s b ∙ writes longest b

-- a message that the reader refuses, and one that it shows
pub message_err : (longest : ℕ) (h : Header) (s : Session) (b : List ℕ) (why : Fault) → Err why ≡ whole (message_of h s) refused (message longest) b 0 → refused why.number 0 ≡ judged (refusal (message longest) (bgp_values b))
message_err longest h s b why e = by_number (Err why) strict ∙ ap judged (by_reader longest h s b (Err why) e)
  where
    strict : 0 < why.number
    strict = rw (← e) at (whole_strict {A = Option (Header × Body)} (λ fs. Some (h, Message s (record { message = record { at = place_of marker fs; size = number_of bgp_length fs }; kind = number_of bgp_type fs }))) (message longest) b 0)

pub message_ok : (longest : ℕ) (h : Header) (s : Session) (b : List ℕ) (x : Option (Header × Body)) → Ok x ≡ whole (message_of h s) refused (message longest) b 0 → Ok tt ≡ judged (refusal (message longest) (bgp_values b))
message_ok longest h s b x e = ap judged (unrefused x ∙ by_reader longest h s b (Ok x) e)
  where
    unrefused : (x : Option (Header × Body)) → 0 ≡ fault (Ok x)
    unrefused None = refl
    unrefused (Some y) = refl
