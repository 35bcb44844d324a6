-- Types 16 and 17: what is shown are the record's fields.
use mathlib.Core.Path.{◌≡◌, refl, sym, ap, ◌∙◌}
use mathlib.Core.Bool.{Bool, true, false, cond}
use mathlib.Core.List.{List, [], ◌∷◌, ◌++◌, append_assoc}
use Prim.Native.Nat.{ℕ, ◌+◌, ◌-◌, ◌≤◌}
use native.Mathlib.Omega.{arith}
use lib.ListN.{length, take, drop, length-append}
use native.Mathlib.Nat.{add_assoc}
use lib.Seq.{take-add, drop-drop, take_at, drop_at}
use lib.Dec.{eqb, leb}
use borrow.Author.Tests.{leb-true}
use Rattle.form_spec.specs.Octets.{be}
use Rattle.form_spec.specs.Fmt.{Fmt}
use Rattle.form_spec.specs.Words as words
use Rattle.form_spec.specs.Words.{num, skip, checked, must, area, fail}
use Rattle.form_spec.specs.Pass.{Seen, number_of, place_of}
use Rattle.form_spec.specs.Put.{Value, lay}
use Rattle.form_spec.specs.Gives.{Fit}
use Rattle.page_spec.specs.Names.{microseconds, peer_as, local_as, interface, family, old_state, new_state, marker, bgp_length}
use Rattle.page_spec.specs.Bgp4mp.{addresses, session, state, state_change, message, message_rest}
use Rattle.record_spec.specs.Fields as show
use Rattle.record_spec.specs.declared.Header.{Header}
use Rattle.record_spec.specs.Shown.{Shown}
use Rattle.record_spec.specs.Answer.{within}
use Rattle.write_spec.specs.Givens.{session_values, state_values, bgp_values}
use Rattle.record_spec.specs.Agrees.{Typed}
use Rattle.record_laws.proofs.Parts.{Lies, Parts, parts-choose, spells, below}

-- values that are written as those fields
abbrev pub Spells : List Value → List (List ℕ) → Type 0
Spells vs cs = Fit vs × (lay vs ≡ cs)

-- what a writer is given of the fields that were seen is written as they were read
abbrev pub WrittenAsRead : (s : List ℕ) (show : Header → List Seen → Shown) (values : List Seen → List Value) → List (List ℕ) → List Seen → Type 0
WrittenAsRead s show values cs fs = Spells (values fs) cs × (0 ≡ number_of microseconds fs) × ((h : Header) → Typed s (show h fs))

-- a session whose addresses have so many octets
abbrev sized : (w size : ℕ) → Fmt → Fmt
sized w size f = num peer_as w λ p. num local_as w λ l. num interface 2 λ i. num family 2 λ fam. addresses size f

parts-session : (s : List ℕ) (w : ℕ) (f : Fmt) (i : ℕ) (P : List (List ℕ) → List Seen → Type 0) → ((size : ℕ) → Parts s (sized w size f) i P) → Parts s (session w f) i P
unfolding Parts session num fail
parts-session s w f i P h =
    λ p hp l hl n hn a ha.
    parts-choose s (eqb (be a) 1) _ _ _ _ (λ e. h 4 p hp l hl n hn a ha)
    (λ d. parts-choose s (eqb (be a) 2) _ _ _ _ (λ e. h 16 p hp l hl n hn a ha) (λ e z. absurd (omega arith)))

module _ (s : List ℕ) (w : ℕ) where
  -- what the writer is given for the session, and for what follows it
  abbrev pub session_of : List Seen → List Value → List Value
  session_of fs vs =
      session_values w (number_of peer_as fs) (number_of local_as fs) (number_of interface fs) (number_of family fs) (within s (show.session fs).theirs) (within s (show.session fs).ours) vs

  abbrev pub change_of : List Seen → List Value
  change_of fs = session_of fs (state_values (number_of old_state fs) (number_of new_state fs))

  abbrev pub message_of : List Seen → List Value
  message_of fs = session_of fs (bgp_values (within s (record { at = place_of marker fs; size = number_of bgp_length fs })))

  pub change-parts : (i : ℕ) → Parts s (session w state_change) i (WrittenAsRead s show.change change_of)
  unfolding Parts num skip checked addresses state state_change
  change-parts i =
      parts-session s w state_change i _
      (λ size p hp l hl n hn a ha b hb c hc o ho ok v hv good. (
        ((below hp, (below hl, (below hn, (below ha, (tt, (tt, (below ho, (below hv, tt)))))))), rw (spells hp, spells hl, spells hn, spells ha, hb.here, hc.here, spells ho, spells hv)),
        refl,
        λ h. tt,
      ))

-- two parts, one behind the other
both : (s a b : List ℕ) (i p q : ℕ) → take p (drop i s) ≡ a → take q (drop (i + p) s) ≡ b → take (p + q) (drop i s) ≡ a ++ b
both s a b i p q e d = rw (take-add, drop-drop, e, d)

-- a BGP message is its four fields
message_here : {s k n y r : List ℕ} {i : ℕ} → Lies s i 16 k → Lies s (i + length k) 2 n → Lies s (i + length k + length n) 1 y → Lies s (i + length k + length n + length y) (be n - 19) r
    → 19 ≤ be n → take (be n) (drop i s) ≡ k ++ n ++ y ++ r
message_here {s} {k} {n} {y} {r} {i} hk hn hy hr h =
    let e : be n ≡ length k + length n + length y + length r = omega (arith, hk.size, hn.size, hy.size, hr.size) in
    let d : i + length k + length n + length y ≡ i + (length k + length n + length y) = omega arith in
    rw e
    (both s (k ++ n ++ y) r i (length k + length n + length y) (length r)
    (both s (k ++ n) y i (length k + length n) (length y) (both s k n i (length k) (length n) hk.here hn.here) (rw add_assoc at hy.here))
    (rw d at hr.here))

four : (k n y r : List ℕ) → length k ≡ 16 → length n ≡ 2 → length y ≡ 1 → lay (bgp_values (k ++ n ++ y ++ r)) ≡ k ∷ n ∷ y ∷ r ∷ []
four k n y r a b c =
    let x : List ℕ = k ++ (n ++ (y ++ r)) in
    let p : drop 16 x ≡ n ++ (y ++ r) = drop_at k _ 16 a in
    let q : drop 18 x ≡ y ++ r = sym (drop-drop 2 16 x) ∙ rw p (drop_at n (y ++ r) 2 b) in
    let z : drop 19 x ≡ r = sym (drop-drop 1 18 x) ∙ rw q (drop_at y r 1 c) in
    rw (append_assoc (k ++ n) y r, append_assoc k n (y ++ r), take_at k (n ++ (y ++ r)) 16 a, p, q, z, take_at n (y ++ r) 2 b, take_at y r 1 c)

third : (k n y r : List ℕ) → length k ≡ 16 → length n ≡ 2 → length y ≡ 1 → take 1 (drop 18 (k ++ n ++ y ++ r)) ≡ y
third k n y r a b c =
    let e : drop 18 (k ++ n ++ y ++ r) ≡ y ++ r = rw (append_assoc (k ++ n) y r) (drop_at (k ++ n) (y ++ r) 18 (rw (length-append, a, b))) in
    rw e (take_at y r 1 c)

long : (n longest : ℕ) → ◌≡◌ {A = ℕ} (cond (words.in_range 19 n longest) 0 10) 0 → 19 ≤ n
unfolding words.in_range
long n longest e = go (leb 19 n) (leb n longest) refl e
  where
    go : (t u : Bool) → leb 19 n ≡ t → ◌≡◌ {A = ℕ} (cond (cond t u false) 0 10) 0 → 19 ≤ n
    go true u p z = leb-true 19 n p
    go false u p z = absurd (omega arith)

pub message-parts : (s : List ℕ) (w longest i : ℕ) → Parts s (session w (message longest)) i (WrittenAsRead s show.message (message_of s w))
unfolding Parts num skip checked addresses message message_rest must area
message-parts s w longest i =
    parts-session s w (message longest) i _
    (λ size p hp l hl n hn a ha b hb c hc k hk x hx y hy ok r hr. (
      (
        (below hp, (below hl, (below hn, (below ha, (tt, (tt, (tt, (tt, (tt, (tt, tt)))))))))),
        rw (spells hp, spells hl, spells hn, spells ha, hb.here, hc.here, message_here hk hx hy hr (long (be x) longest ok), four k x y r hk.size hx.size hy.size),
      ),
      refl,
      λ h. rw (message_here hk hx hy hr (long (be x) longest ok)) (ap be (sym (third k x y r hk.size hx.size hy.size))),
    ))
