-- The grammar's forms are just the spellings of scalar values.
use mathlib.Core.Path.{◌≡◌, ◌∙◌}
use mathlib.Core.List.{List, [], ◌∷◌}
use mathlib.Core.Logic.{inl, inr}
use Prim.Native.Nat.{ℕ, zero, suc, ◌+◌, ◌*◌, ◌-◌, ◌/◌, ◌≤◌, ◌<◌}
use native.Mathlib.Omega.{arith}
use Rattle.form_spec.specs.Words.{◌$◌}
use Rattle.text_spec.specs.Text.{Scalar, tail, spell}
use Rattle.text_spec.specs.Grammar.{Range, forms, Row, OneOf}
use Rattle.form_laws.proofs.Range.{up_to}
use Rattle.text_laws.proofs.Sizes.{spell_1, spell_2, spell_3, spell_4}

-- ---- what holds of every form

-- of octets, each in its range
abbrev Each : List Range → (List ℕ → Type 0) → Type 0
Each [] P = P []
Each (r ∷ rs) P = (x : ℕ) → r.low ≤ x → x ≤ r.high → Each rs (λ c. P (x ∷ c))

each : (rs : List Range) (P : List ℕ → Type 0) → Each rs P → (c : List ℕ) → Row rs c → P c
each [] P f [] h = f
each [] P f (x ∷ c) h = absurd h
each (r ∷ rs) P f [] h = absurd h
each (r ∷ rs) P f (x ∷ c) h = each rs (λ c. P (x ∷ c)) (f x h.0 h.1) c h.2

-- of octets of each of these forms
abbrev Every : List (List Range) → (List ℕ → Type 0) → Type 0
Every [] P = Unit
Every (f ∷ fs) P = Each f P × Every fs P

infixr 2 ◌&◌
abbrev ◌&◌ : {A B : Type 0} → A → B → A × B
a & b = (a, b)

every : (fs : List (List Range)) (P : List ℕ → Type 0) → Every fs P → (c : List ℕ) → OneOf fs c → P c
every [] P p c h = absurd h
every (f ∷ fs) P p c (inl h) = each f P p.0 c h
every (f ∷ fs) P p c (inr h) = every fs P p.1 c h

-- ---- a form spells a scalar value

pub record Valued (c : List ℕ) : Type 0 where
  pub value : ℕ
  pub scalar : Scalar value
  pub octets : spell value ≡ c

-- six bits more
abbrev pub more : ℕ → ℕ → ℕ
more v y = v * 64 + (y - 128)

abbrev Tail : ℕ → Type 0
Tail y = (128 ≤ y) × (y ≤ 191)

one : (x : ℕ) → x ≤ 127 → Valued (x ∷ [])
one x h = record { value = x; scalar = inl (omega arith); octets = spell_1 x h }

two : (x y : ℕ) → (194 ≤ x) × (x ≤ 223) × Tail y → Valued (x ∷ y ∷ [])
two x y h =
    let u : ℕ = more (x - 192) y in
    let a : 192 + u / 64 ≡ x = omega arith in
    let b : tail u ≡ y = omega arith in
    record { value = u; scalar = inl (omega arith); octets = spell_2 u (omega arith) (omega arith) ∙ rw (a, b) }

three : (x y z : ℕ) → let u : ℕ = more (more (x - 224) y) z in
    (224 ≤ x) × (x ≤ 239) × Tail y × Tail z × (2047 < u) → Scalar u → Valued (x ∷ y ∷ z ∷ [])
three x y z h s =
    let u : ℕ = more (more (x - 224) y) z in
    let a : 224 + u / 4096 ≡ x = omega arith in
    let b : tail (u / 64) ≡ y = omega arith in
    let c : tail u ≡ z = omega arith in
    record { value = u; scalar = s; octets = spell_3 u h.4 (omega arith) ∙ rw (a, b, c) }

four : (x y z w : ℕ) → let u : ℕ = more (more (more (x - 240) y) z) w in
    (240 ≤ x) × (x ≤ 244) × Tail y × Tail z × Tail w × (65535 < u) × (u ≤ 1114111) → Valued (x ∷ y ∷ z ∷ w ∷ [])
four x y z w h =
    let u : ℕ = more (more (more (x - 240) y) z) w in
    let a : 240 + u / 262144 ≡ x = omega arith in
    let b : tail (u / 4096) ≡ y = omega arith in
    let c : tail (u / 64) ≡ z = omega arith in
    let d : tail u ≡ w = omega arith in
    record { value = u; scalar = inr (omega arith); octets = spell_4 u h.5 ∙ rw (a, b, c, d) }

-- row by row
pub form_valued : (c : List ℕ) → OneOf forms c → Valued c
form_valued =
    every forms Valued
    $ (λ x p q. one x q)
    & (λ x p q y r s. two x y (omega arith))
    & (λ x p q y r s z t v. three x y z (omega arith) (inl (omega arith)))
    & (λ x p q y r s z t v. three x y z (omega arith) (inl (omega arith)))
    & (λ x p q y r s z t v. three x y z (omega arith) (inl (omega arith)))
    & (λ x p q y r s z t v. three x y z (omega arith) (inr (omega arith)))
    & (λ x p q y r s z t v w i j. four x y z w (omega arith))
    & (λ x p q y r s z t v w i j. four x y z w (omega arith))
    & (λ x p q y r s z t v w i j. four x y z w (omega arith))
    & tt

-- ---- a scalar value's spelling is a form

-- the form of that number
abbrev At : List (List Range) → ℕ → List ℕ → Type 0
At [] i c = ⊥
At (f ∷ fs) zero c = Row f c
At (f ∷ fs) (suc i) c = At fs i c

one_of : (fs : List (List Range)) (i : ℕ) (c : List ℕ) → At fs i c → OneOf fs c
one_of [] i c h = h
one_of (f ∷ fs) zero c h = inl h
one_of (f ∷ fs) (suc i) c h = inr (one_of fs i c h)

formed : {c d : List ℕ} → d ≡ c → (i : ℕ) → At forms i c → OneOf forms d
formed {c} e i h = rw e (one_of forms i c h)

-- no surrogate
beyond : (u : ℕ) → Scalar u → 55295 < u → (57344 ≤ u) × (u ≤ 1114111)
beyond u (inl h) l = absurd (omega arith)
beyond u (inr h) l = h

pub value-formed : (u : ℕ) → Scalar u → OneOf forms (spell u)
value-formed u s =
    up_to u 127 (λ h. formed (spell_1 u h) 0 (omega arith)) λ l.
    up_to u 2047 (λ h. formed (spell_2 u l h) 1 (omega arith)) λ m.
    up_to u 65535 (λ h. three m h) λ n.
    four n (beyond u s (omega arith))
  where
    three : 2047 < u → u ≤ 65535 → OneOf forms (spell u)
    three m h =
        let e = spell_3 u m h in
        up_to u 4095 (λ a. formed e 2 (omega arith)) λ a.
        up_to u 53247 (λ b. formed e 3 (omega arith)) λ b.
        up_to u 55295 (λ c. formed e 4 (omega arith)) λ c.
        let g = beyond u s c in
        formed e 5 (omega arith)

    four : 65535 < u → (57344 ≤ u) × (u ≤ 1114111) → OneOf forms (spell u)
    four n g =
        let e = spell_4 u n in
        up_to u 262143 (λ a. formed e 6 (omega arith)) λ a.
        up_to u 1048575 (λ b. formed e 7 (omega arith)) λ b.
        formed e 8 (omega arith)
