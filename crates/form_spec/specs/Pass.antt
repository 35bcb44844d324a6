-- A format as code goes through it, from offset i of m on. `to` gets the fields that have a name, the offset after the last and
-- the place of what is left over; `fault` a fault's number and place.
use Rattle.std.specs.Prelude.{cond, List, [], ◌∷◌, ℕ, zero, suc, ◌+◌, ◌-◌, length, take, drop, ltb, eqb}
use Rattle.form_spec.specs.Octets.{be}
use Rattle.form_spec.specs.Fmt.{Fmt, end, test, field}
use Rattle.form_spec.specs.Words.{choose, num}

-- a field that was read: where its octets lie, how many they are, and the number in them
pub record Seen : Type 0 where
  pub name : ℕ
  pub place : ℕ
  pub size : ℕ
  pub after : ℕ
  pub number : ℕ

abbrev pub note : (name place size after number : ℕ) → List Seen → List Seen
note zero p s a n fs = fs
note (suc x) p s a n fs = record { name = suc x; place = p; size = s; after = a; number = n } ∷ fs

-- by name
abbrev pub number_of : ℕ → List Seen → ℕ
number_of x [] = 0
number_of x (f ∷ fs) = cond (eqb x f.name) f.number (number_of x fs)

abbrev pub place_of : ℕ → List Seen → ℕ
place_of x [] = 0
place_of x (f ∷ fs) = cond (eqb x f.name) f.place (place_of x fs)

abbrev pub size_of : ℕ → List Seen → ℕ
size_of x [] = 0
size_of x (f ∷ fs) = cond (eqb x f.name) f.size (size_of x fs)

abbrev pub after_of : ℕ → List Seen → ℕ
after_of x [] = 0
after_of x (f ∷ fs) = cond (eqb x f.name) f.after (after_of x fs)

-- its octets
abbrev pub field_octets : ℕ → List ℕ → List Seen → List ℕ
field_octets x m fs = take (size_of x fs) (drop (place_of x fs) m)

unfoldable pub pass : {A : Type 0} → (List Seen → ℕ → ℕ → A) → (ℕ → ℕ → A) → Fmt → List ℕ → ℕ → A
pass to fault (end b) m i = to [] i (i - b)
pass to fault (test zero b f) m i = pass to fault f m i
pass to fault (test (suc n) b f) m i = fault (suc n) (i - b)
pass to fault (field x l b k) m i =
    cond (ltb (length m) (i + l)) (fault 5 (i - b)) (pass (λ fs. to (note x i l (i + l) (be (take l (drop i m))) fs)) fault (k (take l (drop i m))) m (i + l))

-- the whole of m from i on: 6 where something is left over
abbrev pub whole : {A : Type 0} → (List Seen → A) → (ℕ → ℕ → A) → Fmt → List ℕ → ℕ → A
whole to fault f m i = pass (λ fs a p. choose (ltb a (length m)) (fault 6 p) (to fs)) fault f m i

-- one format after another
infixr 5 ◌⨾◌
unfoldable pub ◌⨾◌ : Fmt → Fmt → Fmt
end b ⨾ g = g
test n b f ⨾ g = test n b (f ⨾ g)
field x l b k ⨾ g = field x l b (λ c. k c ⨾ g)

-- n items
unfoldable pub times : ℕ → Fmt → Fmt
times zero f = end 0
times (suc n) f = f ⨾ times n f

-- a count of two octets, and that many items
abbrev pub counted : ℕ → Fmt → Fmt
counted x f = num x 2 λ n. times n f
