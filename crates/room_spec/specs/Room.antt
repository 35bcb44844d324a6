-- Octets xs are to be written into lent room, out: what is answered, and what out holds then (document 01, "Number and place of a fault" and the
-- writer's paragraph). `fault` and `place` are those of what is written; a fault of 0 is none.
use Rattle.std.specs.Prelude.{List, ◌++◌, ℕ, zero, suc, ltb, length, drop, ◌≡◌}
use Rattle.form_spec.specs.Put.{or_else}
use Rattle.form_spec.specs.Words.{choose}
use Rattle.room_spec.specs.Answer as answer
use Rattle.room_spec.specs.Written.{Written, Octets}
use Rattle.form_spec.specs.Refusal.{refused}

-- the fault, then 15 where xs does not go into out; else as many octets as xs has
unfoldable pub written : (fault place : ℕ) (xs out : List ℕ) → Written
written zero p xs out = choose (ltb (length out) (length xs)) (refused 15 0) (Octets (length xs))
written (suc n) p xs out = refused (suc n) p

-- a refusal leaves out as it was; else it starts with xs, and the rest stays
unfoldable pub holds : (fault : ℕ) (xs out : List ℕ) → List ℕ
holds zero xs out = choose (ltb (length out) (length xs)) out (xs ++ drop (length xs) out)
holds (suc n) xs out = out

-- ---- the same by document 01's numbers

-- the number: the fault, then 15 where xs does not go into out
abbrev pub number_for : (fault : ℕ) (xs out : List ℕ) → ℕ
number_for n xs out = or_else n (choose (ltb (length out) (length xs)) 15 0)

-- the place is the fault's; 15 and success have 0
abbrev pub place_for : (fault place : ℕ) → ℕ
place_for zero p = 0
place_for (suc n) p = p

-- the octets written: none where a number is answered
abbrev pub count_for : (number : ℕ) (xs : List ℕ) → ℕ
count_for zero xs = length xs
count_for (suc n) xs = 0

abbrev pub Answers : (fault place : ℕ) (xs out : List ℕ) → Written → Type 0
Answers n p xs out r =
    (answer.fault r ≡ number_for n xs out) × (answer.place r ≡ place_for n p) × (answer.count r ≡ count_for (number_for n xs out) xs)
