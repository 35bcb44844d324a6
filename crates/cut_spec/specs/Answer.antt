-- What a cut answers, and what its buffer holds then (document 01, "Number and place of a fault": 14, then the dump's fault, then 15).
use Rattle.std.specs.Prelude.{◌≡◌, List, ℕ, ltb}
use Rattle.form_spec.specs.Words.{choose}
use Rattle.page_spec.specs.Layout.{layout}
use Rattle.walk_spec.specs.Walked.{walked}
use Rattle.cut_spec.specs.Cut.{cutting, cut}
use Rattle.room_spec.specs.Room.{written, holds, Answers}
use Rattle.room_spec.specs.Written.{Written}

-- what is left of the dump d; `longest` counts the octets of the longest BGP message
abbrev pub left_of : (longest from to : ℕ) (ms d : List ℕ) → List ℕ
left_of longest from to ms d = cut (layout longest) (cutting from to ms) d

-- the fault before anything is written: a window whose start is after its end, then the dump's
abbrev pub cut_fault : (longest from to : ℕ) (d : List ℕ) → ℕ
cut_fault longest from to d = choose (ltb to from) 14 (walked longest d).fault

abbrev pub cut_place : (longest from to : ℕ) (d : List ℕ) → ℕ
cut_place longest from to d = choose (ltb to from) 0 (walked longest d).place

-- the answer, and what the buffer, which was out, holds then: the window from `from` up to but not including `to`, the AS numbers ms muted
unfoldable pub cut_answer : (longest from to : ℕ) (ms d out : List ℕ) → Written
cut_answer longest from to ms d out = written (cut_fault longest from to d) (cut_place longest from to d) (left_of longest from to ms d) out

unfoldable pub cut_leaves : (longest from to : ℕ) (ms d out : List ℕ) → List ℕ
cut_leaves longest from to ms d out = holds (cut_fault longest from to d) (left_of longest from to ms d) out

-- the promise: the answer r, what the buffer holds, and the answer's number, place and count
abbrev pub Cuts : (longest from to : ℕ) (ms d out : List ℕ) (r : Written) (holding : List ℕ) → Type 0
Cuts longest from to ms d out r holding =
    (r ≡ cut_answer longest from to ms d out) × (holding ≡ cut_leaves longest from to ms d out)
    × Answers (cut_fault longest from to d) (cut_place longest from to d) (left_of longest from to ms d) out r
