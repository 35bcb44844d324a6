-- The ways that a call answers for lent room, and when each is given.
use mathlib.Core.Path.{◌≡◌, refl, sym, ◌∙◌}
use mathlib.Core.Bool.{Bool, true, false}
use mathlib.Core.List.{List, ◌++◌}
use Prim.Native.Nat.{ℕ, zero, suc, ◌≤◌, ◌<◌}
use native.Mathlib.Nat.{zero-add}
use lib.Dec.{ltb}
use lib.ListN.{length, drop}
use borrow.Author.Tests.{lt-ltb, le-ltb}
use Rattle.form_spec.specs.Words.{choose}
use Rattle.octets_spec.specs.Over.{over}
use Rattle.room_spec.specs.Answer as answer
use Rattle.room_spec.specs.Room.{written, holds, Answers}
use Rattle.room_spec.specs.Written.{Written, Octets}
use Rattle.form_spec.specs.Refusal.{refused}
use Rattle.std.specs.Prelude.{Err}

-- laid over out from its first octet on
over_first : (out xs : List ℕ) → over out 0 xs ≡ xs ++ drop (length xs) out
unfolding over
over_first out xs = rw zero-add

-- without a fault there is no place
pub no_place : (p q : ℕ) (xs out : List ℕ) → written 0 p xs out ≡ written 0 q xs out
unfolding written
no_place p q xs out = refl

module _ (fault place : ℕ) (xs out : List ℕ) where
  -- the answer a, and ys in out, are right
  abbrev pub Right : (a : Written) (ys : List ℕ) → Type 0
  Right a ys = (a ≡ written fault place xs out) × (ys ≡ holds fault xs out)

  -- the right answer has document 01's number, place and count
  pub answers : Answers fault place xs out (written fault place xs out)
  unfolding written choose
  answers = go fault
    where
      room : (b : Bool) → ltb (length out) (length xs) ≡ b → Answers 0 place xs out (choose b (refused 15 0) (Octets (length xs)))
      room true e = rw e (refl, refl, refl)
      room false e = rw e (refl, refl, refl)

      go : (n : ℕ) → Answers n place xs out (written n place xs out)
      go zero = room (ltb (length out) (length xs)) refl
      go (suc n) = (refl, refl, refl)

  -- there is a fault
  pub faulty : (fault ≡ 0 → ⊥) → Right (refused fault place) out
  unfolding written holds
  faulty h = go fault h
    where
      go : (n : ℕ) → (n ≡ 0 → ⊥) → (refused n place ≡ written n place xs out) × (out ≡ holds n xs out)
      go zero h = absurd (h refl)
      go (suc n) h = (refl, refl)

  module _ (sound : fault ≡ 0) where
    -- xs goes into out
    pub fits : length xs ≤ length out → Right (Octets (length xs)) (xs ++ drop (length xs) out)
    unfolding written holds choose
    fits h = rw (sound, le-ltb (length out) (length xs) h) (refl, refl)

    -- and is laid there
    pub fits-laid : length xs ≤ length out → Right (Octets (length xs)) (over out 0 xs)
    fits-laid h = rw (over_first out xs) (fits h)

    -- xs does not
    pub long : length out < length xs → Right (refused 15 0) out
    unfolding written holds choose
    long h = rw (sound, lt-ltb (length out) (length xs) h) (refl, refl)

  -- where octets were written, there was no fault, and out holds them
  pub wrote : (k : ℕ) → written fault place xs out ≡ Octets k → (fault ≡ 0) × (k ≡ length xs) × (holds fault xs out ≡ xs ++ drop (length xs) out)
  unfolding written holds choose
  wrote k e = go fault e
    where
      room : (b : Bool) → choose b (refused 15 0) (Octets (length xs)) ≡ Octets k
          → (◌≡◌ {A = ℕ} 0 0) × (k ≡ length xs) × (choose b out (xs ++ drop (length xs) out) ≡ xs ++ drop (length xs) out)
      room true d = (refl, (cc), (cc))
      room false d = (refl, (cc), refl)

      go : (n : ℕ) → written n place xs out ≡ Octets k → (n ≡ 0) × (k ≡ length xs) × (holds n xs out ≡ xs ++ drop (length xs) out)
      go zero d = room (ltb (length out) (length xs)) d
      go (suc n) d = ((cc), (cc), (cc))

  -- where it was refused, out is as it was
  pub untouched : (n p : ℕ) → written fault place xs out ≡ refused n p → holds fault xs out ≡ out
  unfolding written holds choose
  untouched n p e = go fault e
    where
      room : (b : Bool) → choose b (refused 15 0) (Octets (length xs)) ≡ refused n p → choose b out (xs ++ drop (length xs) out) ≡ out
      room true d = refl
      room false d = cc

      go : (m : ℕ) → written m place xs out ≡ refused n p → holds m xs out ≡ out
      go zero d = room (ltb (length out) (length xs)) d
      go (suc m) d = refl

  -- a call that answers a number reports no octets, and out is as it was
  pub refused_nothing : (a : Written) (ys : List ℕ) → Right a ys → (answer.fault a ≡ 0 → ⊥) → (answer.count a ≡ 0) × (ys ≡ out)
  refused_nothing (Octets k) ys r h = absurd (h refl)
  refused_nothing (Err why) ys r h = (refl, r.1 ∙ untouched why.number why.place (sym r.0))
