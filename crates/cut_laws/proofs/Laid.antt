-- Laws of laying: one behind another, one before another, one over a part of another, and nothing.
use mathlib.Core.Path.{◌≡◌, refl, sym, ap, ◌∙◌}
use mathlib.Core.Bool.{Bool, true, false}
use mathlib.Core.List.{List, [], ◌∷◌, ◌++◌, append_assoc, append-nil}
use Prim.Native.Nat.{ℕ, suc, ◌+◌, ◌-◌, ◌≤◌, ◌<◌}
use native.Mathlib.Omega.{arith}
use lib.ListN.{length, take, drop, length-append, length-drop, take-append-drop}
use lib.Seq.{take_at, drop_at, drop-drop, take-add, take-take, take-append-le, length-take-le}
use Rattle.octets_spec.specs.Over.{over}
use Rattle.octets_laws.proofs.Over.{length_over, over_over}
use Rattle.cut_spec.specs.Laid.{laid, Room, between, Passed}

-- nothing laid is no change, wherever that is
pub over_nothing : (out : List ℕ) (at : ℕ) → over out at [] ≡ out
unfolding over
over_nothing out at = let e : at + 0 ≡ at = omega arith in rw (e, take-append-drop at out)

-- y first, behind room for x, and then x before it, is both at once
pub over_before : (out : List ℕ) (at : ℕ) (x y : List ℕ) → at + (length x + length y) ≤ length out → over (over out (at + length x) y) at x ≡ over out at (x ++ y)
unfolding over
over_before out at x y h =
    let f : List ℕ = take (at + length x) out in
    let r : List ℕ = drop (at + length x + length y) out in
    let l : length f ≡ at + length x = length-take-le (at + length x) out (omega arith) in
    let a : take at (f ++ (y ++ r)) ≡ take at out = take-append-le at f (y ++ r) (omega arith) ∙ take-take at (at + length x) out (omega arith) in
    let b : drop (at + length x) (f ++ (y ++ r)) ≡ y ++ r = drop_at f (y ++ r) (at + length x) l in
    let n : at + (length x + length y) ≡ at + length x + length y = omega arith in
    rw (a, b, length-append x y, n) (simp append_assoc)

-- z in the place of y, in the midst of what was laid
pub over_within : (out : List ℕ) (at : ℕ) (x y w z : List ℕ) → length z ≡ length y → at + length (x ++ (y ++ w)) ≤ length out
    → over (over out at (x ++ (y ++ w))) (at + length x) z ≡ over out at (x ++ (z ++ w))
unfolding over
over_within out at x y w z e h =
    let r : List ℕ = drop (at + length (x ++ (y ++ w))) out in
    let f : List ℕ = take at out ++ x in
    let n : length (x ++ (y ++ w)) ≡ length x + (length y + length w) = simp length-append in
    let m : length (x ++ (z ++ w)) ≡ length (x ++ (y ++ w)) = simp length-append (omega arith) in
    let k : length (take at out) ≡ at = length-take-le at out (omega arith) in
    let l : length f ≡ at + length x = length-append (take at out) x ∙ omega arith in
    let s : take at out ++ ((x ++ (y ++ w)) ++ r) ≡ f ++ (y ++ (w ++ r)) = simp append_assoc in
    let a : take (at + length x) (f ++ (y ++ (w ++ r))) ≡ f = take_at f (y ++ (w ++ r)) (at + length x) l in
    let b : drop (at + length x + length z) (f ++ (y ++ (w ++ r))) ≡ w ++ r =
    sym (drop-drop (length z) (at + length x) (f ++ (y ++ (w ++ r)))) ∙ ap (drop (length z)) (drop_at f (y ++ (w ++ r)) (at + length x) l) ∙ drop_at y (w ++ r) (length z) (sym e) in
    rw (s, a, b, m) (simp append_assoc)

-- ---- laid, or only counted

pub laid_not : (out : List ℕ) (at : ℕ) (xs : List ℕ) → laid false out at xs ≡ out
unfolding laid
laid_not out at xs = refl

pub laid_so : (out : List ℕ) (at : ℕ) (xs : List ℕ) → laid true out at xs ≡ over out at xs
unfolding laid
laid_so out at xs = refl

pub laid_nothing : (lays : Bool) (out : List ℕ) (at : ℕ) → laid lays out at [] ≡ out
unfolding laid
laid_nothing false out at = refl
laid_nothing true out at = over_nothing out at

pub length-laid : (lays : Bool) (out : List ℕ) (at : ℕ) (xs : List ℕ) → Room lays out at (length xs) → length (laid lays out at xs) ≡ length out
unfolding laid
length-laid false out at xs h = refl
length-laid true out at xs h = length_over out at xs (h refl)

-- y behind x
pub laid_behind : (lays : Bool) (out : List ℕ) (at : ℕ) (x y : List ℕ) → Room lays out at (length (x ++ y)) → laid lays (laid lays out at x) (at + length x) y ≡ laid lays out at (x ++ y)
unfolding laid
laid_behind false out at x y h = refl
laid_behind true out at x y h = over_over out at x y (rw length-append at (h refl))

-- the same where nothing is laid and nothing has room
pub laid_behind_some : (lays : Bool) (out : List ℕ) (at : ℕ) (x y : List ℕ) → (lays ≡ true → 0 < length (x ++ y) → at + length (x ++ y) ≤ length out)
    → laid lays (laid lays out at x) (at + length x) y ≡ laid lays out at (x ++ y)
unfolding laid
laid_behind_some false out at x y h = refl
laid_behind_some true out at [] y h = let e : at + 0 ≡ at = omega arith in rw (over_nothing out at, e)
laid_behind_some true out at (a ∷ x) y h =
    let n : length ((a ∷ x) ++ y) ≡ suc (length x) + length y = length-append (a ∷ x) y in
    over_over out at (a ∷ x) y (omega (arith, h refl (omega arith)))

-- x before y
pub laid_before : (lays : Bool) (out : List ℕ) (at : ℕ) (x y : List ℕ) → Room lays out at (length (x ++ y)) → laid lays (laid lays out (at + length x) y) at x ≡ laid lays out at (x ++ y)
unfolding laid
laid_before false out at x y h = refl
laid_before true out at x y h = over_before out at x y (rw length-append at (h refl))

-- ---- parts of d

pub length-between : (d : List ℕ) (from to : ℕ) → from ≤ to → to ≤ length d → length (between d from to) ≡ to - from
length-between d from to h k = let l : to - from ≤ length (drop from d) = simp length-drop (omega arith) in length-take-le (to - from) (drop from d) l

pub between_none : (d : List ℕ) (at : ℕ) → between d at at ≡ []
between_none d at = let e : at - at ≡ 0 = omega arith in rw e

pub between_both : (d : List ℕ) (from at to : ℕ) → from ≤ at → at ≤ to → between d from at ++ between d at to ≡ between d from to
between_both d from at to h k =
    let a : from + (at - from) ≡ at = omega arith in
    let n : (at - from) + (to - at) ≡ to - from = omega arith in
    let e : take (to - at) (drop (at - from) (drop from d)) ≡ between d at to = rw (drop-drop (at - from) from d, a) in
    rw (← e) (sym (take-add (at - from) (to - at) (drop from d)) ∙ ap (λ (m : ℕ). take m (drop from d)) n)

-- ---- one record passed

-- what follows those before it has room
pub room_behind : (lays : Bool) (d out : List ℕ) (at run put : ℕ) → run ≤ at → at ≤ length d → (out₁ : List ℕ) (put₁ n : ℕ) → out₁ ≡ laid lays out put (between d run at) → put₁ ≡ put + (at - run)
    → Room lays out put (at - run + n) → Room lays out₁ put₁ n
room_behind lays d out at run put runs inside out₁ put₁ n o p room q =
    let l = length-between d run at runs inside in
    let e : length out₁ ≡ length out = rw o (length-laid lays out put (between d run at) (λ z. omega (arith, room z, l))) in
    omega (arith, room q, e)

module _ {lays : Bool} {d out : List ℕ} {at next run put : ℕ} (runs : run ≤ at) (ends : at ≤ next) (inside : next ≤ length d) where
  -- it stays, and is laid later, with others
  pub passed_later : {xs : List ℕ} → xs ≡ between d at next → Passed lays d out out xs at next run put run put
  passed_later e =
      record {
        now = [];
        laid = sym (laid_nothing lays out put);
        ends = omega arith;
        same = sym (between_both d run at next runs ends) ∙ rw e;
        runs = omega arith;
      }

  -- it stays, and is laid with those before it
  pub passed_laid : {xs out' : List ℕ} {put' : ℕ} → xs ≡ between d at next → out' ≡ laid lays out put (between d run next) → put' ≡ put + (next - run)
      → Passed lays d out out' xs at next run put next put'
  passed_laid e o p =
      record {
        now = between d run next;
        laid = o;
        ends = p ∙ ap (λ (n : ℕ). put + n) (sym (length-between d run next (omega arith) inside));
        same = rw (between_none d next, append-nil, e) (sym (between_both d run at next runs ends));
        runs = omega arith;
      }

  -- it goes, and those before it are laid
  pub passed_gone : {xs out' : List ℕ} {put' : ℕ} → xs ≡ [] → out' ≡ laid lays out put (between d run at) → put' ≡ put + (at - run) → Passed lays d out out' xs at next run put next put'
  passed_gone e o p =
      record {
        now = between d run at;
        laid = o;
        ends = p ∙ ap (λ (n : ℕ). put + n) (sym (length-between d run at runs (omega arith)));
        same = rw (between_none d next, e);
        runs = omega arith;
      }

  -- something else is laid of it, behind those before it
  pub passed_new : {xs out₁ out' : List ℕ} {put₁ put' : ℕ} → out₁ ≡ laid lays out put (between d run at) → put₁ ≡ put + (at - run) → out' ≡ laid lays out₁ put₁ xs → put' ≡ put₁ + length xs
      → Room lays out put (at - run + length xs) → Passed lays d out out' xs at next run put next put'
  passed_new {xs} {out₁} {out'} {put₁} {put'} o p q r room =
      let n = length-between d run at runs (omega arith) in
      let l : length (between d run at ++ xs) ≡ at - run + length xs = length-append (between d run at) xs ∙ rw n in
      let e : put₁ ≡ put + length (between d run at) = p ∙ ap (λ (k : ℕ). put + k) (sym n) in
      record {
        now = between d run at ++ xs;
        laid = q ∙ rw (o, e) (laid_behind lays out put (between d run at) xs (rw l room));
        ends = omega arith;
        same = rw (between_none d next, append-nil);
        runs = omega arith;
      }
