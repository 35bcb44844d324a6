-- Numbers read and written, once over the width.
use mathlib.Core.Path.{◌≡◌, refl, sym, ap, ◌∙◌}
use mathlib.Core.List.{List, [], ◌∷◌, ◌++◌}
use Prim.Native.Nat.{ℕ, suc, ◌+◌, ◌*◌, ◌-◌, ◌/◌, ◌%◌, ◌^◌, ◌≤◌, ◌<◌}
use native.Mathlib.Numerals.{add-one}
use native.Mathlib.Omega.{arith}
use native.Mathlib.Nat.{lt_of_lt_of_le, pow-le-pow_right, le_refl}
use lib.Dec.{lit<}
use lib.ListN.{length, take, drop, get_or, set, length-drop, length-set, length-append, take-append-drop}
use Rattle.std.proofs.lemmas.List.{get_or-take}
use lib.Seq.{length-take-le, take-suc, get_or-drop, take-set-le, drop-cons, get_or-set_same, drop-set-lt, append_snoc}
use Rattle.form_spec.specs.Octets.{be, to_be}
use Rattle.form_laws.proofs.Octets.{be_snoc, length-to_be}
use Rattle.octets_spec.specs.Over.{over}
use Rattle.octets_spec.specs.Be.{num_at}

pub num_at-zero : (s : List ℕ) (at : ℕ) → num_at s at 0 ≡ 0
unfolding num_at be
num_at-zero s at = refl

pub num_at_more : (s : List ℕ) (at w : ℕ) → at + w < length s → num_at s at (w + 1) ≡ num_at s at w * 256 + get_or s (at + w) 0
unfolding num_at
num_at_more s at w h =
    let k : w < length (drop at s) = simp length-drop (omega arith) in
    rw (add-one, take-suc (drop at s) w 0, get_or-drop) (be_snoc (take w (drop at s)) (get_or s (at + w) 0))

-- the same where the octet x is read from the w octets at `at`
pub num_at_next : (s : List ℕ) (at w i v x : ℕ) → at + w ≤ length s → i < length (take (at + w - at) (drop at s)) → v ≡ num_at s at i → x ≡ get_or (take (at + w - at) (drop at s)) i 0 → v * 256 + x ≡ num_at s at (i + 1)
num_at_next s at w i v x h l p q =
    let k : length (take (at + w - at) (drop at s)) ≡ at + w - at = length-take-le _ _ (simp length-drop (omega arith)) in
    let t : x ≡ get_or s (at + i) 0 = rw (get_or-take (at + w - at) (drop at s) i 0 (omega arith), get_or-drop) at q in
    rw (p, t) (sym (num_at_more s at i (omega arith)))

-- an octet after a number of i octets makes one of i + 1
pub digit : (v i x : ℕ) → v < 256 ^ i → x < 256 → v * 256 + x < 256 ^ (i + 1)
digit v i x h k = rw add-one (omega arith)

-- and up to eight octets fit 64 bits
pub digit-fits : (v i x : ℕ) → v < 256 ^ i → x < 256 → i < 8 → v * 256 + x < 2 ^ 64
digit-fits v i x h k l =
    lt_of_lt_of_le (digit v i x h k) (pow-le-pow_right {n = 256} (lit< tt) {i = i + 1} {j = 8} (omega arith))

-- nothing left to write
pub over_nothing : (out : List ℕ) (at v : ℕ) → over out at (to_be 0 v) ≡ out
unfolding over to_be
over_nothing out at v = let e : at + 0 ≡ at = omega arith in rw (e, take-append-drop)

-- the last octet stored first, then the others
pub over_last : (out : List ℕ) (at i v : ℕ) → at + i < length out → over (set out (at + i) (v % 256)) at (to_be i (v / 256)) ≡ over out at (to_be (i + 1) v)
unfolding over to_be
over_last out at i v h =
    let k : at + i < length (set out (at + i) (v % 256)) = simp length-set h in
    let le : at ≤ at + i = omega arith in
    let n : at + suc i ≡ suc (at + i) = omega arith in
    rw (
      add-one,
      length-to_be i (v / 256),
      length-append (to_be i (v / 256)) (v % 256 ∷ []),
      length-to_be i (v / 256),
      add-one i,
      n,
      take-set-le at out (at + i) (v % 256) le,
      drop-cons (set out (at + i) (v % 256)) (at + i) 0 k,
      get_or-set_same out (at + i) (v % 256) 0 h,
      drop-set-lt (suc (at + i)) out (at + i) (v % 256) (le_refl _),
    )
    (ap (λ (l : List ℕ). take at out ++ l) (sym (append_snoc (to_be i (v / 256)) (v % 256) (drop (suc (at + i)) out))))

-- the two shortest widths, by their octets
pub num_at_1 : (s : List ℕ) (at : ℕ) → at + 1 ≤ length s → num_at s at 1 ≡ get_or s at 0
num_at_1 s at h =
    let e : at + 0 ≡ at = omega arith in
    num_at_more s at 0 (omega arith) ∙ rw (num_at-zero, e) (omega arith)

pub num_at_2 : (s : List ℕ) (at : ℕ) → at + 2 ≤ length s → num_at s at 2 ≡ get_or s at 0 * 256 + get_or s (at + 1) 0
num_at_2 s at h = num_at_more s at 1 (omega arith) ∙ rw (num_at_1 s at (omega arith))
