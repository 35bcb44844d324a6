-- Laws of octets and of big-endian numbers.
use mathlib.Core.Path.{◌≡◌, refl, sym, ap, ◌∙◌, subst}
use mathlib.Core.List.{List, [], ◌∷◌, ◌++◌}
use Prim.Native.Nat.{ℕ, zero, suc, ◌+◌, ◌*◌, ◌^◌, ◌/◌, ◌%◌, ◌<◌}
use native.Mathlib.Omega.{arith}
use native.Mathlib.Numerals.{add-one}
use native.Mathlib.Nat.{pow-suc, mod-lt, div-add-mod', div-lt_iff_lt-mul, mul_comm, mul_assoc, add-mul, add_assoc}
use lib.Dec.{lit<}
use lib.Arith.{digits_lt}
use lib.ListN.{length, take, drop, get_or, length-append}
use lib.Seq.{take-suc, take_all, length-take-le}
use Rattle.form_spec.specs.Octets.{Octets, be, to_be}

pub octets-take : (n : ℕ) (l : List ℕ) → Octets l → Octets (take n l)
octets-take zero l o = tt
octets-take (suc n) [] o = tt
octets-take (suc n) (x ∷ xs) o = (o.0, octets-take n xs o.1)

pub octets-drop : (n : ℕ) (l : List ℕ) → Octets l → Octets (drop n l)
octets-drop zero l o = o
octets-drop (suc n) [] o = tt
octets-drop (suc n) (x ∷ xs) o = octets-drop n xs o.1

pub octets-append : (a b : List ℕ) → Octets a → Octets b → Octets (a ++ b)
octets-append [] b p q = q
octets-append (x ∷ xs) b p q = (p.0, octets-append xs b p.1 q)

pub octets-left : (a b : List ℕ) → Octets (a ++ b) → Octets a
octets-left [] b p = tt
octets-left (x ∷ xs) b p = (p.0, octets-left xs b p.1)

pub octets_right : (a b : List ℕ) → Octets (a ++ b) → Octets b
octets_right [] b p = p
octets_right (x ∷ xs) b p = octets_right xs b p.1

-- one octet more at the end
more : (y k n b x : ℕ) → k ≡ suc n → y * 256 ^ k + (b * 256 + x) ≡ (y * 256 ^ n + b) * 256 + x
more y k n b x e = rw (e, pow-suc, ← mul_assoc, add-mul, add_assoc)

pub be_snoc : (xs : List ℕ) (x : ℕ) → be (xs ++ (x ∷ [])) ≡ be xs * 256 + x
unfolding be
be_snoc [] x = omega arith
be_snoc (y ∷ ys) x = rw (be_snoc ys x) (more y (length (ys ++ (x ∷ []))) (length ys) (be ys) x (length-append ys (x ∷ []) ∙ add-one (length ys)))

pub length-to_be : (w n : ℕ) → length (to_be w n) ≡ w
unfolding to_be
length-to_be zero n = refl
length-to_be (suc w) n = length-append (to_be w (n / 256)) (n % 256 ∷ []) ∙ rw (length-to_be w (n / 256)) (add-one w)

pub octets-to_be : (w n : ℕ) → Octets (to_be w n)
unfolding to_be
octets-to_be zero n = tt
octets-to_be (suc w) n = octets-append (to_be w (n / 256)) (n % 256 ∷ []) (octets-to_be w (n / 256)) (mod-lt n (lit< tt), tt)

pub be-lt : (c : List ℕ) → Octets c → be c < 256 ^ length c
unfolding be
be-lt [] o = omega arith
be-lt (x ∷ xs) o = rw (pow-suc 256 (length xs), mul_comm (256 ^ length xs) 256) (digits_lt o.0 (be-lt xs o.1))

pub be-to_be : (w n : ℕ) → n < 256 ^ w → be (to_be w n) ≡ n
unfolding be to_be
be-to_be zero n h = omega arith
be-to_be (suc w) n h =
    let q : n / 256 < 256 ^ w = (div-lt_iff_lt-mul (lit< tt)).1 (rw pow-suc at h) in
    be_snoc (to_be w (n / 256)) (n % 256) ∙ rw (be-to_be w (n / 256) q) (div-add-mod' n 256)

-- the last octet apart
last_octet : (b x : ℕ) → x < 256 → ((b * 256 + x) / 256 ≡ b) × ((b * 256 + x) % 256 ≡ x)
last_octet b x h = (omega arith, omega arith)

to_be-length : (w : ℕ) (c : List ℕ) → length c ≡ w → Octets c → to_be w (be c) ≡ c
unfolding to_be
to_be-length zero [] e o = refl
to_be-length zero (x ∷ xs) e o = absurd (omega arith)
to_be-length (suc w) c e o =
    let xs : List ℕ = take w c in
    let x : ℕ = get_or c w 0 in
    let k : w < length c = omega arith in
    let s : take (suc w) c ≡ xs ++ (x ∷ []) = take-suc c w 0 k in
    let t : c ≡ xs ++ (x ∷ []) = sym (take_all (suc w) c (omega arith)) ∙ s in
    let q : Octets (xs ++ (x ∷ [])) = subst Octets t o in
    let b : be c ≡ be xs * 256 + x = ap be t ∙ be_snoc xs x in
    let d = last_octet (be xs) x (octets_right xs (x ∷ []) q).0 in
    rw (b, d.0, d.1, to_be-length w xs (length-take-le w c (omega arith)) (octets-left xs (x ∷ []) q)) (sym t)

pub to_be-be : (c : List ℕ) → Octets c → to_be (length c) (be c) ≡ c
to_be-be c o = to_be-length (length c) c refl o

-- the same where the length is known by an equation
pub to_be_at : (w : ℕ) (c : List ℕ) → length c ≡ w → Octets c → to_be w (be c) ≡ c
to_be_at w c e o = rw e at (to_be-be c o)

pub be_below : (w : ℕ) (c : List ℕ) → length c ≡ w → Octets c → be c < 256 ^ w
be_below w c e o = rw e at (be-lt c o)

-- a slice's octets, known by index
pub octets_of_lem : (d : List ℕ) → ((k : ℕ) → get_or d k 0 < 256) → Octets d
octets_of_lem [] h = tt
octets_of_lem (x ∷ xs) h = (h 0, octets_of_lem xs (λ k. h (suc k)))
