-- The rules by which `search put_flow` follows a writer's checks through a page's format: one for each way out of a field.
use mathlib.Core.Path.{◌≡◌, refl, sym, ◌∙◌}
use mathlib.Core.List.{List, [], ◌∷◌}
use mathlib.Core.Bool.{Bool, true, false, cond}
use Prim.Native.Nat.{ℕ, zero, suc, ◌^◌, ◌<◌, ◌≤◌}
use native.Mathlib.Omega.{arith}
use borrow.Author.Tests.{lt-ltb, le-ltb, le-leb, lt-leb, eq-eqb, ne_eqb, ltb-true, leb-true, leb-false}
use lib.Dec.{ltb, leb}
use lib.ListN.{length}
use Rattle.form_spec.specs.Octets.{be, to_be}
use Rattle.form_laws.proofs.Octets.{be-to_be}
use Rattle.form_spec.specs.Fmt.{Fmt, end}
use Rattle.form_spec.specs.Put.{Value, digits, bytes, or_else, sized, large, misfit, refusal}
use Rattle.form_spec.specs.Words.{choose, num, skip, fail, checked, tested}
use Rattle.octets_laws.proofs.Rules.{inside, below, above}

same_size : (n l : ℕ) → n ≡ l → sized n l ≡ 0
same_size n l e = let h : l ≤ n = omega arith in let g : n ≤ l = omega arith in rw (le-ltb _ _ h, le-ltb _ _ g)

-- what a test by `large` said of a number
pub is_large : (w v : ℕ) (t : Bool) → t ≡ leb (256 ^ w) v → t ≡ true → large w v ≡ 6
is_large w v t p q = rw (le-ltb v (256 ^ w) (leb-true (256 ^ w) v (sym p ∙ q)))

pub not_large : (w v : ℕ) (t : Bool) → t ≡ leb (256 ^ w) v → t ≡ false → large w v ≡ 0
not_large w v t p q = rw (lt-ltb v (256 ^ w) (leb-false (256 ^ w) v (sym p ∙ q)))

-- a number that fits its field, and one that does not
fits : (w v : ℕ) → leb (256 ^ w) v ≡ false → (misfit (digits w v) w ≡ 0) × (be (to_be w v) ≡ v)
fits w v e =
    let h : v < 256 ^ w = leb-false (256 ^ w) v e in
    (rw (lt-ltb v (256 ^ w) h, same_size w w refl), be-to_be w v h)

too_large : (w v m : ℕ) → leb (256 ^ w) v ≡ true → or_else (misfit (digits w v) w) m ≡ 6
too_large w v m e = rw (le-ltb v (256 ^ w) (leb-true (256 ^ w) v e))

stop : (n m : ℕ) → ltb 0 n ≡ true → or_else n m ≡ n
stop zero m l = absurd (omega (arith, ltb-true 0 0 l))
stop (suc n) m l = refl

module _ (vs : List Value) where
  pub number_fits : (x w v y : ℕ) (k : ℕ → Fmt) (t : Bool) → t ≡ leb (256 ^ w) v → t ≡ false → y ≡ refusal (k v) vs → y ≡ refusal (num x w k) (digits w v ∷ vs)
  unfolding num refusal
  number_fits x w v y k t p q h = let s = fits w v (sym p ∙ q) in h ∙ sym (rw (s.0, s.1))

  pub number_large : (x w v y : ℕ) (k : ℕ → Fmt) (t : Bool) → t ≡ leb (256 ^ w) v → t ≡ true → y ≡ 6 → y ≡ refusal (num x w k) (digits w v ∷ vs)
  unfolding num refusal
  number_large x w v y k t p q h = h ∙ sym (too_large w v (refusal (k (be (to_be w v))) vs) (sym p ∙ q))

  -- with a check of its own
  pub value_right : (x w v n y : ℕ) (ok : ℕ → Bool) (k : ℕ → Fmt) (t : Bool) → t ≡ leb (256 ^ w) v → t ≡ false → ok v ≡ true → y ≡ refusal (k v) vs → y ≡ refusal (checked x w ok n k) (digits w v ∷ vs)
  unfolding checked refusal
  value_right x w v n y ok k t p q o h = let s = fits w v (sym p ∙ q) in h ∙ sym (rw (s.0, s.1, o))

  pub value_wrong : (x w v n y : ℕ) (ok : ℕ → Bool) (k : ℕ → Fmt) (t : Bool) → t ≡ leb (256 ^ w) v → t ≡ false → ok v ≡ false → ltb 0 n ≡ true → y ≡ n → y ≡ refusal (checked x w ok n k) (digits w v ∷ vs)
  unfolding checked refusal
  value_wrong x w v n y ok k t p q o l h = let s = fits w v (sym p ∙ q) in h ∙ sym (rw (s.0, s.1, o) (stop n (refusal (k v) vs) l))

  pub value_large : (x w v n y : ℕ) (ok : ℕ → Bool) (k : ℕ → Fmt) (t : Bool) → t ≡ leb (256 ^ w) v → t ≡ true → y ≡ 6 → y ≡ refusal (checked x w ok n k) (digits w v ∷ vs)
  unfolding checked refusal
  value_large x w v n y ok k t p q h = h ∙ sym (too_large w v (or_else (cond (ok (be (to_be w v))) 0 n) (refusal (k (be (to_be w v))) vs)) (sym p ∙ q))

  -- octets: as many as the field has, too few, too many
  pub bytes_fit : (x w y : ℕ) (c : List ℕ) (f : Fmt) → length c ≤ w → w ≤ length c → y ≡ refusal f vs → y ≡ refusal (skip x w f) (bytes c ∷ vs)
  unfolding skip refusal
  bytes_fit x w y c f p q h = h ∙ sym (rw (same_size (length c) w (omega arith)))

  pub bytes_short : (x w y : ℕ) (c : List ℕ) (f : Fmt) → length c < w → y ≡ 5 → y ≡ refusal (skip x w f) (bytes c ∷ vs)
  unfolding skip refusal
  bytes_short x w y c f p h = h ∙ sym (rw (lt-ltb _ _ p))

  pub bytes_long : (x w y : ℕ) (c : List ℕ) (f : Fmt) → w < length c → y ≡ 6 → y ≡ refusal (skip x w f) (bytes c ∷ vs)
  unfolding skip refusal
  bytes_long x w y c f p h = let q : w ≤ length c = omega arith in h ∙ sym (rw (le-ltb _ _ q, lt-ltb _ _ p))

  -- octets whose number the writer works out: they are as many as their field has
  pub bytes_all : (x y : ℕ) (c : List ℕ) (f : Fmt) → y ≡ refusal f vs → y ≡ refusal (skip x (length c) f) (bytes c ∷ vs)
  unfolding skip refusal
  bytes_all x y c f h = h ∙ sym (rw (same_size (length c) (length c) refl))

  pub tested_right : (x n y : ℕ) (c : List ℕ) (ok : List ℕ → Bool) (f : Fmt) (t : Bool) → t ≡ ok c → t ≡ true → y ≡ refusal f vs → y ≡ refusal (tested x (length c) ok n f) (bytes c ∷ vs)
  unfolding tested refusal
  tested_right x n y c ok f t p q h = h ∙ sym (rw (same_size (length c) (length c) refl, sym p ∙ q))

  pub tested_wrong : (x n y : ℕ) (c : List ℕ) (ok : List ℕ → Bool) (f : Fmt) (t : Bool) → t ≡ ok c → t ≡ false → ltb 0 n ≡ true → y ≡ n → y ≡ refusal (tested x (length c) ok n f) (bytes c ∷ vs)
  unfolding tested refusal
  tested_wrong x n y c ok f t p q l h = h ∙ sym (rw (same_size (length c) (length c) refl, sym p ∙ q) (stop n (refusal f vs) l))

  pub first_put : (b : Bool) (y : ℕ) (f g : Fmt) → b ≡ true → y ≡ refusal f vs → y ≡ refusal (choose b f g) vs
  unfolding choose
  first_put b y f g e h = h ∙ rw e

  pub second_put : (b : Bool) (y : ℕ) (f g : Fmt) → b ≡ false → y ≡ refusal g vs → y ≡ refusal (choose b f g) vs
  unfolding choose
  second_put b y f g e h = h ∙ rw e

  pub fail_put : (n w y : ℕ) → ltb 0 n ≡ true → y ≡ n → y ≡ refusal (fail n w) vs
  unfolding fail refusal
  fail_put n w y l h = h ∙ sym (stop n (refusal (end 0) vs) l)

pub all_put : (b y : ℕ) → y ≡ 0 → y ≡ refusal (end b) []
unfolding refusal
all_put b y h = h

pub ruleset put_flow = (number_fits, number_large, value_right, value_wrong, value_large, bytes_fit, bytes_short, bytes_long, bytes_all, tested_right, tested_wrong, first_put, second_put, fail_put, all_put, inside, below, above, eq-eqb, ne_eqb, le-leb, lt-leb, arith)
