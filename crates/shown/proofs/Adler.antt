-- Adler-32, octet by octet.
use Rattle.std.proofs.Common.{◌≡◌, ℕ, ◌+◌, ◌*◌, ◌%◌, List, [], ◌∷◌, ap, ap₂, sym, ◌∙◌, refl, arith}
use Rattle.std.specs.Prelude.{sum}
use Rattle.std.proofs.lemmas.List.Sums.{sum_by-cons}
use Rattle.std.proofs.Math.Nat.{add-mod, add-mod-mod, mod-add-mod, mod-mod}
use Rattle.shown.specs.Adler.{high_sum}

-- what the Adler-32 of octets is, of which xs are left, where the sums are low and high
abbrev pub after : (low high : ℕ) → List ℕ → ℕ
after low high xs = 65536 * ((high + high_sum low xs) % 65521) + (low + sum xs) % 65521

congruent_add : (a b c d : ℕ) → a % 65521 ≡ b % 65521 → c % 65521 ≡ d % 65521 → (a + c) % 65521 ≡ (b + d) % 65521
congruent_add a b c d e f = add-mod a c 65521 ∙ ap₂ (λ p q. (p + q) % 65521) e f ∙ sym (add-mod b d 65521)

congruent_high : (a b : ℕ) (xs : List ℕ) → a % 65521 ≡ b % 65521 → high_sum a xs % 65521 ≡ high_sum b xs % 65521
congruent_high a b [] e = refl
congruent_high a b (x ∷ xs) e =
    let f = congruent_add a b x x e refl in
    congruent_add (a + x) (b + x) (high_sum (a + x) xs) (high_sum (b + x) xs) f (congruent_high (a + x) (b + x) xs f)

pub after_one : (low high x : ℕ) (xs : List ℕ) → after ((low + x) % 65521) ((high + (low + x) % 65521) % 65521) xs ≡ after low high (x ∷ xs)
after_one low high x xs =
    let m = (low + x) % 65521 in
    let one : sum (x ∷ xs) ≡ x + sum xs = sum_by-cons (λ y. y) x xs in
    let more : high_sum low (x ∷ xs) ≡ low + x + high_sum (low + x) xs = refl in
    let lows : (m + sum xs) % 65521 ≡ (low + sum (x ∷ xs)) % 65521 = mod-add-mod (low + x) 65521 (sum xs) ∙ ap (λ n. n % 65521) (omega (arith, one)) in
    let first : ((high + m) % 65521) % 65521 ≡ (high + (low + x)) % 65521 = mod-mod (high + m) 65521 ∙ add-mod-mod high (low + x) 65521 in
    let both = congruent_add _ (high + (low + x)) _ (high_sum (low + x) xs) first (congruent_high m (low + x) xs (mod-mod (low + x) 65521)) in
    let highs : ((high + m) % 65521 + high_sum m xs) % 65521 ≡ (high + high_sum low (x ∷ xs)) % 65521 = both ∙ ap (λ n. n % 65521) (omega (arith, more)) in
    ap₂ (λ p q. 65536 * p + q) highs lows
