-- The head's words, then the body's, are all that the array holds.
use Rattle.std.proofs.Common.{◌≡◌, ℕ, ◌≤◌, List, [], ◌++◌, length, drop, ap, ap₂, sym, ◌∙◌, arith}
use Rattle.std.proofs.lemmas.List.{take_at, drop_at, drop_all, append-nil}
use Rattle.std.proofs.Common.{length-drop}
use borrow.Rule.Slice.PartMut.{put_mid, post_of}
use Rattle.record_spec.specs.Shown.{Shown}
use Rattle.dagsumilat_spec.specs.ReadWords.{head_words, body_words, read_words}
use Rattle.dagsumilat_laws.proofs.Words.{all_words}

joined : (i n : ℕ) (h t b : List ℕ) → length h ≡ i → length t ≤ n → put_mid i n (h ++ t) b ≡ h ++ b
joined i n h t b e f =
    let behind : post_of i n (h ++ t) ≡ [] = ap (drop n) (drop_at h t i e) ∙ drop_all n t f in
    ap₂ (λ p q. p ++ q) (take_at h t i e) (ap (λ z. b ++ z) behind ∙ append-nil b)

pub told : (a h b : List ℕ) (x y : Shown) → length a ≡ 20 → h ≡ head_words x → b ≡ body_words x → x ≡ y → put_mid 8 12 (h ++ post_of 0 8 a) b ≡ read_words a y
told a h b x y n e f g =
    let left : length (post_of 0 8 a) ≤ 12 = omega (arith, length-drop 8 a, n) in
    joined 8 12 h (post_of 0 8 a) b (ap length e) left ∙ ap₂ (λ p q. p ++ q) e f ∙ sym (all_words a x n) ∙ ap (read_words a) g
