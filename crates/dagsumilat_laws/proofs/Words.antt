-- What the words of a record mean: they are all of the array, whatever it held before, and a refusal tells nothing but its number and place.
use mathlib.Core.Path.{◌≡◌, refl, sym, ap, ◌∙◌}
use mathlib.Core.List.{List, [], ◌∷◌, ◌++◌, append_assoc}
use native.Mathlib.Omega.{arith}
use Prim.Native.Nat.{ℕ, suc}
use lib.ListN.{length, set, replicate}
use Rattle.record_spec.specs.Shown.{Shown, Nothing, Good}
use Rattle.record_spec.specs.declared.Body.TheVariants.{Unread, TableDump, PeerTable, Rib, RibGeneric, Change, Message}
use Rattle.dagsumilat_spec.specs.Answers.{words, words_from}
use Rattle.dagsumilat_spec.specs.ReadWords.{head_words, body_words, read_words}
use Rattle.form_spec.specs.Refusal.{refused}
use Rattle.std.specs.Prelude.{Err}

set_behind : (p : List ℕ) (x : ℕ) (a : List ℕ) (w : ℕ) → set (p ++ x ∷ a) (length p) w ≡ p ++ w ∷ a
set_behind [] x a w = refl
set_behind (y ∷ p) x a w = ap (◌∷◌ y) (set_behind p x a w)

longer : (p : List ℕ) (w : ℕ) → length (p ++ w ∷ []) ≡ suc (length p)
longer [] w = refl
longer (y ∷ p) w = ap suc (longer p w)

-- as many words as an array has, laid behind others, are the array
laid : (a p ws : List ℕ) → length a ≡ length ws → words_from (length p) (p ++ a) ws ≡ p ++ ws
laid [] p [] e = refl
laid [] p (w ∷ ws) e = absurd (omega arith)
laid (x ∷ a) p [] e = absurd (omega arith)
laid (x ∷ a) p (w ∷ ws) e =
    rw (set_behind p x a w) (rw (longer p w, append_assoc p (w ∷ []) a, append_assoc p (w ∷ []) ws) at (laid a (p ++ w ∷ []) ws (omega arith)))

twenty : (x : Shown) → length (head_words x ++ body_words x) ≡ 20
twenty Nothing = refl
twenty (Err why) = refl
twenty (Good h (Unread c)) = refl
twenty (Good h (TableDump r)) = refl
twenty (Good h (PeerTable p)) = refl
twenty (Good h (Rib r)) = refl
twenty (Good h (RibGeneric f r)) = refl
twenty (Good h (Change s w)) = refl
twenty (Good h (Message s b)) = refl

-- no word of the array stays as it was
pub all_words : (a : List ℕ) (x : Shown) → length a ≡ 20 → read_words a x ≡ head_words x ++ body_words x
all_words a x e = laid a [] (head_words x ++ body_words x) (e ∙ sym (twenty x))

-- a refusal: its number, its place, and zeros
pub refused_words : (a : List ℕ) (n p : ℕ) → read_words a (refused n p) ≡ words a (n ∷ p ∷ replicate 18 0)
refused_words a n p = refl
