-- A law of all that fits a format is proved field by field, with what was seen of each and where it lies.
use mathlib.Core.Path.{◌≡◌, refl, sym, ap, ◌∙◌}
use mathlib.Core.Bool.{Bool, true, false}
use mathlib.Core.List.{List, [], ◌∷◌, ◌++◌, append_assoc}
use Prim.Native.Nat.{ℕ, ◌+◌, ◌^◌, ◌<◌}
use lib.ListN.{length, take, drop}
use lib.Seq.{drop-drop, take_at, drop_at}
use Rattle.form_spec.specs.Octets.{Octets, be, to_be}
use Rattle.form_spec.specs.Fmt.{Fmt, end, test, field, Fits, join}
use Rattle.form_spec.specs.Words.{choose}
use Rattle.form_spec.specs.Pass.{Seen, note}
use Rattle.form_laws.proofs.Octets.{to_be_at, be_below}
use Rattle.form_laws.proofs.Pass.{seen}

-- a field of l octets, at i of s
pub record Lies (s : List ℕ) (i l : ℕ) (c : List ℕ) : Type 0 where
  pub size : length c ≡ l
  pub octets : Octets c
  pub here : take (length c) (drop i s) ≡ c

pub spells : {s c : List ℕ} {i w : ℕ} → Lies s i w c → to_be w (be c) ≡ c
spells h = to_be_at _ _ h.size h.octets

pub below : {s c : List ℕ} {i w : ℕ} → Lies s i w c → be c < 256 ^ w
below h = be_below _ _ h.size h.octets

module _ (s : List ℕ) where
  -- what is to be shown, field by field, so that P holds of all fields and of what is seen of them
  unfoldable pub Parts : Fmt → ℕ → (List (List ℕ) → List Seen → Type 0) → Type 0
  Parts (end b) i P = P [] []
  Parts (test n b f) i P = n ≡ 0 → Parts f i P
  Parts (field x l b k) i P = (c : List ℕ) → Lies s i l c → Parts (k c) (i + length c) (λ cs fs. P (c ∷ cs) (note x i (length c) (i + length c) (be c) fs))

  first_here : (c : List ℕ) (r : List ℕ) (i : ℕ) → c ++ r ≡ drop i s → take (length c) (drop i s) ≡ c
  first_here c r i e = rw (← e) (take_at c r (length c) refl)

  pub rest_here : (c : List ℕ) (r : List ℕ) (i : ℕ) → c ++ r ≡ drop i s → r ≡ drop (i + length c) s
  rest_here c r i e = sym (drop_at c r (length c) refl) ∙ ap (drop (length c)) e ∙ drop-drop (length c) i s

  pub by_parts : (f : Fmt) (i : ℕ) (P : List (List ℕ) → List Seen → Type 0) → Parts f i P → (cs : List (List ℕ)) (r : List ℕ) → join cs ++ r ≡ drop i s → Fits f cs → P cs (seen f i cs)
  unfolding Parts Fits seen
  by_parts (end b) i P p [] r e h = p
  by_parts (test n b f) i P p cs r e h = by_parts f i P (p h.0) cs r e h.1
  by_parts (field x l b k) i P p (c ∷ cs) r e h =
      let d : c ++ (join cs ++ r) ≡ drop i s = sym (append_assoc c (join cs) r) ∙ e in
      by_parts (k c) (i + length c) _ (p c (record { size = h.0; octets = h.1; here = first_here c (join cs ++ r) i d })) cs r (rest_here c (join cs ++ r) i d) h.2
  by_parts (end b) i P p (c ∷ cs) r e h = elim h [ ]
  by_parts (field x l b k) i P p [] r e h = elim h [ ]

  -- the format that a test chose
  pub parts-choose : (b : Bool) (f g : Fmt) (i : ℕ) (P : List (List ℕ) → List Seen → Type 0) → (b ≡ true → Parts f i P) → (b ≡ false → Parts g i P) → Parts (choose b f g) i P
  unfolding choose
  parts-choose true f g i P p q = p refl
  parts-choose false f g i P p q = q refl
