-- The head of a peer table, by its view name: cut short, not text, or text.
use mathlib.Core.Path.{◌≡◌, refl, sym, ap, ◌∙◌}
use mathlib.Core.Bool.{Bool, true, false, cond}
use mathlib.Core.List.{List, [], ◌∷◌}
use Prim.Native.Nat.{ℕ, suc, ◌+◌, ◌-◌, ◌≤◌, ◌<◌}
use native.Mathlib.Omega.{arith}
use lib.Dec.{ltb}
use lib.ListN.{length, take, drop, length-drop, take-append-drop}
use lib.Seq.{drop-drop, length-take-le}
use borrow.Author.Tests.{ltb-true, ltb-false}
use Rattle.form_spec.specs.Octets.{be}
use Rattle.form_spec.specs.Fmt.{Out, bad, good, bind, refuse_if, Fmt, end, test, field, read}
use Rattle.form_spec.specs.Words.{num, tested}
use Rattle.octets_spec.specs.Be.{num_at}
use Rattle.text_spec.specs.Check.{is_text}
use Rattle.page_spec.specs.Names.{collector, view_length, view_name}
use Rattle.page_spec.specs.Peers.{table_head}
use Rattle.record_spec.specs.Named.{name_in}
use Rattle.record_laws.proofs.One.{part_first}

-- ---- in a message

-- a field, there or not
by_field : (Z : Out (List (List ℕ)) → Type 0) (x l b : ℕ) (k : List ℕ → Fmt) (at : ℕ) (bs : List ℕ) → (length bs < l → (p : ℕ) → Z (bad 5 p))
    → (l ≤ length bs → Z (bind (read (k (take l bs)) (at + l) (drop l bs)) (λ cs r. good (take l bs ∷ cs) r))) → Z (read (field x l b k) at bs)
unfolding read
by_field Z x l b k at bs short there = go (ltb (length bs) l) refl
  where
    go : (t : Bool) → ltb (length bs) l ≡ t → Z (refuse_if t 5 (at - b) (bind (read (k (take l bs)) (at + l) (drop l bs)) (λ cs r. good (take l bs ∷ cs) r)))
    go true e = short (ltb-true _ _ e) (at - b)
    go false e = there (ltb-false _ _ e)

-- a check behind the last field, passed or not
by_check : (Z : Out (List (List ℕ)) → Type 0) (ok : Bool) (n b at : ℕ) (bs : List ℕ) → (ok ≡ false → (p : ℕ) → Z (bad (suc n) p)) → (ok ≡ true → Z (good [] bs))
    → Z (read (test (cond ok 0 (suc n)) b (end 0)) at bs)
unfolding read
by_check Z true n b at bs wrong right = right refl
by_check Z false n b at bs wrong right = wrong refl (at - b)

-- the view name in a message
abbrev pub name_of : List ℕ → List ℕ
name_of bs = take (num_at bs 4 2) (drop 6 bs)

-- what is found in the head: 5 where the name is cut short, 17 where all of it is there and is not text, and else its fields
pub by_name : (Z : Out (List (List ℕ)) → Type 0) (at : ℕ) (bs : List ℕ) → (length bs < 6 + num_at bs 4 2 → (p : ℕ) → Z (bad 5 p))
    → (6 + num_at bs 4 2 ≤ length bs → is_text (name_of bs) ≡ false → (p : ℕ) → Z (bad 17 p))
    → (6 + num_at bs 4 2 ≤ length bs → is_text (name_of bs) ≡ true → (cs : List (List ℕ)) (r : List ℕ) → Z (good cs r))
    → Z (read (table_head (end 0)) at bs)
unfolding num tested num_at
by_name Z at bs short wrong right =
    let n : ℕ = num_at bs 4 2 in
    let d : drop 2 (drop 4 bs) ≡ drop 6 bs = drop-drop 2 4 bs in
    let Y : Out (List (List ℕ)) → Type 0 = λ o. Z (bind o (λ cs r. good (take 4 bs ∷ cs) r)) in
    let X : Out (List (List ℕ)) → Type 0 = λ o. Y (bind o (λ cs r. good (take 2 (drop 4 bs) ∷ cs) r)) in
    by_field Z collector 4 0 _ at bs (λ h. short (omega arith)) λ a.
    by_field Y view_length 2 0 _ (at + 4) (drop 4 bs) (λ h. short (omega (arith, length-drop 4 bs))) λ b.
    rw d
    (by_field X view_name n 0 _ (at + 4 + 2) (drop 6 bs) (λ h. short (omega (arith, length-drop 6 bs))) λ c.
    let held : 6 + n ≤ length bs = omega (arith, length-drop 4 bs, length-drop 6 bs) in
    by_check (λ o. X (bind o (λ cs r. good (name_of bs ∷ cs) r))) (is_text (name_of bs)) 16 n (at + 4 + 2 + n) (drop n (drop 6 bs)) (wrong held) (λ e. right held e _ _))

-- ---- in a record

-- its message
abbrev pub message_in : List ℕ → List ℕ
message_in s = take (num_at s 8 4) (drop 12 s)

module _ (s : List ℕ) (whole : 12 + num_at s 8 4 ≤ length s) where
  -- as long as its Length says
  message_long : length (message_in s) ≡ num_at s 8 4
  message_long = length-take-le (num_at s 8 4) (drop 12 s) (rw length-drop (omega arith))

  -- a part of the message, where it stands in the record
  in_message : (i w : ℕ) → i + w ≤ num_at s 8 4 → take w (drop i (message_in s)) ≡ take w (drop (12 + i) s)
  in_message i w h =
      let n : ℕ = num_at s 8 4 in
      sym (part_first (message_in s) (drop n (drop 12 s)) i w (omega (arith, message_long)))
      ∙ ap (λ (x : List ℕ). take w (drop i x)) (take-append-drop n (drop 12 s)) ∙ ap (take w) (drop-drop i 12 s)

  -- the length of the name, where the message holds that
  length_in_message : 6 ≤ num_at s 8 4 → num_at (message_in s) 4 2 ≡ num_at s 16 2
  unfolding num_at
  length_in_message h = ap be (in_message 4 2 h)

  -- that the message holds all of the name, said of the message and of the record
  pub held_in_message : 6 + num_at s 16 2 ≤ num_at s 8 4 → 6 + num_at (message_in s) 4 2 ≤ length (message_in s)
  held_in_message h = omega (arith, message_long, length_in_message (omega arith))

  pub held_in_record : 6 + num_at (message_in s) 4 2 ≤ length (message_in s) → 6 + num_at s 16 2 ≤ num_at s 8 4
  held_in_record h = omega (arith, message_long, length_in_message (omega (arith, message_long)))

  -- which is then the same
  pub name_in_message : 6 + num_at s 16 2 ≤ num_at s 8 4 → name_of (message_in s) ≡ name_in s
  name_in_message h = rw (length_in_message (omega arith)) (in_message 6 (num_at s 16 2) h)
