-- What is the same for all layouts: a fault, the end of a record and its time.
use mathlib.Core.Path.{◌≡◌, refl, sym, ap, ◌∙◌}
use mathlib.Core.List.{List, ◌∷◌, ◌++◌, append_assoc}
use Prim.Native.Nat.{ℕ, ◌+◌, ◌-◌, ◌<◌, ◌≤◌}
use native.Mathlib.Omega.{arith}
use lib.ListN.{length, take, drop, length-append, length-drop}
use lib.Seq.{take_at}
use Rattle.form_spec.specs.Octets.{Octets, to_be}
use Rattle.form_spec.specs.Fmt.{Out, bad, good, bind, Fmt, Fits, join}
use Rattle.form_spec.specs.Body.{joins, Body, plain, loose, listed, just, free, many, read_body, spell, BodyFits}
use Rattle.form_spec.specs.Record.{Rec, time_of}
use Rattle.form_spec.specs.Shape.{micros_in}
use Rattle.form_spec.specs.Pass.{Seen, pass, whole, ◌⨾◌, counted}
use Rattle.form_spec.specs.Gives.{Gives}
use Rattle.form_laws.proofs.Octets.{octets-drop}
use Rattle.form_laws.proofs.Body.{RightBody, sound-body}
use Rattle.form_laws.proofs.Pass.{seen}
use Rattle.form_laws.proofs.Then.{flat}
use Rattle.form_laws.proofs.Whole.{outcome_body, whole_body, outcome_free, pass_free}
use Rattle.form_laws.proofs.Many.{flat_body, whole_many}
use Rattle.page_spec.specs.Layout.{layout, layout_for, kind}
use Rattle.page_spec.specs.Chosen.{Chosen}
use Rattle.record_spec.specs.declared.Header.{Header}
use Rattle.record_spec.specs.Shown.{Shown}
use Rattle.record_spec.specs.Answer.{fault, place, header_of}
use Rattle.write_spec.specs.Only.{writer}
use Rattle.record_spec.specs.Again.{again}
use Rattle.record_spec.specs.Agrees.{writer_of, Typed, Same, Agrees}
use Rattle.record_laws.proofs.Parts.{rest_here}
use Rattle.form_spec.specs.Refusal.{refused}

abbrev pub head : (timestamp type sub length microseconds : ℕ) → Header
head t y u l n = record { timestamp = t; ty = y; subtype = u; length = l; microseconds = n }

abbrev pub rec : (timestamp type sub : ℕ) → Body → Rec
rec t y u b = record { stamp = t; type = y; sub = u; body = b }

-- m is a record's octets, len those of its message, and q what stands behind it
pub record Stands (s m q : List ℕ) (len : ℕ) : Type 0 where
  pub octets : Octets m
  pub size : length m ≡ 12 + len
  pub here : drop 12 m ++ q ≡ drop 12 s

module _ (longest : ℕ) (s m q : List ℕ) (t y u len : ℕ) (l : Stands s m q len) where
  -- a message whose octets are those of b
  pub same : (k : Chosen) → kind y u ≡ k → (b : Body) → spell b ≡ drop 12 m → (n : ℕ) (x : Shown) → fault x ≡ 0 → place x ≡ 12 + len → header_of x ≡ head t y u len n
      → n ≡ micros_in (layout_for longest k) b → writer_of x ≡ writer k → Typed s x → Gives (again s x) (rec t y u b) → Same longest s (rec t y u b) x
  unfolding time_of layout
  same k kd b e n x f p h d w v g =
      let z : length (spell b) ≡ length m - 12 = ap length e ∙ length-drop 12 m in
      let c : length (spell b) ≡ len = omega arith in
      record { accepted = f; ends = p ∙ omega arith; timed = rw (h, kd, d); headed = rw (kd, ← d, c) h; typed = v; whose = rw kd w; gives = g }

  -- what stands behind the front of a message
  pub rest_is : (front c : List ℕ) (a : ℕ) → front ++ c ≡ drop 12 m → a ≡ 12 + length front → take (length m - a) (drop a s) ≡ c
  rest_is front c a e d =
      let z : length front + length c ≡ length m - 12 = sym (length-append front c) ∙ ap length e ∙ length-drop 12 m in
      let j : front ++ (c ++ q) ≡ drop 12 s = sym (append_assoc front c q) ∙ rw e l.here in
      let x : length c ≡ length m - (12 + length front) = omega arith in
      rw (d, ← (rest_here s front (c ++ q) 12 j)) (take_at c q (length m - (12 + length front)) x)

  -- of the reading of the message
  abbrev pub Reads : Out Body → Shown → Type 0
  Reads o x = Agrees longest s (bind o (λ b z. good (rec t y u b) q)) x

  room : 12 ≤ length m
  room = omega arith

  -- fields alone
  pub fields_agree : (f : Fmt) (to : List Seen → Shown) → ((cs : List (List ℕ)) → Fits f cs → join cs ≡ drop 12 m → Same longest s (rec t y u (plain cs)) (to (seen f 12 cs)))
      → Reads (read_body (just f) 12 (drop 12 m)) (whole to refused f m 12)
  unfolding outcome_body BodyFits spell
  fields_agree f to h = rw (whole_body to refused f m 12 room) (go (read_body (just f) 12 (drop 12 m)) (sound-body (just f) 12 (drop 12 m) (octets-drop 12 m l.octets)))
    where
      go : (o : Out Body) → RightBody (just f) (drop 12 m) o → Reads o (outcome_body to refused f 12 o)
      go (bad n p) r = refl
      go (good (plain cs) z) r = h cs r.0 r.1
      go (good (loose cs a) z) r = absurd r.0
      go (good (listed cs its) z) r = absurd r.0

  -- fields, and then anything
  pub free_agree : (f : Fmt) (to : List Seen → ℕ → Shown)
      → ((cs : List (List ℕ)) (c : List ℕ) → Fits f cs → join cs ++ c ≡ drop 12 m → Same longest s (rec t y u (loose cs c)) (to (seen f 12 cs) (12 + length (join cs))))
      → Reads (read_body (free f) 12 (drop 12 m)) (pass (λ fs a p. to fs a) refused f m 12)
  unfolding outcome_free BodyFits spell
  free_agree f to h = rw (pass_free to refused f m 12 room) (go (read_body (free f) 12 (drop 12 m)) (sound-body (free f) 12 (drop 12 m) (octets-drop 12 m l.octets)))
    where
      go : (o : Out Body) → RightBody (free f) (drop 12 m) o → Reads o (outcome_free to refused f 12 o)
      go (bad n p) r = refl
      go (good (plain cs) z) r = absurd r.0
      go (good (loose cs a) z) r = h cs a r.0.0 r.1
      go (good (listed cs its) z) r = absurd r.0

  -- fields, a count and items
  pub many_agree : (x : ℕ) (f g : Fmt) (to : List Seen → Shown)
      → ((cs : List (List ℕ)) (its : List (List (List ℕ))) → Fits f cs → length its < 65536 → join cs ++ (to_be 2 (length its) ++ joins its) ≡ drop 12 m
      → Same longest s (rec t y u (listed cs its)) (to (seen (f ⨾ counted x g) 12 (cs ++ (to_be 2 (length its) ∷ flat its)))))
      → Reads (read_body (many f g) 12 (drop 12 m)) (whole to refused (f ⨾ counted x g) m 12)
  unfolding outcome_body BodyFits spell
  many_agree x f g to h =
      rw (whole_many to refused x f g m 12 room (octets-drop 12 m l.octets)) (go (read_body (many f g) 12 (drop 12 m)) (sound-body (many f g) 12 (drop 12 m) (octets-drop 12 m l.octets)))
    where
      go : (o : Out Body) → RightBody (many f g) (drop 12 m) o → Reads o (outcome_body to refused (f ⨾ counted x g) 12 (flat_body o))
      go (bad n p) r = refl
      go (good (plain cs) z) r = absurd r.0
      go (good (loose cs a) z) r = absurd r.0
      go (good (listed cs its) z) r = h cs its r.0.0 r.0.1 r.1
