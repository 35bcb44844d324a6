-- What is read as a record is what its grammar says, both ways.
use mathlib.Core.Path.{◌≡◌, refl, sym, ◌∙◌, subst}
use mathlib.Core.List.{List, [], ◌∷◌, ◌++◌, append_assoc}
use Prim.Native.Nat.{ℕ, ◌+◌, ◌^◌, ◌≤◌, ◌<◌}
use native.Mathlib.Omega.{arith}
use lib.ListN.{length, take, drop, length-append, take-append-drop}
use lib.Seq.{take_at, drop_at, length-take-le}
use lib.Dec.{ltb}
use borrow.Author.Tests.{ltb-false, le-ltb}
use Rattle.form_spec.specs.Octets.{Octets, to_be}
use Rattle.form_spec.specs.Fmt.{Out, bad, good, bind, read, Fits, join}
use Rattle.form_spec.specs.Body.{Body, spell, read_body}
use Rattle.form_spec.specs.Shape.{Layout, St, plan, number}
use Rattle.form_spec.specs.Record.{Rec, header, head, write, size, rec_of, read_rec, Valid}
use Rattle.form_laws.proofs.Octets.{octets-take, octets_right, octets-to_be, length-to_be, be-to_be, to_be_at, be_below}
use Rattle.form_laws.proofs.Fmt.{Right, right_bind, refuse_case, sound, complete}
use Rattle.form_laws.proofs.Body.{RightBody, sound-body, complete_body}

-- a header's fields are four, and their octets are those of their numbers
header_is : (cs : List (List ℕ)) → Fits header cs
    → (join cs ≡ to_be 4 (number 0 cs) ++ (to_be 2 (number 1 cs) ++ (to_be 2 (number 2 cs) ++ (to_be 4 (number 3 cs) ++ []))))
    × (number 0 cs < 256 ^ 4) × (number 1 cs < 256 ^ 2) × (number 2 cs < 256 ^ 2) × (number 3 cs < 256 ^ 4)
unfolding Fits
header_is (t ∷ []) h = absurd h.2
header_is (t ∷ y ∷ []) h = absurd h.2.2
header_is (t ∷ y ∷ s ∷ []) h = absurd h.2.2.2
header_is (t ∷ y ∷ s ∷ l ∷ x ∷ xs) h = absurd h.2.2.2.2
header_is (t ∷ y ∷ s ∷ l ∷ []) h = (
  rw (to_be_at 4 t h.0 h.1, to_be_at 2 y h.2.0 h.2.1, to_be_at 2 s h.2.2.0 h.2.2.1, to_be_at 4 l h.2.2.2.0 h.2.2.2.1),
  be_below 4 t h.0 h.1,
  be_below 2 y h.2.0 h.2.1,
  be_below 2 s h.2.2.0 h.2.2.1,
  be_below 4 l h.2.2.2.0 h.2.2.2.1,
)
header_is [] h = elim h [ ]

fits_head : (r : Rec) (n : ℕ) → Fits header (head r n)
unfolding Fits
fits_head r n =
    (length-to_be 4 _, octets-to_be 4 _, (length-to_be 2 _, octets-to_be 2 _, (length-to_be 2 _, octets-to_be 2 _, (length-to_be 4 _, octets-to_be 4 _, tt))))

pub length-write : (r : Rec) → length (write r) ≡ size r
unfolding write
length-write r = simp (length-append, length-to_be) (omega arith)

module _ (layout : ℕ → ℕ → Layout) where
  -- a message whose header is written is read by its type and subtype
  pub read-message : (st : St) (at : ℕ) (r : Rec) (b q : List ℕ) → r.stamp < 256 ^ 4 → r.type < 256 ^ 2 → r.sub < 256 ^ 2 → length b < 256 ^ 4
      → read_rec layout st at (join (head r (length b)) ++ (b ++ q))
      ≡ bind (read_body (plan st (layout r.type r.sub)) (at + 12) b) (λ y p. good (record { stamp = r.stamp; type = r.type; sub = r.sub; body = y }) q)
  unfolding read_rec
  read-message st at r b q t y u n =
      let m : ℕ = length b in
      let g : 12 ≤ length (join (head r m) ++ (b ++ q)) = simp (length-append, length-to_be) (omega arith) in
      let g2 : m ≤ length (b ++ q) = simp length-append (omega arith) in
      rw (le-ltb _ _ g, complete header at (head r m) (b ++ q) (fits_head r m))
      (rw (be-to_be 4 m n, be-to_be 4 r.stamp t, be-to_be 2 r.type y, be-to_be 2 r.sub u, le-ltb _ _ g2, take_at b q m refl, drop_at b q m refl))

  pub complete_rec : (st : St) (at : ℕ) (r : Rec) (q : List ℕ) → Valid layout st r → read_rec layout st at (write r ++ q) ≡ good r q
  unfolding write
  complete_rec st at r q v =
      let b : List ℕ = spell r.body in
      rw (append_assoc (join (head r (length b))) b q)
      (read-message st at r b q v.stamp v.type v.sub v.size ∙ rw (complete_body (plan st (layout r.type r.sub)) (at + 12) r.body v.fits))

  right_body : (st : St) (d m : List ℕ) (cs : List (List ℕ)) → Fits header cs → join cs ++ m ≡ d → number 3 cs ≤ length m → (o : Out Body)
      → RightBody (plan st (layout (number 1 cs) (number 2 cs))) (take (number 3 cs) m) o
      → Right (Valid layout st) write d (bind o (λ b q. good (rec_of cs b) (drop (number 3 cs) m)))
  unfolding write
  right_body st d m cs f e g (bad n p) h = h
  right_body st d m cs f e g (good b q) h =
      let k = header_is cs f in
      let l : length (spell b) ≡ number 3 cs = rw h.1 (length-take-le (number 3 cs) m g) in (
        record { stamp = k.1; type = k.2; sub = k.3; size = rw l k.4; fits = h.0 },
        rw (append_assoc, l, ← k.0, h.1, take-append-drop) e,
      )

  pub sound_rec : (st : St) (at : ℕ) (d : List ℕ) → Octets d → Right (Valid layout st) write d (read_rec layout st at d)
  unfolding read_rec
  sound_rec st at d oc =
      refuse_case (Right (Valid layout st) write d) 1 at _ (ltb (length d) 12) (λ z. omega arith)
      (λ t. right_bind (Fits header) join (Right (Valid layout st) write d) d (read header at d) _ (λ n p z. z) (sound header at d oc)
      (λ cs m f e. refuse_case (Right (Valid layout st) write d) 2 at _ (ltb (length m) (number 3 cs)) (λ z. omega arith)
      (λ u. right_body st d m cs f e (ltb-false _ _ u) (read_body (plan st (layout (number 1 cs) (number 2 cs))) (at + 12) (take (number 3 cs) m))
      (sound-body _ (at + 12) (take (number 3 cs) m) (octets-take (number 3 cs) m (octets_right (join cs) m (subst Octets (sym e) oc)))))))
