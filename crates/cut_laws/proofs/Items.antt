-- A record with items: where they lie, and what is written of it with other items.
use mathlib.Core.Path.{◌≡◌, refl, sym, ap, ◌∙◌, subst}
use mathlib.Core.List.{List, ◌++◌, append_assoc, append-nil}
use Prim.Native.Nat.{ℕ, ◌+◌, ◌-◌, ◌<◌}
use native.Mathlib.Omega.{arith}
use lib.ListN.{length, take, drop, length-append}
use lib.Seq.{take_at, drop_at, drop-drop, take-append_seam}
use Rattle.form_spec.specs.Octets.{to_be}
use Rattle.form_spec.specs.Fmt.{Fmt, join}
use Rattle.form_spec.specs.Body.{Body, listed, many, joins, spell, AllFits, BodyFits, plain, loose}
use Rattle.form_spec.specs.Record.{Rec, write, size}
use Rattle.form_spec.specs.Put as put
use Rattle.form_spec.specs.Gives.{tail_of}
use Rattle.form_laws.proofs.Octets.{length-to_be}
use Rattle.form_laws.proofs.Record.{length-write}
use Rattle.record_spec.specs.declared.Part.{Part}
use Rattle.record_spec.specs.Answer.{within}
use Rattle.form_spec.specs.Found.{Lie, items}
use Rattle.cut_spec.specs.One.{items_left}
use Rattle.form_laws.proofs.Found.{lie_of}
use Rattle.record_laws.proofs.Items.{items_stand}

-- the record with other items
abbrev pub with_items : Rec → List (List ℕ) → List (List (List ℕ)) → Rec
with_items r cs its = record { stamp = r.stamp; type = r.type; sub = r.sub; body = listed cs its }

parts : (a b s l x y bs : List ℕ) → length a ≡ 4 → length b ≡ 2 → length s ≡ 2 → length l ≡ 4 → a ++ (b ++ (s ++ (l ++ (x ++ y)))) ≡ bs
    → (take 8 bs ≡ a ++ (b ++ s)) × (take (length x) (drop 12 bs) ≡ x)
parts a b s l x y bs ea eb es el e =
    let n8 : length (a ++ (b ++ s)) ≡ 8 = simp length-append (omega arith) in
    let n12 : length (a ++ (b ++ (s ++ l))) ≡ 12 = simp length-append (omega arith) in
    let r8 : a ++ (b ++ (s ++ (l ++ (x ++ y)))) ≡ (a ++ (b ++ s)) ++ (l ++ (x ++ y)) = simp append_assoc in
    let r12 : a ++ (b ++ (s ++ (l ++ (x ++ y)))) ≡ (a ++ (b ++ (s ++ l))) ++ (x ++ y) = simp append_assoc in
    (rw (← e, r8) (take_at (a ++ (b ++ s)) (l ++ (x ++ y)) 8 n8), rw (← e, r12, drop_at (a ++ (b ++ (s ++ l))) (x ++ y) 12 n12) (take-append_seam x y))

module _ (r : Rec) (cs : List (List ℕ)) (its : List (List (List ℕ))) (d : List ℕ) (at : ℕ) (rest : List ℕ) (lie : write (with_items r cs its) ++ rest ≡ drop at d) where
  pub items_left_lem : (jts : List (List (List ℕ))) → write (with_items r cs jts) ≡ items_left d at (length (join cs)) jts
  unfolding write spell items_left
  items_left_lem jts =
      let a : List ℕ = to_be 4 r.stamp in
      let b : List ℕ = to_be 2 r.type in
      let s : List ℕ = to_be 2 r.sub in
      let n : ℕ = length (join cs ++ (to_be 2 (length its) ++ joins its)) in
      let m : ℕ = length (join cs ++ (to_be 2 (length jts) ++ joins jts)) in
      let k : m ≡ length (join cs) + 2 + length (joins jts) = simp (length-append, length-to_be) (omega arith) in
      let e2 : a ++ (b ++ (s ++ (to_be 4 n ++ (join cs ++ (to_be 2 (length its) ++ (joins its ++ rest)))))) ≡ drop at d = simp (append_assoc, append-nil) at lie in
      let p = parts a b s (to_be 4 n) (join cs) (to_be 2 (length its) ++ (joins its ++ rest)) (drop at d) (length-to_be 4 r.stamp) (length-to_be 2 r.type) (length-to_be 2 r.sub) (length-to_be 4 n) e2 in
      let p2 : take (length (join cs)) (drop (at + 12) d) ≡ join cs = rw drop-drop at p.1 in
      rw (p.0, p2, ← k) (simp (append_assoc, append-nil))

pub size-items : (r : Rec) (cs : List (List ℕ)) (its : List (List (List ℕ))) → size (with_items r cs its) ≡ 14 + length (join cs) + length (joins its)
unfolding spell
size-items r cs its = simp (length-append, length-to_be) (omega arith)

-- ---- the items that reading showed

-- n items of a format lie behind the record's front, from a on
pub record Held (d : List ℕ) (at : ℕ) (r : Rec) (item : Fmt) (a n : ℕ) : Type 0 where
  pub lie : Lie item n (drop (at + a) d)
  pub few : n < 65536
  pub fields : List (List ℕ)
  pub starts : a ≡ 14 + length (join fields)
  pub body : r.body ≡ listed fields (items item n (drop (at + a) d))
  pub fit : AllFits item (items item n (drop (at + a) d))
  pub many : length (items item n (drop (at + a) d)) ≡ n
  pub all : a + length (joins (items item n (drop (at + a) d))) ≡ size r
  -- with other items
  pub other : (jts : List (List (List ℕ))) → write (with_items r fields jts) ≡ items_left d at (a - 14) jts

module _ (d : List ℕ) (at : ℕ) (r : Rec) (rest : List ℕ) (lie : write r ++ rest ≡ drop at d) (f g : Fmt) (p : Part) (n : ℕ)
    (reach : p.at + p.size ≡ size r) where
  held_items : (cs : List (List ℕ)) (its : List (List (List ℕ))) → r.body ≡ listed cs its → BodyFits (many f g) (listed cs its) → put.items n (within (drop at d) p) ≡ tail_of (listed cs its)
      → Held d at r g p.at n
  unfolding BodyFits
  held_items cs its e fits t =
      let er : r ≡ with_items r cs its = ap (λ (b : Body). record { stamp = r.stamp; type = r.type; sub = r.sub; body = b }) e in
      let z : size r ≡ 14 + length (join cs) + length (joins its) = ap (λ (x : Rec). size x) er ∙ size-items r cs its in
      let ls : size r + length rest ≡ length (drop at d) = ap (λ (x : ℕ). x + length rest) (sym (length-write r)) ∙ sym (length-append (write r) rest) ∙ ap length lie in
      let i = items_stand (drop at d) f g (listed cs its) fits p n t (omega arith) in
      let a : p.at ≡ 14 + length (join cs) = omega (arith, i.ends) in
      let there : write (with_items r cs its) ++ rest ≡ drop at d = subst (λ (x : Rec). write x ++ rest ≡ drop at d) er lie in
      let q = lie_of g n (drop (at + p.at) d) its i.rest (rw drop-drop at i.here) in
      let v : length (join cs) ≡ p.at - 14 = omega arith in
      record {
        lie = q.0;
        few = rw i.here.many at fits.1;
        fields = cs;
        starts = a;
        body = rw q.1 e;
        fit = rw q.1 fits.2;
        many = rw q.1 i.here.many;
        all = rw q.1 (i.ends ∙ reach);
        other = λ jts. items_left_lem r cs its d at rest there jts ∙ ap (λ (x : ℕ). items_left d at x jts) v;
      }

  pub held : BodyFits (many f g) r.body → put.items n (within (drop at d) p) ≡ tail_of r.body → Held d at r g p.at n
  unfolding BodyFits
  held h t = go r.body refl h t
    where
      go : (b : Body) → r.body ≡ b → BodyFits (many f g) b → put.items n (within (drop at d) p) ≡ tail_of b → Held d at r g p.at n
      go (listed cs its) e h t = held_items cs its e h t
      go (plain _) e h t = elim h [ ]
      go (loose _ _) e h t = elim h [ ]
