-- Writing what was read restores the octets; reading what a writer did not refuse shows what it was given.
use mathlib.Core.Path.{◌≡◌, refl, sym, ap₂, ◌∙◌}
use mathlib.Core.List.{List, [], ◌∷◌, ◌++◌, append_assoc, append-nil}
use Prim.Native.Nat.{ℕ}
use native.Mathlib.Omega.{arith}
use lib.ListN.{length}
use Rattle.form_spec.specs.Fmt.{Out, bad, good, Fmt, Fits, join}
use Rattle.form_spec.specs.Body.{read_n, joins, AllFits, Items, Plan, just, free, many, Body, plain, loose, listed, spell, BodyFits}
use Rattle.form_spec.specs.Shape.{Layout, refuse, fields, unread, table, entries, St, plan, front_of}
use Rattle.form_spec.specs.Record.{Rec, write, read_rec, Valid}
use Rattle.form_spec.specs.Put.{Value, large, refusal, lay, Tail, items, tailed, fault_of, body_refusal, Given, message, octets, type_refusal, fields_refusal, record_refusal}
use Rattle.form_spec.specs.Gives.{Fit, OctetsIn, tail_of, Shaped, Gives}
use Rattle.form_laws.proofs.Fmt.{Right}
use Rattle.form_laws.proofs.Body.{sound_n, complete_n}
use Rattle.form_laws.proofs.Record.{complete_rec}
use Rattle.form_laws.proofs.Put.{or_else-zero, zero-or_else, large_zero, zero_large, refusal-fit, refusal-fits, fits-refusal}

-- ---- the same octets

spell-parts : (b : Body) → join (front_of b) ++ tailed (tail_of b) ≡ spell b
unfolding spell
spell-parts (plain cs) = append-nil (join cs)
spell-parts (loose cs r) = refl
spell-parts (listed cs its) = refl

message-spell : (g : Given) (r : Rec) → Gives g r → message g ≡ spell r.body
message-spell g r h = rw (h.front, h.tail) (spell-parts r.body)

pub octets-write : (g : Given) (r : Rec) → Gives g r → octets g ≡ write r
unfolding octets write
octets-write g r h = simp (append_assoc, message-spell g r h, h.stamp, h.type, h.sub)

-- ---- what is valid is not refused

type-valid : (st : St) (l : Layout) (b : Body) → BodyFits (plan st l) b → type_refusal l ≡ 0
unfolding plan BodyFits Fits
type-valid st (refuse n k) (plain cs) h = rw h.0
type-valid st (fields f) b h = refl
type-valid st (unread f) b h = refl
type-valid st (table f g) b h = refl
type-valid st (entries f g) b h = refl
type-valid st (refuse n k) (loose _ _) h = elim h [ ]
type-valid st (refuse n k) (listed _ _) h = elim h [ ]

items-valid : (g : Fmt) (its : List (List (List ℕ))) → AllFits g its → fault_of (read_n g (length its) 0 (joins its)) ≡ 0
items-valid g its h =
    let e : read_n g (length its) 0 (joins its) ≡ good its [] = rw append-nil at (complete_n g 0 its [] h) in
    rw e

body-valid : (p : Plan) (b : Body) (vs : List Value) → Fit vs → lay vs ≡ front_of b → BodyFits p b → body_refusal p vs (tail_of b) ≡ 0
unfolding body_refusal BodyFits
body-valid (just f) (plain cs) vs h e q = fits-refusal f vs h (rw e q)
body-valid (free f) (loose cs r) vs h e q = fits-refusal f vs h (rw e q.0)
body-valid (many f g) (listed cs its) vs h e q =
    zero-or_else (refusal f vs) _ (fits-refusal f vs h (rw e q.0))
    (zero-or_else (large 2 (length its)) _ (zero_large 2 (length its) q.1) (items-valid g its q.2))
body-valid (just f) (loose cs r) vs h e q = elim q [ ]
body-valid (just f) (listed cs its) vs h e q = elim q [ ]
body-valid (free f) (plain cs) vs h e q = elim q [ ]
body-valid (free f) (listed cs its) vs h e q = elim q [ ]
body-valid (many f g) (plain cs) vs h e q = elim q [ ]
body-valid (many f g) (loose cs r) vs h e q = elim q [ ]

-- ---- what is not refused is shown

-- a body of the plan with those fields and that tail
abbrev Shown : Plan → List Value → Tail → Type 0
Shown p vs t = (b : Body) × Fit vs × (lay vs ≡ front_of b) × (t ≡ tail_of b) × BodyFits p b

-- items that the reader takes whole are those of a list
items_shown : (g : Fmt) (n : ℕ) (raw : List ℕ) (o : Out (List (List (List ℕ)))) → Right (Items g n) joins raw o → fault_of o ≡ 0
    → (its : List (List (List ℕ))) × AllFits g its × (n ≡ length its) × (raw ≡ joins its)
items_shown g n raw (bad m p) h e = absurd (h e)
items_shown g n raw (good its []) h e = (its, h.0.0, sym h.0.1, sym h.1 ∙ append-nil (joins its))
items_shown g n raw (good its (x ∷ r)) h e = absurd (omega arith)

body-shown : (p : Plan) (vs : List Value) (t : Tail) → body_refusal p vs t ≡ 0 → OctetsIn vs → Shaped p t → Shown p vs t
unfolding body_refusal BodyFits
body-shown (just f) vs t e o s = (plain (lay vs), refusal-fit f vs e, refl, s, refusal-fits f vs o e)
body-shown (free f) vs t e o s = (loose (lay vs) s.0, refusal-fit f vs e, refl, s.1, (refusal-fits f vs o e, s.2))
body-shown (many f g) vs t e o (n, raw, d, c) =
    let z = or_else-zero (refusal f vs) _ e in
    let y = or_else-zero (large 2 n) (fault_of (read_n g n 0 raw)) (rw d at z.1) in
    let i = items_shown g n raw (read_n g n 0 raw) (sound_n g n 0 raw c) y.1 in (
      listed (lay vs) i.0,
      refusal-fit f vs z.0,
      refl,
      d ∙ ap₂ items i.2 i.3,
      (refusal-fits f vs o z.0, rw i.2 at (large_zero 2 n y.0), i.1),
    )

-- ---- records

module _ (layout : ℕ → ℕ → Layout) where
  -- writing what was read restores the octets
  pub restores : (st : St) (g : Given) (r : Rec) → Valid layout st r → Gives g r → (record_refusal layout st g ≡ 0) × (octets g ≡ write r)
  unfolding fields_refusal record_refusal
  restores st g r v h =
      let p : Plan = plan st (layout r.type r.sub) in
      let b : body_refusal p g.values (tail_of r.body) ≡ 0 = body-valid p r.body g.values h.fit h.front v.fits in (
        rw (
          message-spell g r h,
          h.stamp,
          h.type,
          h.sub,
          h.tail,
          zero_large 4 r.stamp v.stamp,
          zero_large 2 r.type v.type,
          type-valid st (layout r.type r.sub) r.body v.fits,
          zero_large 2 r.sub v.sub,
          b,
          zero_large 4 (length (spell r.body)) v.size,
        ),
        octets-write g r h,
      )

  -- reading what a writer did not refuse shows what it was given
  pub shows : (st : St) (g : Given) → record_refusal layout st g ≡ 0 → OctetsIn g.values → Shaped (plan st (layout g.type g.sub)) g.tail
      → (r : Rec) × Gives g r × Valid layout st r × (write r ≡ octets g)
  unfolding fields_refusal record_refusal
  shows st g e o s =
      let z0 = or_else-zero (fields_refusal layout st g) _ e in
      let z1 = or_else-zero (large 4 g.stamp) _ z0.0 in
      let z2 = or_else-zero (large 2 g.type) _ z1.1 in
      let z3 = or_else-zero (type_refusal (layout g.type g.sub)) _ z2.1 in
      let z4 = or_else-zero (large 2 g.sub) _ z3.1 in
      let b = body-shown (plan st (layout g.type g.sub)) g.values g.tail z4.1 o s in
      let r : Rec = record { stamp = g.stamp; type = g.type; sub = g.sub; body = b.0 } in
      let h : Gives g r = record { stamp = refl; type = refl; sub = refl; fit = b.1; front = b.2; tail = b.3 } in
      let v : Valid layout st r = record {
        stamp = large_zero 4 g.stamp z1.0;
        type = large_zero 2 g.type z2.0;
        sub = large_zero 2 g.sub z4.0;
        size = rw (message-spell g r h) at (large_zero 4 (length (message g)) z0.1);
        fits = b.4;
      } in
      (r, h, v, sym (octets-write g r h))

  pub shows-read : (st : St) (at : ℕ) (g : Given) (q : List ℕ) → record_refusal layout st g ≡ 0 → OctetsIn g.values
      → Shaped (plan st (layout g.type g.sub)) g.tail → (r : Rec) × Gives g r × (read_rec layout st at (octets g ++ q) ≡ good r q)
  shows-read st at g q e o s =
      let z = shows st g e o s in
      (z.0, z.1, rw z.3 at (complete_rec layout st at z.0 q z.2))
