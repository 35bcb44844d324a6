-- Reading what a writer did not refuse shows what it was given.
use mathlib.Core.Path.{◌≡◌, sym, ap, ◌∙◌}
use mathlib.Core.List.{List, [], ◌∷◌, ◌++◌}
use Prim.Native.Nat.{ℕ, ◌+◌}
use native.Mathlib.Omega.{arith}
use lib.ListN.{length, length-append}
use Rattle.form_spec.specs.Octets.{Octets, to_be}
use Rattle.form_spec.specs.Fmt.{good, Fmt, join}
use Rattle.form_spec.specs.Body.{joins, AllFits, Plan, just, free, many, Body, plain, loose, listed, spell, BodyFits}
use Rattle.form_spec.specs.Shape.{St, plan}
use Rattle.form_spec.specs.Record.{Rec, head, size, write, read_rec, Valid}
use Rattle.form_spec.specs.Put.{Given, octets, record_refusal}
use Rattle.form_spec.specs.Gives.{OctetsIn, Shaped, Gives}
use Rattle.form_laws.proofs.Octets.{octets-append, octets-to_be}
use Rattle.form_laws.proofs.Fmt.{fits-octets}
use Rattle.form_laws.proofs.Record.{length-write, complete_rec}
use Rattle.form_laws.proofs.Given.{shows}
use Rattle.page_spec.specs.Layout.{layout, kind}
use Rattle.page_spec.specs.Chosen.{Chosen}
use Rattle.record_spec.specs.Table.{Table}
use Rattle.record_spec.specs.Answer.{place}
use Rattle.record_spec.specs.One.{read_one}
use Rattle.write_spec.specs.Only.{writer, only}
use Rattle.record_spec.specs.Tells.{Tells}
use Rattle.record_spec.specs.Agrees.{Same}
use Rattle.record_laws.proofs.One.{one_record}
use Rattle.record_laws.proofs.Only.{only_own, refusal_own}

-- ---- what is written are octets

octets-joins : (g : Fmt) (its : List (List (List ℕ))) → AllFits g its → Octets (joins its)
octets-joins g [] h = tt
octets-joins g (c ∷ its) h = octets-append (join c) (joins its) (fits-octets g c h.0) (octets-joins g its h.1)

octets-spell : (p : Plan) (b : Body) → BodyFits p b → Octets (spell b)
unfolding BodyFits spell
octets-spell (just f) (plain cs) h = fits-octets f cs h
octets-spell (free f) (loose cs r) h = octets-append (join cs) r (fits-octets f cs h.0) h.1
octets-spell (many f g) (listed cs its) h =
    octets-append (join cs) (to_be 2 (length its) ++ joins its) (fits-octets f cs h.0) (octets-append (to_be 2 (length its)) (joins its) (octets-to_be 2 (length its)) (octets-joins g its h.2))
octets-spell (just f) (loose cs r) h = elim h [ ]
octets-spell (just f) (listed cs its) h = elim h [ ]
octets-spell (free f) (plain cs) h = elim h [ ]
octets-spell (free f) (listed cs its) h = elim h [ ]
octets-spell (many f g) (plain cs) h = elim h [ ]
octets-spell (many f g) (loose cs r) h = elim h [ ]

octets-head : (a b c d : List ℕ) → Octets a → Octets b → Octets c → Octets d → Octets (join (a ∷ b ∷ c ∷ d ∷ []))
octets-head a b c d p q r s =
    octets-append a (b ++ (c ++ (d ++ []))) p (octets-append b (c ++ (d ++ [])) q (octets-append c (d ++ []) r (octets-append d [] s tt)))

octets_rec : (longest : ℕ) (st : St) (r : Rec) → Valid (layout longest) st r → Octets (write r)
unfolding write
octets_rec longest st r v =
    octets-append (join (head r (length (spell r.body)))) (spell r.body)
    (octets-head (to_be 4 r.stamp) (to_be 2 r.type) (to_be 2 r.sub) (to_be 4 (length (spell r.body)))
    (octets-to_be 4 r.stamp) (octets-to_be 2 r.type) (octets-to_be 2 r.sub) (octets-to_be 4 (length (spell r.body))))
    (octets-spell (plan st (layout longest r.type r.sub)) r.body v.fits)

-- ---- the law

-- what reading shows of the octets that were written for g, whatever follows them: the record that g gives
pub record ShownBack (longest : ℕ) (g : Given) (s : List ℕ) (t : Table) : Type 0 where
  pub rec : Rec
  pub given : Gives g rec
  pub same : Same longest s rec (read_one longest t s)
  pub ends : place (read_one longest t s) ≡ length (octets g)

pub shows-fields : (longest : ℕ) (t : Table) (st : St) → Tells t st → (n : ℕ) (other : Chosen) (g : Given) → n ≡ writer (kind g.type g.sub) → record_refusal (only n other longest) st g ≡ 0
    → OctetsIn g.values → Shaped (plan st (layout longest g.type g.sub)) g.tail → (q : List ℕ) → Octets q → ShownBack longest g (octets g ++ q) t
shows-fields longest t st tells n other g w e o h q oq =
    let own = only_own n other longest g.type g.sub w in
    let z = shows (layout longest) st g (sym (refusal_own (only n other longest) (layout longest) st g own) ∙ e) o h in
    let s : List ℕ = octets g ++ q in
    let k : length s ≡ length (octets g) + length q = length-append (octets g) q in
    let l : length (octets g) ≡ size z.0 = ap length (sym z.3) ∙ length-write z.0 in
    let c : Octets s = octets-append (octets g) q (rw z.3 at (octets_rec longest st z.0 z.2)) oq in
    let d : read_rec (layout longest) st 0 s ≡ good z.0 q = rw z.3 at (complete_rec (layout longest) st 0 z.0 q z.2) in
    let x : Same longest s z.0 (read_one longest t s) = rw d at (one_record longest t st tells s c (omega arith)) in
    record { rec = z.0; given = z.1; same = x; ends = x.ends ∙ sym l }
