-- The check passes exactly text: by the grammar, whose sequences are the spellings of scalar values.
use mathlib.Core.Path.{◌≡◌, refl, sym, ◌∙◌}
use mathlib.Core.Bool.{Bool, true, false, false≢true}
use mathlib.Core.Logic.{◌↔◌}
use mathlib.Core.List.{List, [], ◌∷◌, map}
use Prim.Native.Nat.{ℕ}
use Rattle.form_spec.specs.Fmt.{join}
use Rattle.text_spec.specs.Text.{spell, spells, Scalars, Spelled, Text}
use Rattle.text_spec.specs.Grammar.{Sequences, Parsed}
use Rattle.text_spec.specs.Check.{is_text}
use Rattle.text_laws.proofs.Rows.{parsed_passes, passes_parsed}
use Rattle.text_laws.proofs.Values.{form_valued, value-formed}

-- ---- text is parsed, each value's spelling a sequence

each_formed : (us : List ℕ) → Scalars us → Sequences (map spell us)
each_formed [] h = tt
each_formed (u ∷ us) h = (value-formed u h.0, each_formed us h.1)

joined-spells : (us : List ℕ) → join (map spell us) ≡ spells us
joined-spells [] = refl
joined-spells (u ∷ us) = rw (joined-spells us)

spelled_parsed : (bs us : List ℕ) → Spelled bs us → Parsed bs
spelled_parsed bs us s = record { parts = map spell us; formed = each_formed us s.scalar; joined = rw (joined-spells us) s.octets }

-- ---- what is parsed is text

joined_text : (cs : List (List ℕ)) → Sequences cs → Text (join cs)
joined_text [] h = record { values = []; spelled = record { scalar = tt; octets = refl } }
joined_text (c ∷ cs) h =
    let v = form_valued c h.0 in
    let t = joined_text cs h.1 in
    record { values = v.value ∷ t.values; spelled = record { scalar = (v.scalar, t.spelled.scalar); octets = rw (v.octets, t.spelled.octets) } }

-- ---- exactly

pub passes : (bs : List ℕ) → Text bs → is_text bs ≡ true
passes bs t = parsed_passes bs (spelled_parsed bs t.values t.spelled)

pub spelled : (bs : List ℕ) → is_text bs ≡ true → Text bs
spelled bs e = let p = passes_parsed bs e in rw p.joined at (joined_text p.parts p.formed)

pub fails : (bs : List ℕ) → (is_text bs ≡ false) ↔ (Text bs → ⊥)
fails bs = (λ e t. false≢true (sym e ∙ passes bs t), go (is_text bs) refl)
  where
    go : (b : Bool) → is_text bs ≡ b → (Text bs → ⊥) → is_text bs ≡ false
    go true e h = absurd (h (spelled bs e))
    go false e h = e
