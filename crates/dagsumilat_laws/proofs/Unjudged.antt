-- The entries of a record that was judged, met by their fields alone.
use mathlib.Core.Path.{◌≡◌, refl, ap, ◌∙◌}
use mathlib.Core.List.{List, [], ◌∷◌, ◌++◌}
use Prim.Native.Nat.{ℕ, ◌+◌, ◌≤◌}
use native.Mathlib.Omega.{arith}
use lib.ListN.{length, drop, length-append}
use Rattle.form_spec.specs.Octets.{be}
use Rattle.form_spec.specs.Fmt.{Fits, join}
use Rattle.form_spec.specs.Body.{AllFits}
use Rattle.form_spec.specs.Words.{num, skip, checked, tested}
use Rattle.form_laws.proofs.Pass.{Opens, pass_fits}
use Rattle.page_spec.specs.Rib.{tiling, attributes, entry}
use Rattle.record_spec.specs.Fields as show
use Rattle.std.specs.Prelude.{Ok}
use Rattle.form_spec.specs.Refusal.{refused}
use Rattle.record_spec.specs.Answer.{entry_fault, entry_end}
use Rattle.record_spec.specs.Items.{Finds, entry_of, Meets}
use Rattle.record_laws.proofs.Parts.{Parts, by_parts}
use Rattle.record_laws.proofs.Going.{Stand, meets}
use Rattle.record_laws.proofs.Item.{EntrySeen}
use Rattle.record_laws.proofs.Finds.{finds}
use Rattle.dagsumilat_spec.specs.Unjudged.{entry_fields, unjudged_at}

module _ (m : List ℕ) where
  fields-parts : (at : ℕ) → Parts m entry_fields at (EntrySeen m at)
  unfolding Parts entry_fields num skip
  fields-parts at =
      λ i hi o ho l hl x hx a.
      let e : at + length i + length o + length l ≡ at + length (join (i ∷ o ∷ l ∷ [])) = simp length-append (omega arith) in
      ap (λ (k : ℕ). Ok (record { index = be i; originated = be o; attributes = record { at = k; size = length x }; next = a })) e

  fields-shown : (at : ℕ) (c : List (List ℕ)) (rest : List ℕ) → at ≤ length m → Fits entry_fields c → join c ++ rest ≡ drop at m → unjudged_at m at ≡ entry_of at c
  fields-shown at c rest h fit e = pass_fits show.entry refused entry_fields m at c rest h fit e ∙ by_parts m entry_fields at (EntrySeen m at) (fields-parts at) c rest e fit (at + length (join c))

-- an entry that was judged has these fields
fields_fit : (n : ℕ) (c : List (List ℕ)) → Fits (entry n) c → Fits entry_fields c
unfolding Fits entry attributes tiling entry_fields num skip checked tested
fields_fit n [] h = absurd h
fields_fit n (i ∷ []) h = absurd h.2.1
fields_fit n (i ∷ o ∷ []) h = absurd h.2.1.2
fields_fit n (i ∷ o ∷ l ∷ []) h = absurd h.2.1.2.2
fields_fit n (i ∷ o ∷ l ∷ a ∷ x ∷ cs) h = absurd h.2.1.2.2.2.1
fields_fit n (i ∷ o ∷ l ∷ a ∷ []) h =
    let time = h.2.1 in
    let size = time.2 in
    let attrs = size.2 in
    (h.0, h.1, (time.0, time.1, (size.0, size.1, (attrs.0, attrs.1, tt))))

all_fields_fit : (n : ℕ) (its : List (List (List ℕ))) → AllFits (entry n) its → AllFits entry_fields its
all_fields_fit n [] h = tt
all_fields_fit n (c ∷ its) h = (fields_fit n c h.0, all_fields_fit n its h.1)

pub fields_meet : (m : List ℕ) (count n at stop : ℕ) (its : List (List (List ℕ))) → Stand m (entry count) n at stop its → Meets m (unjudged_at m) entry_end entry_of n at stop its
fields_meet m count n at stop its s =
    meets m entry_fields (unjudged_at m) entry_end entry_of (fields-shown m) (λ a c. refl) n at stop its
    (record { rest = s.rest; here = record { fits = all_fields_fit count its s.here.fits; many = s.here.many; lie = s.here.lie }; ends = s.ends; inside = s.inside })

-- it is found with the number and the place that the reader of these fields gives, wherever it is asked for
pub unjudged_finds : (m : List ℕ) (at : ℕ) → Finds entry_fields m at (entry_fault (unjudged_at m at)) (entry_end (unjudged_at m at))
unfolding Opens entry_fields num
unjudged_finds m at = finds show.entry refused entry_fault entry_end (λ fs a p. (refl, refl)) (λ n p. (refl, refl)) entry_fields tt m at
