-- The check passes just what the grammar parses.
use mathlib.Core.Path.{◌≡◌, refl, ap, ◌∙◌}
use mathlib.Core.Bool.{true}
use mathlib.Core.List.{List, [], ◌∷◌}
use Prim.Native.Nat.{ℕ, zero, suc, ◌+◌, ◌≤◌}
use native.Mathlib.Omega.{arith}
use lib.ListN.{length, length-append}
use Rattle.form_spec.specs.Fmt.{join}
use Rattle.text_spec.specs.Grammar.{Sequences, Parsed}
use Rattle.text_spec.specs.Check.{goes_on, is_text}
use Rattle.text_laws.proofs.Sequence.{form_over, form_first}

joined-passes : (cs : List (List ℕ)) → Sequences cs → is_text (join cs) ≡ true
unfolding goes_on
joined-passes [] h = refl
joined-passes (c ∷ cs) h = form_over c (join cs) h.0 ∙ joined-passes cs h.1

pub parsed_passes : (bs : List ℕ) → Parsed bs → is_text bs ≡ true
parsed_passes bs p = rw (← p.joined) (joined-passes p.parts p.formed)

none : Parsed []
none = record { parts = []; formed = tt; joined = refl }

-- the first sequence and those behind it, for so many octets at most
parsed_within : (k : ℕ) (bs : List ℕ) → length bs ≤ k → is_text bs ≡ true → Parsed bs
parsed_within zero [] l e = none
parsed_within zero (x ∷ bs) l e = absurd (omega arith)
parsed_within (suc k) [] l e = none
parsed_within (suc k) (x ∷ bs) l e =
    let f = form_first x bs e in
    let n : length f.others + length f.rest ≡ length bs = simp length-append at (ap length f.whole) in
    let p = parsed_within k f.rest (omega arith) f.good in
    record { parts = (x ∷ f.others) ∷ p.parts; formed = (f.form, p.formed); joined = rw (p.joined, f.whole) }

pub passes_parsed : (bs : List ℕ) → is_text bs ≡ true → Parsed bs
passes_parsed bs = parsed_within (length bs) bs (omega arith)
