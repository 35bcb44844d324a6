-- One sequence: the check passes over just the octets of the grammar's forms.
use mathlib.Core.Path.{◌≡◌}
use mathlib.Core.Bool.{true}
use mathlib.Core.List.{List, [], ◌∷◌, ◌++◌}
use Prim.Native.Nat.{ℕ}
use native.Mathlib.Omega.{arith}
use Rattle.text_spec.specs.declared.Start.{Start}
use Rattle.std.specs.Prelude.{Option, Some, None}
use Rattle.text_spec.specs.Grammar.{to, forms, OneOf}
use Rattle.text_spec.specs.Check.{start_of, started, goes_on, is_text}
use Rattle.text_laws.proofs.Behind.{goes_over, passed}
use Rattle.text_laws.proofs.First.{form_some, form_answered, Led, answer_led}

-- a form is passed over, whatever follows it
pub form_over : (c rest : List ℕ) → OneOf forms c → is_text (c ++ rest) ≡ is_text rest
unfolding goes_on
form_over [] rest h = absurd (form_some h)
form_over (x ∷ c) rest h = let s = form_answered x c h in rw s.start (goes_over s.more s.next c rest s.others)

-- what is passed over first is a form, behind which text goes on
pub record Fronted (x : ℕ) (bs : List ℕ) : Type 0 where
  pub others : List ℕ
  pub rest : List ℕ
  pub whole : others ++ rest ≡ bs
  pub form : OneOf forms (x ∷ others)
  pub good : is_text rest ≡ true

pub form_first : (x : ℕ) (bs : List ℕ) → is_text (x ∷ bs) ≡ true → Fronted x bs
unfolding goes_on
form_first x bs e = go (start_of x) (answer_led x) e
  where
    go : (s : Option Start) → Led forms x s → started (goes_on bs) s ≡ true → Fronted x bs
    go (Some s) f h =
        let k = passed s.more (to s.low s.high) bs h in
        record { others = k.front; rest = k.rest; whole = k.whole; form = f k.front k.row; good = k.good }
    go None f h = let z : ◌≡◌ {A = ℕ} 0 1 = cc in absurd (omega arith)
