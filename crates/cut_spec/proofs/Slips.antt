-- Facts that show a slip in what a cut leaves or answers: whose time does not count, who is gone, what a new index counts, what is refused first.
use mathlib.Core.Path.{◌≡◌, refl}
use mathlib.Core.Bool.{Bool, true, false}
use mathlib.Core.List.{List, [], ◌∷◌}
use mathlib.Core.Option.{none}
use Prim.Native.Nat.{ℕ, ◌<◌}
use lib.ListN.{take}
use borrow.Author.Tests.{lt-ltb}
use Rattle.form_spec.specs.Fmt.{Fmt}
use Rattle.form_spec.specs.Body.{Body, listed}
use Rattle.form_spec.specs.Shape.{table, entries}
use Rattle.form_spec.specs.Words.{choose}
use Rattle.cut_spec.specs.Keep.{kept, rank}
use Rattle.cut_spec.specs.Cut.{Cut, cut_entries, when, cut_body}
use Rattle.cut_spec.specs.Answer.{cut_fault, cut_place}

-- what is left of a peer table does not depend on its time
pub table_any_time : (c : Cut) (ns : List ℕ) (f g : Fmt) (t u : ℕ) (b : Body) → cut_body c ns (table f g) t b ≡ cut_body c ns (table f g) u b
unfolding cut_body
table_any_time c ns f g t u b = refl

-- where everybody goes, no entry stays
no_entries : (g : ℕ → Bool) → ((n : ℕ) → g n ≡ true) → (ns : List ℕ) (its : List (List (List ℕ))) → cut_entries g ns its ≡ []
no_entries g all ns [] = refl
no_entries g all ns (it ∷ its) = rw (all _) (no_entries g all ns its)

when_none : (b : Bool) → when b none ≡ none
when_none true = refl
when_none false = refl

-- a RIB record that had entries, all of whose peers go, is gone
pub emptied_gone : (c : Cut) → ((n : ℕ) → c.gone n ≡ true) → (ns : List ℕ) (f g : Fmt) (t : ℕ) (cs x : List (List ℕ)) (xs : List (List (List ℕ)))
    → cut_body c ns (entries f g) t (listed cs (x ∷ xs)) ≡ none
unfolding cut_body
emptied_gone c all ns f g t cs x xs = rw (no_entries c.gone all ns (x ∷ xs)) (when_none (c.inside t))

none_kept : (g : ℕ → Bool) → ((n : ℕ) → g n ≡ true) → (ns : List ℕ) → kept g ns ≡ []
none_kept g all [] = refl
none_kept g all (n ∷ ns) = rw (all n) (none_kept g all ns)

-- where everybody goes, every rank is 0: a rank counts those that stay
pub rank_none : (g : ℕ → Bool) → ((n : ℕ) → g n ≡ true) → (ns : List ℕ) (i : ℕ) → rank g ns i ≡ 0
rank_none g all ns i = rw (none_kept g all (take i ns))

-- a backward window is refused first, whatever the dump
pub backward_first : (longest from to : ℕ) (d : List ℕ) → to < from → (cut_fault longest from to d ≡ 14) × (cut_place longest from to d ≡ 0)
unfolding choose
backward_first longest from to d h = rw (lt-ltb to from h) (refl, refl)
