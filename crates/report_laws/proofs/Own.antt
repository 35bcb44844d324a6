-- A dump's own report, a record at a time and a stretch of records at a time, and how large its numbers can be.
use mathlib.Core.Path.{◌≡◌, refl, sym, ap, fun_ext, ◌∙◌}
use mathlib.Core.Bool.{Bool, true, false, cond, ◌&&◌}
use mathlib.Core.List.{List, [], ◌∷◌, ◌++◌, map}
use Prim.Native.Nat.{ℕ, zero, suc, ◌+◌, ◌-◌, ◌*◌, ◌≤◌, ◌<◌}
use native.Mathlib.Omega.{arith}
use lib.Dec.{eqb}
use lib.ListN.{length, get_or, set, drop, replicate, get_or-append}
use lib.Seq.{get_or-drop}
use borrow.Author.Tests.{eq-eqb}
use Rattle.report_spec.specs.declared.Notice.{Notice}
use Rattle.report_spec.specs.declared.Notice.TheVariants.{Plain, Change, Sequence}
use Rattle.report_spec.specs.Last.{Last, Absent, Was}
use Rattle.report_spec.specs.Notice.{InStates}
use Rattle.report_spec.specs.Own.{changes, times, states, cells, following, broken, last_behind, breaks_behind, own}
use Rattle.report_spec.specs.Tally.{bumped}

-- ---- one stretch behind another

pub changes-append : (ms ns : List Notice) → changes (ms ++ ns) ≡ changes ms + changes ns
changes-append [] ns = omega arith
changes-append (Plain ∷ ms) ns = changes-append ms ns
changes-append (Change o n ∷ ms) ns = omega (arith, changes-append ms ns)
changes-append (Sequence s ∷ ms) ns = changes-append ms ns

pub times-append : (old new : ℕ) (ms ns : List Notice) → times old new (ms ++ ns) ≡ times old new ms + times old new ns
times-append old new [] ns = omega arith
times-append old new (Plain ∷ ms) ns = times-append old new ms ns
times-append old new (Change o n ∷ ms) ns = omega (arith, times-append old new ms ns)
times-append old new (Sequence s ∷ ms) ns = times-append old new ms ns

pub last_append : (l : Last) (ms ns : List Notice) → last_behind l (ms ++ ns) ≡ last_behind (last_behind l ms) ns
last_append l [] ns = refl
last_append l (Plain ∷ ms) ns = last_append l ms ns
last_append l (Change o n ∷ ms) ns = last_append l ms ns
last_append l (Sequence s ∷ ms) ns = last_append (Was s) ms ns

pub breaks_append : (l : Last) (ms ns : List Notice) → breaks_behind l (ms ++ ns) ≡ breaks_behind l ms + breaks_behind (last_behind l ms) ns
breaks_append l [] ns = omega arith
breaks_append l (Plain ∷ ms) ns = breaks_append l ms ns
breaks_append l (Change o n ∷ ms) ns = breaks_append l ms ns
breaks_append l (Sequence s ∷ ms) ns = omega (arith, breaks_append (Was s) ms ns)

-- ---- a number, or a row, for each state

-- the one of state o
at_state : {A : Type 0} (f : ℕ → A) (z : A) (o : ℕ) → 1 ≤ o → o ≤ 6 → get_or (map f states) (o - 1) z ≡ f o
at_state f z zero a b = absurd (omega arith)
at_state f z (suc zero) a b = refl
at_state f z (suc (suc zero)) a b = refl
at_state f z (suc (suc (suc zero))) a b = refl
at_state f z (suc (suc (suc (suc zero)))) a b = refl
at_state f z (suc (suc (suc (suc (suc zero))))) a b = refl
at_state f z (suc (suc (suc (suc (suc (suc zero)))))) a b = refl
at_state f z (suc (suc (suc (suc (suc (suc (suc j))))))) a b = absurd (omega arith)

-- where only the one of state o is another
set-state : {A : Type 0} (f g : ℕ → A) (o : ℕ) → 1 ≤ o → o ≤ 6 → ((j : ℕ) → eqb o j ≡ false → g j ≡ f j) → map g states ≡ set (map f states) (o - 1) (g o)
set-state f g zero a b e = absurd (omega arith)
set-state f g (suc zero) a b e = cc (e 2 refl, e 3 refl, e 4 refl, e 5 refl, e 6 refl)
set-state f g (suc (suc zero)) a b e = cc (e 1 refl, e 3 refl, e 4 refl, e 5 refl, e 6 refl)
set-state f g (suc (suc (suc zero))) a b e = cc (e 1 refl, e 2 refl, e 4 refl, e 5 refl, e 6 refl)
set-state f g (suc (suc (suc (suc zero)))) a b e = cc (e 1 refl, e 2 refl, e 3 refl, e 5 refl, e 6 refl)
set-state f g (suc (suc (suc (suc (suc zero))))) a b e = cc (e 1 refl, e 2 refl, e 3 refl, e 4 refl, e 6 refl)
set-state f g (suc (suc (suc (suc (suc (suc zero)))))) a b e = cc (e 1 refl, e 2 refl, e 3 refl, e 4 refl, e 5 refl)
set-state f g (suc (suc (suc (suc (suc (suc (suc j))))))) a b e = absurd (omega arith)

-- ---- the table, a record at a time

abbrev pub row : List Notice → ℕ → List ℕ
row ns old = map (λ new. times old new ns) states

same_row : (ms ns : List Notice) (old : ℕ) → ((new : ℕ) → times old new ms ≡ times old new ns) → row ms old ≡ row ns old
same_row ms ns old e = ap (λ (f : ℕ → ℕ). map f states) (fun_ext e)

same_cells : (ms ns : List Notice) → ((old new : ℕ) → times old new ms ≡ times old new ns) → cells ms ≡ cells ns
unfolding cells
same_cells ms ns e = ap (λ (f : ℕ → List ℕ). map f states) (fun_ext (λ old. same_row ms ns old (e old)))

-- one more where both states are these, and else none
one_more : (old new o n : ℕ) (ns : List Notice) → times o n (ns ++ (Change old new ∷ [])) ≡ times o n ns + cond (eqb old o && eqb new n) 1 0
one_more old new o n ns = omega (arith, times-append o n ns (Change old new ∷ []))

pub cells_none : cells [] ≡ replicate 6 (replicate 6 0)
unfolding cells
cells_none = refl

pub cells_plain : (ns : List Notice) → cells (ns ++ (Plain ∷ [])) ≡ cells ns
cells_plain ns = same_cells (ns ++ (Plain ∷ [])) ns (λ o n. omega (arith, times-append o n ns (Plain ∷ [])))

pub cells-sequence : (ns : List Notice) (s : ℕ) → cells (ns ++ (Sequence s ∷ [])) ≡ cells ns
cells-sequence ns s = same_cells (ns ++ (Sequence s ∷ [])) ns (λ o n. omega (arith, times-append o n ns (Sequence s ∷ [])))

module _ (ns : List Notice) (old new : ℕ) (h : InStates (Change old new)) where
  row_of : get_or (cells ns) (old - 1) [] ≡ row ns old
  unfolding cells
  row_of = at_state (row ns) [] old h.0 h.1

  cell : get_or (get_or (cells ns) (old - 1) []) (new - 1) 0 ≡ times old new ns
  cell = rw row_of (at_state (λ n. times old n ns) 0 new h.2 h.3)

  abbrev more : List Notice
  more = ns ++ (Change old new ∷ [])

  other_old : (o n : ℕ) → eqb old o ≡ false → times o n more ≡ times o n ns
  other_old o n e = one_more old new o n ns ∙ rw e (omega arith)

  other_new : (n : ℕ) → eqb new n ≡ false → times old n more ≡ times old n ns
  other_new n e = one_more old new old n ns ∙ rw (e, eq-eqb old old refl) (omega arith)

  both : times old new more ≡ times old new ns + 1
  both = one_more old new old new ns ∙ rw (eq-eqb old old refl, eq-eqb new new refl)

  -- only the row of the old state is another, and in it only the number of the new one
  other_row : cells more ≡ set (cells ns) (old - 1) (row more old)
  unfolding cells
  other_row = set-state (row ns) (row more) old h.0 h.1 (λ o e. same_row more ns o (λ n. other_old o n e))

  other_number : row more old ≡ set (row ns old) (new - 1) (times old new more)
  other_number = set-state (λ n. times old n ns) (λ n. times old n more) new h.2 h.3 other_new

  pub cells-change : cells (ns ++ (Change old new ∷ [])) ≡ bumped (cells ns) old new
  cells-change = rw (other_row, other_number, both, cell, row_of)

-- ---- where a cell stands in the 39 numbers

row_at : (ns : List Notice) (old : ℕ) → 1 ≤ old → old ≤ 6 → drop (3 + 6 * (old - 1)) (own ns) ≡ row ns old ++ drop (3 + 6 * old) (own ns)
unfolding own cells
row_at ns zero a b = absurd (omega arith)
row_at ns (suc zero) a b = refl
row_at ns (suc (suc zero)) a b = refl
row_at ns (suc (suc (suc zero))) a b = refl
row_at ns (suc (suc (suc (suc zero)))) a b = refl
row_at ns (suc (suc (suc (suc (suc zero))))) a b = refl
row_at ns (suc (suc (suc (suc (suc (suc zero)))))) a b = refl
row_at ns (suc (suc (suc (suc (suc (suc (suc j))))))) a b = absurd (omega arith)

pub cell_at : (ns : List Notice) (old new : ℕ) → InStates (Change old new) → get_or (own ns) (3 + 6 * (old - 1) + (new - 1)) 0 ≡ times old new ns
cell_at ns old new h =
    let l : new - 1 < length (row ns old) = omega (arith, h.3) in
    sym (get_or-drop (3 + 6 * (old - 1)) (own ns) (new - 1) 0)
    ∙ rw (row_at ns old h.0 h.1) (get_or-append (row ns old) (drop (3 + 6 * old) (own ns)) 0 (new - 1) l)
    ∙ at_state (λ n. times old n ns) 0 new h.2 h.3

-- ---- no number is above the number of records

pub changes_few : (ns : List Notice) → changes ns ≤ length ns
changes_few [] = omega arith
changes_few (Plain ∷ ns) = omega (arith, changes_few ns)
changes_few (Change o n ∷ ns) = omega (arith, changes_few ns)
changes_few (Sequence s ∷ ns) = omega (arith, changes_few ns)

-- a test counts once at most
once : (t : Bool) → (cond t 1 0 ≤ 1) × (cond t 0 1 ≤ 1)
once true = (omega arith, omega arith)
once false = (omega arith, omega arith)

pub broken_once : (l : Last) (s : ℕ) → broken l s ≤ 1
broken_once Absent s = omega arith
broken_once (Was p) s = (once (eqb (following p) s)).1

pub breaks_few : (l : Last) (ns : List Notice) → breaks_behind l ns ≤ length ns
breaks_few l [] = omega arith
breaks_few l (Plain ∷ ns) = omega (arith, breaks_few l ns)
breaks_few l (Change o n ∷ ns) = omega (arith, breaks_few l ns)
breaks_few l (Sequence s ∷ ns) = omega (arith, broken_once l s, breaks_few (Was s) ns)

pub times_few : (old new : ℕ) (ns : List Notice) → times old new ns ≤ length ns
times_few old new [] = omega arith
times_few old new (Plain ∷ ns) = omega (arith, times_few old new ns)
times_few old new (Change o n ∷ ns) = omega (arith, (once (eqb o old && eqb n new)).0, times_few old new ns)
times_few old new (Sequence s ∷ ns) = omega (arith, times_few old new ns)

pub cell_few : (ns : List Notice) (old new : ℕ) → InStates (Change old new) → get_or (get_or (cells ns) (old - 1) []) (new - 1) 0 ≤ length ns
cell_few ns old new h = rw (cell ns old new h) (times_few old new ns)
