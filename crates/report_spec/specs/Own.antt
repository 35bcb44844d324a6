-- A dump's own report, counted over what its records give notice of, in their order.
use Rattle.std.specs.Prelude.{cond, ◌&&◌, List, [], ◌∷◌, ◌++◌, map, ℕ, ◌+◌, ◌%◌, eqb, length}
use Rattle.report_spec.specs.declared.Notice.{Notice}
use Rattle.report_spec.specs.declared.Notice.TheVariants.{Plain, Change, Sequence}
use Rattle.report_spec.specs.Last.{Last, Absent, Was}

-- ---- state changes

abbrev pub changes : List Notice → ℕ
changes [] = 0
changes (Plain ∷ ns) = changes ns
changes (Change o n ∷ ns) = 1 + changes ns
changes (Sequence s ∷ ns) = changes ns

-- how often the old state went to the new one
abbrev pub times : (old new : ℕ) → List Notice → ℕ
times old new [] = 0
times old new (Plain ∷ ns) = times old new ns
times old new (Change o n ∷ ns) = cond (eqb o old && eqb n new) 1 0 + times old new ns
times old new (Sequence s ∷ ns) = times old new ns

abbrev pub states : List ℕ
states = 1 ∷ 2 ∷ 3 ∷ 4 ∷ 5 ∷ 6 ∷ []

-- a row for each old state, in it a number for each new one
unfoldable pub cells : List Notice → List (List ℕ)
cells ns = map (λ old. map (λ new. times old new ns) states) states

-- ---- breaks of type 12's sequence

-- the one after p: 65,535 is followed by 0
abbrev pub following : ℕ → ℕ
following p = (p + 1) % 65536

-- 1 where s does not follow the last one; the first of a dump follows none
abbrev pub broken : Last → ℕ → ℕ
broken Absent s = 0
broken (Was p) s = cond (eqb (following p) s) 0 1

-- the last one behind records, where l was the last before them: only those of type 12 count
abbrev pub last_behind : Last → List Notice → Last
last_behind l [] = l
last_behind l (Plain ∷ ns) = last_behind l ns
last_behind l (Change o n ∷ ns) = last_behind l ns
last_behind l (Sequence s ∷ ns) = last_behind (Was s) ns

abbrev pub breaks_behind : Last → List Notice → ℕ
breaks_behind l [] = 0
breaks_behind l (Plain ∷ ns) = breaks_behind l ns
breaks_behind l (Change o n ∷ ns) = breaks_behind l ns
breaks_behind l (Sequence s ∷ ns) = broken l s + breaks_behind (Was s) ns

-- 1 where the first one does not follow l
abbrev pub broken_first : Last → List Notice → ℕ
broken_first l [] = 0
broken_first l (Plain ∷ ns) = broken_first l ns
broken_first l (Change o n ∷ ns) = broken_first l ns
broken_first l (Sequence s ∷ ns) = broken l s

-- 1 where the last one of the first records is not followed by the first one of the second; 0 where either has none
abbrev pub seam : List Notice → List Notice → ℕ
seam ms ns = broken_first (last_behind Absent ms) ns

-- ---- all of it

abbrev pub joined : List (List ℕ) → List ℕ
joined [] = []
joined (r ∷ rs) = r ++ joined rs

-- the 39 numbers: records, changes, breaks, and the cells row by row
abbrev pub numbers : (records changes breaks : ℕ) (cells : List (List ℕ)) → List ℕ
numbers r c b t = r ∷ c ∷ b ∷ joined t

unfoldable pub own : List Notice → List ℕ
own ns = numbers (length ns) (changes ns) (breaks_behind Absent ns) (cells ns)
