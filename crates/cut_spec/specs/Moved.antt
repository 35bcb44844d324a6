-- The table of new indexes that a cut fills at each peer table, and the entries moved by it.
use Rattle.std.specs.Prelude.{Bool, cond, List, [], ◌∷◌, ℕ, ◌+◌, get_or, leb}
use Rattle.cut_spec.specs.Keep.{cons_unless}
use Rattle.cut_spec.specs.Cut.{renumber}
use Rattle.form_spec.specs.Shape.{index_of}

-- the new index of each peer where k were kept before: how many kept ones stand before it, or 65535 where it goes
unfoldable pub new_indexes_from : (ℕ → Bool) → List ℕ → ℕ → List ℕ
new_indexes_from g [] k = []
new_indexes_from g (n ∷ ns) k = cond (g n) 65535 k ∷ new_indexes_from g ns (cond (g n) k (k + 1))

-- an entry stays where its peer has a new index, and gets that
abbrev pub moved : List ℕ → List (List (List ℕ)) → List (List (List ℕ))
moved new_indexes [] = []
moved new_indexes (it ∷ its) = cons_unless (leb 65535 (get_or new_indexes (index_of it) 0)) (renumber (get_or new_indexes (index_of it) 0) it) (moved new_indexes its)

-- a peer stays where it has a new index; the first of them stands at place i of the table
abbrev pub sieved : List ℕ → ℕ → List (List (List ℕ)) → List (List (List ℕ))
sieved new_indexes i [] = []
sieved new_indexes i (it ∷ its) = cons_unless (leb 65535 (get_or new_indexes i 0)) it (sieved new_indexes (i + 1) its)
