use Rattle.std.proofs.Common.{Bool, List, ℕ, drop}
use Rattle.cut_spec.specs.Cut.{mem}
use Rattle.page_spec.specs.Peers.{peer}
use Rattle.form_spec.specs.Found.{items}
use Rattle.cut_items.proofs.NewIndexes.{Filling}
use Rattle.cut_items.proofs.fill_new_indexes.Given as goal

abbrev pub gone : List ℕ → ℕ → Bool
gone mutes n = mem n mutes

abbrev pub invariant-loop-i : goal.invariant-loop-i
invariant-loop-i l = Filling l.m (gone l.mutes) (items peer l.count (drop l.from l.m)) l.initial.new_indexes l.new_indexes l.count l.at l.i l.kept
