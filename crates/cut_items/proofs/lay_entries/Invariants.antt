use Rattle.std.proofs.Common.{◌-◌, ℕ, drop}
use Rattle.page_spec.specs.Rib.{entry}
use Rattle.form_spec.specs.Found.{items}
use Rattle.cut_spec.specs.Moved.{moved}
use Rattle.cut_items.proofs.Loop.{Laying}
use Rattle.cut_items.proofs.lay_entries.Given as goal

abbrev pub invariant-loop-entry : goal.invariant-loop-entry
invariant-loop-entry l = Laying (entry l.peers) (λ (i : ℕ). moved l.new_indexes) l.lays l.m (items (entry l.peers) l.count (drop l.from l.m)) l.count l.initial.out l.put l.out l.at l._entry (l.count - l._entry) l.kept l.end
