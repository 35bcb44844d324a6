use Rattle.std.proofs.Common.{◌-◌, drop}
use Rattle.page_spec.specs.Peers.{peer}
use Rattle.form_spec.specs.Found.{items}
use Rattle.cut_spec.specs.Moved.{sieved}
use Rattle.cut_items.proofs.Loop.{Laying}
use Rattle.cut_items.proofs.lay_peers.Given as goal

abbrev pub invariant-loop-new : goal.invariant-loop-new
invariant-loop-new l = Laying peer (sieved l.new_indexes) l.lays l.m (items peer l.count (drop l.from l.m)) l.count l.initial.out l.put l.out l.at l.new-index (l.count - l.new-index) l.kept l.end
