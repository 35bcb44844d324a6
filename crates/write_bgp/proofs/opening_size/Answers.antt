-- `write_bgp::opening_size` meets its contract.
use mathlib.Core.Path.{ap, ◌∙◌}
use native.Mathlib.Omega.{arith}
use Rattle.write_spec.specs.Verdict.{capped}
use Rattle.write_laws.proofs.Sums.{summed}
use Rattle.write_bgp.proofs.Laws.{micro_small}
use borrow.Author.Rules.{rules}
use Rattle.write_bgp.proofs.opening_size.Goals as goal

pub overflow_add-fixed : goal.overflow_add-fixed
overflow_add-fixed c = let m = micro_small c.args.time in search rules

pub overflow_add-fixed-2 : goal.overflow_add-fixed-2
overflow_add-fixed-2 c = let m = micro_small c.args.time in search rules

pub returns : goal.returns
returns c = let m = c.micro.ensures in summed _ _ _ _ c.saturating_add.ensures c.saturating_add-2.ensures ∙ ap capped (omega arith)
