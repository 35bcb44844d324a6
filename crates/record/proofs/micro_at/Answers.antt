-- `record::micro_at` meets its contract.
use native.Mathlib.Omega.{arith}
use Rattle.record_spec.specs.One.{micro_at}
use Rattle.octets_laws.proofs.Rules.{flow}
use Rattle.record.proofs.Laws.{small_field}
use borrow.Author.Rules.{rules}
use Rattle.record.proofs.micro_at.Goals as goal

pub returns-then-micro-eq0 : goal.returns-then-micro-eq0
unfolding micro_at
returns-then-micro-eq0 c = (search flow depth 6, search rules)

pub returns : goal.returns
unfolding micro_at
returns c = (search flow depth 6, small_field c.args.m.now _ _ _ (λ k. omega (arith, c.shared_slice_known-1.given k)) (search rules) c.field.ensures)
