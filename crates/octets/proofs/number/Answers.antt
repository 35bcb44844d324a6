-- `octets::number` meets its contract: an octet more at each turn.
use mathlib.Core.Path.{sym}
use native.Mathlib.Omega.{arith}
use borrow.Author.Rules.{rules}
use Rattle.octets_laws.proofs.Be.{num_at-zero, num_at_next, digit, digit-fits}
use Rattle.octets.proofs.number.Goals as goal

pub loop-x-init : goal.loop-x-init
loop-x-init c = (sym (num_at-zero _ _), search rules)

pub overflow_mul-v : goal.overflow_mul-v
overflow_mul-v c = omega (arith, digit-fits c.loop-x.v c.loop-x.x-index 0 (search rules) (search rules) (search rules))

pub overflow_add-v : goal.overflow_add-v
overflow_add-v c = record { fits = digit-fits _ c.loop-x.x-index _ (search rules) (search rules) (search rules) }

pub loop-x-preserved : goal.loop-x-preserved
loop-x-preserved c =
    let i = c.loop-x.invariant in
    (num_at_next _ _ _ _ _ _ (search rules) (search rules) i.0 c.from.ensures, digit _ _ _ i.1 (search rules))
