-- `write::put_micros` meets its contract.
use mathlib.Core.Path.{refl, sym, ap, ◌∙◌}
use mathlib.Core.List.{append-nil}
use Rattle.octets_spec.specs.Over.{over}
use Rattle.octets_laws.proofs.Over.{over_none}
use borrow.Author.Rules.{rules}
use Rattle.write.proofs.put_micros.Goals as goal

pub returns-in-Seconds : goal.returns-in-Seconds
returns-in-Seconds c =
    let p = rw c.in-Seconds.is at c.requires in
    rw c.in-Seconds.is (refl, sym (over_none _ 12 p))

pub put_number-requires : goal.put_number-requires
put_number-requires c =
    let p = rw c.in-Micro.is at c.requires in
    search rules

pub returns-in-Micro : goal.returns-in-Micro
returns-in-Micro c = rw c.in-Micro.is (refl, c.put_number.ensures ∙ ap (over _ 12) (sym (append-nil _)))
