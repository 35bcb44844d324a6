-- `cut_fate::rib_fate` meets its contract.
use mathlib.Core.Path.{◌≡◌, sym, ◌∙◌}
use mathlib.Core.Bool.{false}
use native.Mathlib.Omega.{arith}
use Rattle.page_spec.specs.Layout.{finer}
use Rattle.look_spec.specs.Field.{type_of, shown}
use Rattle.look_laws.proofs.Sort.{is_rib, early}
use Rattle.look_laws.proofs.There.{sorted}
use Rattle.cut_fate.proofs.rib_fate.Goals.{Start}
use Rattle.cut_fate.proofs.rib_fate.Goals as goal

-- it has no microseconds
coarse : (c : Start) → let a = c.args in finer (type_of (shown c.requires.0 a.d.now a.at)) ≡ false
coarse c =
    let k = c.requires in
    let e = (is_rib _ _ (sym (sorted k.0 _ _ k.1) ∙ k.2.0)).0 in
    early _ (λ z. omega arith) (λ z. omega arith) (λ z. omega arith)

pub seconds-requires : goal.seconds-requires
seconds-requires c = let k = c.requires in (k.0, k.1, coarse (goal.at.seconds-requires c).Start)
