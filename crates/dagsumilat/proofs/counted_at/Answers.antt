-- `dagsumilat::counted_at` meets its contract.
use mathlib.Core.Path.{sym, ◌∙◌}
use Rattle.look_laws.proofs.Sort.{sort_first, sort_other}
use Rattle.look_laws.proofs.There.{sorted}
use Rattle.dagsumilat.proofs.counted_at.Goals as goal

pub peer_count_at-requires : goal.peer_count_at-requires
peer_count_at-requires c =
    let k = c.requires in
    (k.0, k.1, sorted k.0 _ _ k.1 ∙ sort_first _ _ k.2.0 (k.2.1 ∙ c.if-subtype-eq1.true))

pub returns-then-subtype-eq1 : goal.returns-then-subtype-eq1
returns-then-subtype-eq1 c = c.peer_count_at.ensures

pub entry_count_at-requires : goal.entry_count_at-requires
entry_count_at-requires c =
    let k = c.requires in
    (k.0, k.1, (sorted k.0 _ _ k.1 ∙ sort_other _ _ k.2.0 (λ e. c.if-subtype-eq1.false (sym k.2.1 ∙ e)), k.2.1))

pub returns : goal.returns
returns c = c.entry_count_at.ensures
