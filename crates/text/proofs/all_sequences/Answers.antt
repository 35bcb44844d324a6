-- `text::all_sequences` meets its contract.
use mathlib.Core.Path.{sym, ◌∙◌}
use Rattle.text.proofs.Laws.{all_over}
use Rattle.text.proofs.all_sequences.Goals as goal

pub returns : goal.returns
returns c = let l = c.loop-at in sym (all_over _ l.at c.loop-at-test.false) ∙ l.invariant.1
