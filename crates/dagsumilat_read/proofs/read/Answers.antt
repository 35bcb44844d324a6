-- `dagsumilat_read::read` meets its contract.
use Rattle.std.proofs.Common.{rules, ◌∙◌}
use Rattle.dagsumilat_read.proofs.Laws.{told}
use Rattle.dagsumilat_read.proofs.read.Goals as goal

pub returns : goal.returns
returns c =
    let x = rw c.table_of.ensures at c.read_record-x.ensures.0 in
    let head = c.copy_from_slice.ensures.after ∙ c.head_words-head.ensures in
    let body = c.copy_from_slice-2.ensures.after ∙ c.body_words-body.ensures in
    told c.args.answer.now _ _ _ _ (search rules) head body x
