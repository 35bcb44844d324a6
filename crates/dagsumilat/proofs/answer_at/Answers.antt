-- `dagsumilat::answer_at` meets its contract.
use mathlib.Core.Path.{◌≡◌, ap, ◌∙◌}
use Prim.Native.Nat.{ℕ}
use Rattle.walk_spec.specs.declared.Item.{Item}
use Rattle.walk_spec.specs.Step.{Step}
use Rattle.walk_spec.specs.Step as step
use Rattle.record_spec.specs.Table.{Table}
use Rattle.look_spec.specs.Sort.{sort_of}
use Rattle.look_spec.specs.Field as field
use Rattle.look_spec.specs.Field.{shown, Good}
use Rattle.dagsumilat_spec.specs.declared.RecordAnswer.{RecordAnswer}
use Rattle.dagsumilat_spec.specs.RecordAnswers.{table_by_count, by_sort, answer_of, answer_at}
use Rattle.dagsumilat.proofs.Laws.{answer-step, stands}
use Rattle.std.specs.Prelude.{Ok}
use Rattle.dagsumilat.proofs.answer_at.Goals.{After-step_with, Start}
use Rattle.dagsumilat.proofs.answer_at.Goals as goal

-- what the reader is told, and what it shows
abbrev terms : Start → field.Told
terms s =
    record { longest = s.args.longest; table = table_by_count s.args.table }

-- a step that the code has taken is told, and where it is over a record a good one stands there
answered : (c : After-step_with) → let terms : (field.Told) = record { longest = c.args.longest; table = table_by_count c.args.table } in
    let a = c.args in
    (y : Step) (z : RecordAnswer) → c.step_with.result ≡ y → z ≡ answer_of a.table a.at y (shown terms a.d.now a.at) → z ≡ answer_at a.longest a.table a.d.now a.at
answered c =
    let terms : (field.Told) = record { longest = c.args.longest; table = table_by_count c.args.table } in
    answer-step _ _ _ _ _ _ c.table_of.ensures c.step_with.ensures

good : (c : After-step_with) → let terms : (field.Told) = record { longest = c.args.longest; table = table_by_count c.args.table } in (i : Item) (v : Table) → c.step_with.result ≡ step.Record i v → Good terms c.args.d.now c.args.at
good c =
    let terms : (field.Told) = record { longest = c.args.longest; table = table_by_count c.args.table } in
    stands _ c.args.table _ _ _ _ c.table_of.ensures c.step_with.ensures

pub good_answer-requires : goal.good_answer-requires
good_answer-requires c = (terms (goal.at.good_answer-requires c).Start, good (goal.at.good_answer-requires c).After-step_with _ _ (c.in-Ok-Some.is ∙ ap Ok c.in-Ok-Some.field-0-is))

pub returns-in-Ok-None : goal.returns-in-Ok-None
returns-in-Ok-None c = answered (goal.at.returns-in-Ok-None c).After-step_with _ _ (c.in-Ok-None.is ∙ ap Ok c.in-Ok-None.field-0-is) c.no_record.ensures

pub returns-in-Err : goal.returns-in-Err
returns-in-Err c = answered (goal.at.returns-in-Err c).After-step_with _ _ c.in-Err.is c.no_record-in-Err.ensures

pub returns-in-Ok-Some : goal.returns-in-Ok-Some
returns-in-Ok-Some c =
    let x = shown (terms (goal.at.returns-in-Ok-Some c).Start) c.args.d.now c.args.at in
    answered (goal.at.returns-in-Ok-Some c).After-step_with _ _ (c.in-Ok-Some.is ∙ ap Ok c.in-Ok-Some.field-0-is) (c.good_answer.ensures _ (good (goal.at.returns-in-Ok-Some c).After-step_with _ _ (c.in-Ok-Some.is ∙ ap Ok c.in-Ok-Some.field-0-is)) ∙ ap (λ (n : ℕ). by_sort c.in-Ok-Some.i n x (sort_of x)) c.count_of_table.ensures)
