-- `cut::cut_with` meets its contract.
use Rattle.std.proofs.Common.{◌≡◌, sym, ap, ◌∙◌, arith}
use Rattle.form_laws.proofs.Octets.{octets_of_lem}
use Rattle.walk_spec.specs.Walked.{walked}
use Rattle.walk_spec.specs.declared.Walked.{Walked}
use Rattle.cut_laws.proofs.Answers.{gives_window, gives-fault, gives_left, splits_of}
use Rattle.cut.proofs.cut_with.Goals.{Else-checked-gt0}
use Rattle.cut.proofs.cut_with.Goals as goal

-- the walk found no fault
no_fault : (c : Else-checked-gt0) → let a = c.args in (walked a.longest a.dump.now).fault ≡ 0
no_fault c = ap (λ (x : Walked). x.fault) (sym c.walk_with-checked.ensures) ∙ omega (arith, c.if-checked-gt0.false)

pub returns-then-end-start : goal.returns-then-end-start
returns-then-end-start c =
    let a = c.args in
    gives_window a.longest a.start a.end a.mutes.now a.dump.now a.out.now c.if-end-start.true

pub returns-then-checked-gt0 : goal.returns-then-checked-gt0
returns-then-checked-gt0 c =
    let a = c.args in
    let w = c.walk_with-checked.ensures in
    gives-fault a.longest a.start a.end a.mutes.now a.dump.now a.out.now c.if-end-start.false _ _ (λ z. omega (arith, z, c.if-checked-gt0.true)) (ap (λ (x : Walked). x.fault) (sym w)) (ap (λ (x : Walked). x.place) (sym w))

pub left_of-requires : goal.left_of-requires
left_of-requires c = splits_of c.args.longest c.args.dump.now (octets_of_lem _ (λ k. omega (arith, c.type_inv.dump k))) (no_fault (goal.at.left_of-requires c).Else-checked-gt0)

pub returns : goal.returns
returns c =
    let a = c.args in
    gives_left a.longest a.start a.end a.mutes.now a.dump.now a.out.now c.if-end-start.false (no_fault (goal.at.returns c).Else-checked-gt0) c.left_of.ensures
