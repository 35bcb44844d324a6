-- `write_bgp::write_change` meets its contract: header, microseconds, session, states.
use mathlib.Core.Path.{◌≡◌, refl, sym, ap, ◌∙◌}
use mathlib.Core.List.{List, append_assoc, append-nil}
use Prim.Native.Nat.{ℕ, ◌+◌, ◌≤◌}
use native.Mathlib.Omega.{arith}
use lib.ListN.{length}
use Rattle.form_spec.specs.Put.{Given, message}
use Rattle.form_spec.specs.Shape.{no_table}
use Rattle.octets_spec.specs.Over.{over}
use Rattle.page_spec.specs.Layout.{kind}
use Rattle.write_spec.specs.Times.{micros, bgp4mp}
use Rattle.write_spec.specs.Only.{only_sub, changes, as_octets}
use Rattle.write_spec.specs.Givens.{state_values, change_given}
use Rattle.write_spec.specs.Verdict.{capped}
use Rattle.write_laws.proofs.Sums.{summed}
use Rattle.write_laws.proofs.Answers.{refuses, Goes, goes, done}
use Rattle.write_laws.proofs.Laid.{none, values}
use Rattle.write_bgp.specs.Opening.{opening_values, opening_size}
use Rattle.std.specs.Prelude.{Err}
use Rattle.room_spec.specs.Written.{Octets}
use Rattle.write_bgp.proofs.Laws.{states_long, opened_long, behind_long}
use borrow.Author.Rules.{rules}
use Rattle.write_bgp.proofs.write_change.Goals.{After-verdict, In_ok-written}
use Rattle.write_bgp.proofs.write_change.Goals as goal

abbrev given : After-verdict → Given
given c =
    let a = c.args in change_given a.time a.subtype a.peer a.local a.interface a.family a.theirs.now a.ours.now a.old a.new

long : (c : After-verdict) → let given : (Given) = let a = c.args in change_given a.time a.subtype a.peer a.local a.interface a.family a.theirs.now a.ours.now a.old a.new in let a = c.args in opening_size a.time (c.width_of-w.result) a.theirs.now a.ours.now + 4 ≡ length (message given)
long c =
    let given : (Given) = let a = c.args in change_given a.time a.subtype a.peer a.local a.interface a.family a.theirs.now a.ours.now a.old a.new in
    let a = c.args in
    let w = c.width_of-w.ensures.0 in
    let l = states_long a.old a.new in
    let b = behind_long a.time (as_octets (kind (bgp4mp a.time) a.subtype)) a.peer a.local a.interface a.family a.theirs.now a.ours.now (state_values a.old a.new) a.subtype in
    omega arith

sized : (c : After-verdict) → let given : (Given) = let a = c.args in change_given a.time a.subtype a.peer a.local a.interface a.family a.theirs.now a.ours.now a.old a.new in c.saturating_add-size.result ≡ capped (length (message given))
sized c =
    let given : (Given) = let a = c.args in change_given a.time a.subtype a.peer a.local a.interface a.family a.theirs.now a.ours.now a.old a.new in
    let long : (let a = c.args in opening_size a.time (c.width_of-w.result) a.theirs.now a.ours.now + 4 ≡ length (message given)) = let a = c.args in let w = c.width_of-w.ensures.0 in let l = states_long a.old a.new in let b = behind_long a.time (as_octets (kind (bgp4mp a.time) a.subtype)) a.peer a.local a.interface a.family a.theirs.now a.ours.now (state_values a.old a.new) a.subtype in omega arith in
    summed _ _ _ _ c.opening_size.ensures c.saturating_add-size.ensures ∙ ap capped long

-- ---- the record goes into the buffer
fine : (longest : ℕ) (c : In_ok-written) → let given : (Given) = let a = c.args in change_given a.time a.subtype a.peer a.local a.interface a.family a.theirs.now a.ours.now a.old a.new in
    Goes (only_sub changes longest) no_table given c.args.out.now c.saturating_add-size.result (Octets c.in_ok-written.written)
fine longest c =
    let given : (Given) = let a = c.args in change_given a.time a.subtype a.peer a.local a.interface a.family a.theirs.now a.ours.now a.old a.new in
    let long : (let a = c.args in opening_size a.time (c.width_of-w.result) a.theirs.now a.ours.now + 4 ≡ length (message given)) = let a = c.args in let w = c.width_of-w.ensures.0 in let l = states_long a.old a.new in let b = behind_long a.time (as_octets (kind (bgp4mp a.time) a.subtype)) a.peer a.local a.interface a.family a.theirs.now a.ours.now (state_values a.old a.new) a.subtype in omega arith in
    let sized : (c.saturating_add-size.result ≡ capped (length (message given))) = summed _ _ _ _ c.opening_size.ensures c.saturating_add-size.ensures ∙ ap capped long in
    goes _ no_table given c.args.out.now _ _ _ _ refl sized refl (c.in_ok-written.ensures _ (c.change_refusal-fields.ensures longest)) _ refl

room : (c : In_ok-written) → let a = c.args in
    12 + (opening_size a.time (c.width_of-w.result) a.theirs.now a.ours.now + 4) ≤ length a.out.now
room c =
    let given : (Given) = let a = c.args in change_given a.time a.subtype a.peer a.local a.interface a.family a.theirs.now a.ours.now a.old a.new in
    let long : (let a = c.args in opening_size a.time (c.width_of-w.result) a.theirs.now a.ours.now + 4 ≡ length (message given)) = let a = c.args in let w = c.width_of-w.ensures.0 in let l = states_long a.old a.new in let b = behind_long a.time (as_octets (kind (bgp4mp a.time) a.subtype)) a.peer a.local a.interface a.family a.theirs.now a.ours.now (state_values a.old a.new) a.subtype in omega arith in
    let sized : (c.saturating_add-size.result ≡ capped (length (message given))) = summed _ _ _ _ c.opening_size.ensures c.saturating_add-size.ensures ∙ ap capped long in
    let fine : (Goes (only_sub changes 0) no_table given c.args.out.now c.saturating_add-size.result (Octets c.in_ok-written.written)) = goes _ no_table given c.args.out.now _ _ _ _ refl sized refl (c.in_ok-written.ensures _ (c.change_refusal-fields.ensures 0)) _ refl in
    rw long fine.space

pub returns-in_err-written : goal.returns-in_err-written
returns-in_err-written c =
    let a = c.args in
    let why = c.in_err-written.field-0.0 in
    let passed : c.from_residual.result ≡ Err why = search rules in
    refuses _ _ (given (goal.at.returns-in_err-written c).After-verdict) c.args.out.now _ _ _ _ refl (sized (goal.at.returns-in_err-written c).After-verdict) refl (passed ∙ c.in_err-written.ensures _ (c.change_refusal-fields.ensures _)) why passed

pub put_head-requires : goal.put_head-requires
put_head-requires c = let r = room (goal.at.put_head-requires c).In_ok-written in search rules

pub put_opening-at-requires : goal.put_opening-at-requires
put_opening-at-requires c = let r = room (goal.at.put_opening-at-requires c).In_ok-written in search rules

pub put_states-requires : goal.put_states-requires
put_states-requires c = let r = room (goal.at.put_states-requires c).In_ok-written in let e = c.put_opening-at.ensures.0 in search rules

pub returns : goal.returns
returns c =
    let a = c.args in
    let r = room (goal.at.returns c).In_ok-written in
    let at = c.put_opening-at.ensures.0 in
    let h : List ℕ = c.put_head.new.out in
    let x1 = values (none h 12 (search rules)) (opening_values a.time (c.width_of-w.result) a.peer a.local a.interface a.family a.theirs.now a.ours.now) _ (opened_long a.time (c.width_of-w.result) a.peer a.local a.interface a.family a.theirs.now a.ours.now) c.put_opening-at.ensures.1 (omega arith) (search rules) in
    let x2 = values x1 (state_values a.old a.new) 4 (states_long a.old a.new) c.put_states.ensures (omega arith) (search rules) in
    let headed = rw (c.seconds.ensures, c.bgp_type.ensures) at c.put_head.ensures in
    done _ _ _ _ _ _ _ _ (fine _ (goal.at.returns c).In_ok-written) headed (x2.is ∙ ap (over h 12) (rw (sym (c.width_of-w.ensures.0), append_assoc (micros a.time)) (simp append-nil)))
