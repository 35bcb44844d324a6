-- `write_rib::write_rib_generic` meets its contract: what it is given, its size, and what is known once it may write.
use mathlib.Core.Path.{◌≡◌, refl, ap, ◌∙◌}
use Prim.Native.Nat.{ℕ, ◌+◌, ◌≤◌}
use lib.ListN.{length}
use Rattle.form_spec.specs.Put.{Given, message}
use Rattle.record_spec.specs.Table.{state_of}
use Rattle.write_spec.specs.Only.{only_sub, generic_ribs}
use Rattle.write_spec.specs.Givens.{rib_generic_given}
use Rattle.write_spec.specs.Verdict.{capped}
use Rattle.write_laws.proofs.Sums.{summed}
use Rattle.write_laws.proofs.Answers.{refuses, Goes, goes, done}
use Rattle.std.specs.Prelude.{Err}
use Rattle.room_spec.specs.Written.{Octets}
use Rattle.write_rib.proofs.Laws.{generic_length, generic_laid}
use borrow.Author.Rules.{rules}
use Rattle.write_rib.proofs.write_rib_generic.Goals.{After-verdict, In_ok-written}
use Rattle.write_rib.proofs.write_rib_generic.Goals as goal

abbrev given : After-verdict → Given
given c =
    let a = c.args in rib_generic_given a.timestamp a.sequence a.family a.safi a.bits a.prefix.now a.count a.entries.now

long : (c : After-verdict) → let given : (Given) = let a = c.args in rib_generic_given a.timestamp a.sequence a.family a.safi a.bits a.prefix.now a.count a.entries.now in let a = c.args in length a.prefix.now + length a.entries.now + 10 ≡ length (message given)
long c =
    let given : (Given) = let a = c.args in rib_generic_given a.timestamp a.sequence a.family a.safi a.bits a.prefix.now a.count a.entries.now in
    let a = c.args in generic_length a.timestamp a.sequence a.family a.safi a.bits a.prefix.now a.count a.entries.now

sized : (c : After-verdict) → let given : (Given) = let a = c.args in rib_generic_given a.timestamp a.sequence a.family a.safi a.bits a.prefix.now a.count a.entries.now in c.saturating_add-size.result ≡ capped (length (message given))
sized c =
    let given : (Given) = let a = c.args in rib_generic_given a.timestamp a.sequence a.family a.safi a.bits a.prefix.now a.count a.entries.now in
    let long : (let a = c.args in length a.prefix.now + length a.entries.now + 10 ≡ length (message given)) = let a = c.args in generic_length a.timestamp a.sequence a.family a.safi a.bits a.prefix.now a.count a.entries.now in
    summed _ _ _ _ c.saturating_add.ensures c.saturating_add-size.ensures ∙ ap capped long

-- ---- the record goes into the buffer
fine : (longest : ℕ) (c : In_ok-written) → let given : (Given) = let a = c.args in rib_generic_given a.timestamp a.sequence a.family a.safi a.bits a.prefix.now a.count a.entries.now in let a = c.args in
    Goes (only_sub generic_ribs longest) (state_of a.told) given a.out.now c.saturating_add-size.result (Octets c.in_ok-written.written)
fine longest c =
    let given : (Given) = let a = c.args in rib_generic_given a.timestamp a.sequence a.family a.safi a.bits a.prefix.now a.count a.entries.now in
    let long : (let a = c.args in length a.prefix.now + length a.entries.now + 10 ≡ length (message given)) = let a = c.args in generic_length a.timestamp a.sequence a.family a.safi a.bits a.prefix.now a.count a.entries.now in
    let sized : (c.saturating_add-size.result ≡ capped (length (message given))) = summed _ _ _ _ c.saturating_add.ensures c.saturating_add-size.ensures ∙ ap capped long in
    let a = c.args in
    goes _ (state_of a.told) given a.out.now _ _ _ _ refl sized refl (c.in_ok-written.ensures _ (c.generic_rib_refusal-fields.ensures longest)) _ refl

room : (c : In_ok-written) → let a = c.args in 12 + (length a.prefix.now + length a.entries.now + 10) ≤ length a.out.now
room c =
    let given : (Given) = let a = c.args in rib_generic_given a.timestamp a.sequence a.family a.safi a.bits a.prefix.now a.count a.entries.now in
    let long : (let a = c.args in length a.prefix.now + length a.entries.now + 10 ≡ length (message given)) = let a = c.args in generic_length a.timestamp a.sequence a.family a.safi a.bits a.prefix.now a.count a.entries.now in
    let sized : (c.saturating_add-size.result ≡ capped (length (message given))) = summed _ _ _ _ c.saturating_add.ensures c.saturating_add-size.ensures ∙ ap capped long in
    let fine : (let a = c.args in Goes (only_sub generic_ribs 0) (state_of a.told) given a.out.now c.saturating_add-size.result (Octets c.in_ok-written.written)) = let a = c.args in goes _ (state_of a.told) given a.out.now _ _ _ _ refl sized refl (c.in_ok-written.ensures _ (c.generic_rib_refusal-fields.ensures 0)) _ refl in
    rw long fine.space

pub returns-in_err-written : goal.returns-in_err-written
returns-in_err-written c =
    let a = c.args in
    let why = c.in_err-written.field-0.0 in
    let passed : c.from_residual.result ≡ Err why = search rules in
    refuses _ (state_of a.told) (given (goal.at.returns-in_err-written c).After-verdict) a.out.now _ _ _ _ refl (sized (goal.at.returns-in_err-written c).After-verdict) refl (passed ∙ c.in_err-written.ensures _ (c.generic_rib_refusal-fields.ensures _)) why passed

pub put_head-requires : goal.put_head-requires
put_head-requires c = let r = room (goal.at.put_head-requires c).In_ok-written in search rules

pub put_number-requires : goal.put_number-requires
put_number-requires c = let r = room (goal.at.put_number-requires c).In_ok-written in search rules

pub put_number-requires-2 : goal.put_number-requires-2
put_number-requires-2 c = let r = room (goal.at.put_number-requires-2 c).In_ok-written in search rules

pub put_number-requires-3 : goal.put_number-requires-3
put_number-requires-3 c = let r = room (goal.at.put_number-requires-3 c).In_ok-written in search rules

pub put_entries-requires : goal.put_entries-requires
put_entries-requires c = let r = room (goal.at.put_entries-requires c).In_ok-written in search rules

pub returns : goal.returns
returns c =
    let a = c.args in
    let s = (fine 0 (goal.at.returns c).In_ok-written).space in
    let h : 12 + length (message (given (goal.at.returns c).After-verdict)) ≤ length c.put_head.new.out = search rules in
    done _ (state_of a.told) (given (goal.at.returns c).After-verdict) a.out.now _ _ _ _ (fine _ (goal.at.returns c).In_ok-written) c.put_head.ensures
    (generic_laid a.timestamp a.sequence a.family a.safi a.bits a.prefix.now a.count a.entries.now _ _ _ _ _ c.put_number.ensures c.put_number-2.ensures c.put_number-3.ensures c.put_entries.ensures h)
