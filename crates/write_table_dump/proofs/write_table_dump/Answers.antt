-- `write_table_dump::write_table_dump` meets its contract: what it is given, its size, and what is known once it may write.
use mathlib.Core.Path.{◌≡◌, refl, ap, ◌∙◌}
use Prim.Native.Nat.{ℕ, ◌+◌, ◌≤◌}
use lib.ListN.{length}
use Rattle.form_spec.specs.Put.{Given, message}
use Rattle.form_spec.specs.Shape.{no_table}
use Rattle.write_spec.specs.Only.{only_sub, table_dumps}
use Rattle.write_spec.specs.Givens.{table_dump_given}
use Rattle.write_spec.specs.Verdict.{capped}
use Rattle.write_laws.proofs.Sums.{summed}
use Rattle.write_laws.proofs.Answers.{refuses, Goes, goes, done}
use Rattle.write_table_dump.proofs.Laws.{dump_length, dump_laid}
use borrow.Author.Rules.{rules}
use Rattle.std.specs.Prelude.{Err}
use Rattle.room_spec.specs.Written.{Octets}
use Rattle.write_table_dump.proofs.write_table_dump.Goals.{After-verdict, In_ok-written}
use Rattle.write_table_dump.proofs.write_table_dump.Goals as goal

abbrev given : After-verdict → Given
given c =
    let a = c.args in
    table_dump_given a.timestamp a.subtype a.view a.sequence a.prefix.now a.bits a.status a.originated a.address.now a.peer a.attributes.now

long : (c : After-verdict) → let given : (Given) = let a = c.args in table_dump_given a.timestamp a.subtype a.view a.sequence a.prefix.now a.bits a.status a.originated a.address.now a.peer a.attributes.now in let a = c.args in length a.prefix.now + length a.address.now + length a.attributes.now + 14 ≡ length (message (given))
long c =
    let given : (Given) = let a = c.args in table_dump_given a.timestamp a.subtype a.view a.sequence a.prefix.now a.bits a.status a.originated a.address.now a.peer a.attributes.now in
    let a = c.args in
    dump_length a.timestamp a.subtype a.view a.sequence a.prefix.now a.bits a.status a.originated a.address.now a.peer a.attributes.now

sized : (c : After-verdict) → let given : (Given) = let a = c.args in table_dump_given a.timestamp a.subtype a.view a.sequence a.prefix.now a.bits a.status a.originated a.address.now a.peer a.attributes.now in c.saturating_add-size.result ≡ capped (length (message (given)))
sized c =
    let given : (Given) = let a = c.args in table_dump_given a.timestamp a.subtype a.view a.sequence a.prefix.now a.bits a.status a.originated a.address.now a.peer a.attributes.now in
    let long : (let a = c.args in length a.prefix.now + length a.address.now + length a.attributes.now + 14 ≡ length (message (given))) = let a = c.args in dump_length a.timestamp a.subtype a.view a.sequence a.prefix.now a.bits a.status a.originated a.address.now a.peer a.attributes.now in
    summed _ _ _ _ (summed _ _ _ _ c.saturating_add.ensures c.saturating_add-parts.ensures) c.saturating_add-size.ensures ∙ ap capped (long)

-- ---- the record goes into the buffer
fine : (longest : ℕ) (c : In_ok-written) → let given : (Given) = let a = c.args in table_dump_given a.timestamp a.subtype a.view a.sequence a.prefix.now a.bits a.status a.originated a.address.now a.peer a.attributes.now in
    Goes (only_sub table_dumps longest) no_table (given) c.args.out.now c.saturating_add-size.result (Octets c.in_ok-written.written)
fine longest c =
    let given : (Given) = let a = c.args in table_dump_given a.timestamp a.subtype a.view a.sequence a.prefix.now a.bits a.status a.originated a.address.now a.peer a.attributes.now in
    let long : (let a = c.args in length a.prefix.now + length a.address.now + length a.attributes.now + 14 ≡ length (message (given))) = let a = c.args in dump_length a.timestamp a.subtype a.view a.sequence a.prefix.now a.bits a.status a.originated a.address.now a.peer a.attributes.now in
    let sized : (c.saturating_add-size.result ≡ capped (length (message (given)))) = summed _ _ _ _ (summed _ _ _ _ c.saturating_add.ensures c.saturating_add-parts.ensures) c.saturating_add-size.ensures ∙ ap capped (long) in
    goes _ no_table (given) c.args.out.now _ _ _ _ refl (sized) refl (c.in_ok-written.ensures _ (c.dump_refusal-fields.ensures longest)) _ refl

pub returns-in_err-written : goal.returns-in_err-written
returns-in_err-written c =
    let why = c.in_err-written.field-0.0 in
    let passed : c.from_residual.result ≡ Err why = search rules in
    refuses _ no_table (given (goal.at.returns-in_err-written c).After-verdict) c.args.out.now _ _ _ _ refl (sized (goal.at.returns-in_err-written c).After-verdict) refl (passed ∙ c.in_err-written.ensures _ (c.dump_refusal-fields.ensures _)) why passed

pub put_head-requires : goal.put_head-requires
put_head-requires c = let s = (fine 0 (goal.at.put_head-requires c).In_ok-written).space in search rules

pub put_front-at-requires : goal.put_front-at-requires
put_front-at-requires c =
    let s = (fine 0 (goal.at.put_front-at-requires c).In_ok-written).space in
    let l = long (goal.at.put_front-at-requires c).After-verdict in
    search rules

pub put_rest-requires : goal.put_rest-requires
put_rest-requires c =
    let s = (fine 0 (goal.at.put_rest-requires c).In_ok-written).space in
    let l = long (goal.at.put_rest-requires c).After-verdict in
    let e = c.put_front-at.ensures.0 in
    search rules

pub returns : goal.returns
returns c =
    let a = c.args in
    let s = (fine 0 (goal.at.returns c).In_ok-written).space in
    let h : 12 + length (message (given (goal.at.returns c).After-verdict)) ≤ length c.put_head.new.out = search rules in
    done _ no_table (given (goal.at.returns c).After-verdict) a.out.now _ _ _ _ (fine _ (goal.at.returns c).In_ok-written) c.put_head.ensures
    (dump_laid a.timestamp a.subtype a.view a.sequence a.prefix.now a.bits a.status a.originated a.address.now a.peer a.attributes.now _ _ _ _
    c.put_front-at.ensures.0 c.put_front-at.ensures.1 c.put_rest.ensures h)
