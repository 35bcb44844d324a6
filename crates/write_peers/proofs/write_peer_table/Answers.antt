-- `write_peers::write_peer_table` meets its contract: what it is given, its size, and what is known once it may write.
use mathlib.Core.Path.{◌≡◌, refl, ap, ◌∙◌}
use Prim.Native.Nat.{ℕ, ◌+◌}
use lib.ListN.{length}
use Rattle.form_spec.specs.Put.{Given, message}
use Rattle.form_spec.specs.Shape.{no_table}
use Rattle.write_spec.specs.Only.{only_sub, peer_tables}
use Rattle.write_spec.specs.Givens.{peer_table_given}
use Rattle.write_spec.specs.Verdict.{capped}
use Rattle.write_laws.proofs.Sums.{summed}
use Rattle.write_laws.proofs.Answers.{refuses, Goes, goes, done}
use Rattle.std.specs.Prelude.{Err}
use Rattle.room_spec.specs.Written.{Octets}
use Rattle.write_peers.proofs.Laws.{table-length}
use borrow.Author.Rules.{rules}
use Rattle.write_peers.proofs.write_peer_table.Goals.{After-verdict, In_ok-written}
use Rattle.write_peers.proofs.write_peer_table.Goals as goal

abbrev given : After-verdict → Given
given c =
    let a = c.args in peer_table_given a.timestamp a.collector a.name.now a.count a.peers.now

long : (c : After-verdict) → let given : (Given) = let a = c.args in peer_table_given a.timestamp a.collector a.name.now a.count a.peers.now in let a = c.args in length a.name.now + length a.peers.now + 8 ≡ length (message (given))
long c =
    let given : (Given) = let a = c.args in peer_table_given a.timestamp a.collector a.name.now a.count a.peers.now in
    let a = c.args in table-length a.timestamp a.collector a.name.now a.count a.peers.now

sized : (c : After-verdict) → let given : (Given) = let a = c.args in peer_table_given a.timestamp a.collector a.name.now a.count a.peers.now in c.saturating_add-size.result ≡ capped (length (message (given)))
sized c =
    let given : (Given) = let a = c.args in peer_table_given a.timestamp a.collector a.name.now a.count a.peers.now in
    let long : (let a = c.args in length a.name.now + length a.peers.now + 8 ≡ length (message (given))) = let a = c.args in table-length a.timestamp a.collector a.name.now a.count a.peers.now in
    summed _ _ _ _ c.saturating_add.ensures c.saturating_add-size.ensures ∙ ap capped (long)

-- ---- the record goes into the buffer
fine : (longest : ℕ) (c : In_ok-written) → let given : (Given) = let a = c.args in peer_table_given a.timestamp a.collector a.name.now a.count a.peers.now in
    Goes (only_sub peer_tables longest) no_table (given) c.args.out.now c.saturating_add-size.result (Octets c.in_ok-written.written)
fine longest c =
    let given : (Given) = let a = c.args in peer_table_given a.timestamp a.collector a.name.now a.count a.peers.now in
    let long : (let a = c.args in length a.name.now + length a.peers.now + 8 ≡ length (message (given))) = let a = c.args in table-length a.timestamp a.collector a.name.now a.count a.peers.now in
    let sized : (c.saturating_add-size.result ≡ capped (length (message (given)))) = summed _ _ _ _ c.saturating_add.ensures c.saturating_add-size.ensures ∙ ap capped (long) in
    goes _ no_table (given) c.args.out.now _ _ _ _ refl (sized) refl (c.in_ok-written.ensures _ (c.table_refusal-fields.ensures longest)) _ refl

pub returns-in_err-written : goal.returns-in_err-written
returns-in_err-written c =
    let a = c.args in
    let why = c.in_err-written.field-0.0 in
    let passed : c.from_residual.result ≡ Err why = search rules in
    refuses _ no_table (given (goal.at.returns-in_err-written c).After-verdict) c.args.out.now _ _ _ _ refl (sized (goal.at.returns-in_err-written c).After-verdict) refl (passed ∙ c.in_err-written.ensures _ (c.table_refusal-fields.ensures _)) why passed

pub put_head-requires : goal.put_head-requires
put_head-requires c = let s = (fine 0 (goal.at.put_head-requires c).In_ok-written).space in search rules

pub put_table-requires : goal.put_table-requires
put_table-requires c =
    let s = (fine 0 (goal.at.put_table-requires c).In_ok-written).space in
    let l = long (goal.at.put_table-requires c).After-verdict in
    search rules

pub returns : goal.returns
returns c = done _ _ _ _ _ _ _ _ (fine _ (goal.at.returns c).In_ok-written) c.put_head.ensures c.put_table.ensures
