-- `write_peers::table_refusal` meets its contract: the header, the fields before the count, the peers.
use mathlib.Core.Path.{◌≡◌, refl, ap}
use Prim.Native.Nat.{ℕ}
use native.Mathlib.Omega.{arith}
use Rattle.form_spec.specs.Fmt.{end}
use Rattle.form_spec.specs.Body.{many}
use Rattle.form_spec.specs.Put.{Given, body_refusal, fields_refusal}
use Rattle.form_spec.specs.Shape.{no_table, plan}
use Rattle.form_spec.specs.Words.{choose}
use Rattle.form_spec.specs.declared.Fault.{Fault}
use Rattle.page_spec.specs.Layout.{kind13, kind, layout_for}
use Rattle.page_spec.specs.Chosen.{PeerTable}
use Rattle.page_spec.specs.Peers.{peer, table_head}
use Rattle.std.specs.Prelude.{Result, Err, ⊤}
use Rattle.write_spec.specs.Judged.{judged, unplaced}
use Rattle.write_spec.specs.Only.{only_sub, peer_tables}
use Rattle.write_spec.specs.Givens.{peer_table_given}
use Rattle.write_laws.proofs.Turns.{front_err, front_ok, head_stops, own_kind}
use borrow.Author.Rules.{rules}
use Rattle.write_peers.proofs.table_refusal.Goals.{In_ok-head_refusal, Start}
use Rattle.write_peers.proofs.table_refusal.Goals as goal

abbrev given : Start → Given
given s =
    let a = s.args in peer_table_given a.timestamp a.collector a.name.now a.count a.peers.now

-- the header's fields are sound
passes : (longest : ℕ) (y : Result ⊤ Fault) (c : In_ok-head_refusal) → let given : (Given) = let a = c.args in peer_table_given a.timestamp a.collector a.name.now a.count a.peers.now in
    y ≡ judged (body_refusal (many (table_head (end 0)) peer) given.values given.tail) → y ≡ judged (fields_refusal (only_sub peer_tables longest) no_table given)
unfolding kind kind13 choose layout_for plan
passes longest y c e =
    let given : (Given) = let a = c.args in peer_table_given a.timestamp a.collector a.name.now a.count a.peers.now in
    own_kind longest peer_tables no_table given PeerTable y (omega arith) refl refl _ c.in_ok-head_refusal.ensures refl e

pub returns-in_err-head_refusal : goal.returns-in_err-head_refusal
unfolding kind kind13 choose
returns-in_err-head_refusal c = λ longest.
    let passed : c.from_residual.result ≡ Err c.in_err-head_refusal.field-0.0 = search rules in
    head_stops longest peer_tables no_table (given (goal.at.returns-in_err-head_refusal c).Start) PeerTable _ (omega arith) refl refl _ c.in_err-head_refusal.ensures (ap unplaced passed)

pub returns-in_err-front_refusal : goal.returns-in_err-front_refusal
returns-in_err-front_refusal c = λ longest.
    let passed : c.from_residual-in_err-front_refusal.result ≡ Err c.in_err-front_refusal.field-0.0 = search rules in
    passes longest _ (goal.at.returns-in_err-front_refusal c).In_ok-head_refusal (front_err _ _ _ _ _ _ c.in_err-front_refusal.ensures (ap unplaced passed))

pub returns : goal.returns
returns c = λ longest. passes longest _ (goal.at.returns c).In_ok-head_refusal (front_ok _ _ _ _ _ _ c.in_ok-front_refusal.ensures c.peers_refusal.ensures)
