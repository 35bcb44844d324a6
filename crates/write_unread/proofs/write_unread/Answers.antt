-- `write_unread::write_unread` meets its contract: header, microseconds, contents.
use mathlib.Core.Path.{◌≡◌, refl, sym, ap, ◌∙◌}
use Prim.Native.Nat.{ℕ, ◌+◌, ◌≤◌}
use native.Mathlib.Omega.{arith}
use lib.ListN.{length}
use Rattle.form_spec.specs.Fmt.{join}
use Rattle.form_spec.specs.Put.{Given, lay, message}
use Rattle.form_spec.specs.Shape.{no_table}
use Rattle.octets_laws.proofs.Over.{more}
use Rattle.write_spec.specs.Times.{micro_size, micros}
use Rattle.write_spec.specs.Only.{unreads, only_type}
use Rattle.write_spec.specs.Givens.{unread_given}
use Rattle.write_spec.specs.Verdict.{capped}
use Rattle.write_laws.proofs.Answers.{refuses, Goes, goes, done, micros_long}
use Rattle.std.specs.Prelude.{Err}
use Rattle.room_spec.specs.Written.{Octets}
use Rattle.write_unread.proofs.Laws.{message_long}
use borrow.Author.Rules.{rules}
use Rattle.write_unread.proofs.write_unread.Goals.{After-verdict, In_ok-written}
use Rattle.write_unread.proofs.write_unread.Goals as goal

abbrev given : After-verdict → Given
given c =
    let a = c.args in unread_given a.time a.ty a.subtype a.contents.now

-- the message's length, as it is added up
sized : (c : After-verdict) → let given : (Given) = let a = c.args in unread_given a.time a.ty a.subtype a.contents.now in c.saturating_add-size.result ≡ capped (length (message given))
sized c =
    let given : (Given) = let a = c.args in unread_given a.time a.ty a.subtype a.contents.now in
    let a = c.args in
    c.saturating_add-size.ensures ∙ ap capped (ap (λ (m : ℕ). m + length a.contents.now) c.micro.ensures ∙ sym (message_long a.time a.ty a.subtype a.contents.now))

-- ---- the record goes into the buffer
fine : (longest : ℕ) (c : In_ok-written) → let given : (Given) = let a = c.args in unread_given a.time a.ty a.subtype a.contents.now in let a = c.args in
    Goes (only_type (unreads (micro_size a.time)) longest) no_table given a.out.now (c.saturating_add-size.result) (Octets c.in_ok-written.written)
fine longest c =
    let given : (Given) = let a = c.args in unread_given a.time a.ty a.subtype a.contents.now in
    let sized : (c.saturating_add-size.result ≡ capped (length (message given))) = let a = c.args in c.saturating_add-size.ensures ∙ ap capped (ap (λ (m : ℕ). m + length a.contents.now) c.micro.ensures ∙ sym (message_long a.time a.ty a.subtype a.contents.now)) in
    goes _ _ _ _ _ _ _ _ refl sized refl (c.in_ok-written.ensures _ (c.unread_refusal.ensures longest c.args.contents.now)) _ refl

space : (c : In_ok-written) → let a = c.args in 12 + (micro_size a.time + length a.contents.now) ≤ length a.out.now
space c =
    let given : (Given) = let a = c.args in unread_given a.time a.ty a.subtype a.contents.now in
    let sized : (c.saturating_add-size.result ≡ capped (length (message given))) = let a = c.args in c.saturating_add-size.ensures ∙ ap capped (ap (λ (m : ℕ). m + length a.contents.now) c.micro.ensures ∙ sym (message_long a.time a.ty a.subtype a.contents.now)) in
    let fine : (let a = c.args in Goes (only_type (unreads (micro_size a.time)) 0) no_table given a.out.now (c.saturating_add-size.result) (Octets c.in_ok-written.written)) = goes _ _ _ _ _ _ _ _ refl sized refl (c.in_ok-written.ensures _ (c.unread_refusal.ensures 0 c.args.contents.now)) _ refl in
    let a = c.args in
    let l = message_long a.time a.ty a.subtype a.contents.now in
    omega (arith, fine.space)

pub returns-in_err-written : goal.returns-in_err-written
returns-in_err-written c =
    let a = c.args in
    let why = c.in_err-written.field-0.0 in
    let passed : c.from_residual.result ≡ Err why = search rules in
    refuses _ _ (given (goal.at.returns-in_err-written c).After-verdict) c.args.out.now _ _ _ _ refl (sized (goal.at.returns-in_err-written c).After-verdict) refl (passed ∙ c.in_err-written.ensures _ (c.unread_refusal.ensures _ a.contents.now)) why passed

pub put_head-requires : goal.put_head-requires
put_head-requires c = let s = space (goal.at.put_head-requires c).In_ok-written in search rules

pub put_micros-at-requires : goal.put_micros-at-requires
put_micros-at-requires c = let s = space (goal.at.put_micros-at-requires c).In_ok-written in search rules

pub put_bytes-requires : goal.put_bytes-requires
put_bytes-requires c =
    let s = space (goal.at.put_bytes-requires c).In_ok-written in
    let i = c.put_micros-at.ensures.0 in
    search rules

pub returns : goal.returns
returns c =
    let a = c.args in
    let s = space (goal.at.returns c).In_ok-written in
    let l = micros_long a.time in
    let at = c.put_micros-at.ensures.0 ∙ ap (λ (n : ℕ). 12 + n) (sym l) in
    let head = rw c.seconds.ensures at c.put_head.ensures in
    let rest = more c.put_head.new.out (join (lay (micros a.time))) a.contents.now _ _ 12 _ c.put_micros-at.ensures.1 c.put_bytes.ensures at (rw l (search rules)) in
    done _ _ _ _ _ _ _ _ (fine _ (goal.at.returns c).In_ok-written) head rest
