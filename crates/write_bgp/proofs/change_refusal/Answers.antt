-- `write_bgp::change_refusal` meets its contract: the header, then the message's fields.
use mathlib.Core.Path.{◌≡◌, refl, sym, ap, ◌∙◌}
use mathlib.Core.List.{[], ◌∷◌}
use Prim.Native.Nat.{ℕ}
use lib.Dec.{lit<}
use Rattle.form_spec.specs.Fmt.{end}
use Rattle.form_spec.specs.Put.{Given, or_else, refusal, body_refusal, fields_refusal}
use Rattle.form_spec.specs.Shape.{no_table, plan}
use Rattle.form_spec.specs.declared.Fault.{Fault}
use Rattle.page_spec.specs.Bgp4mp.{session, state_change}
use Rattle.page_spec.specs.Layout.{kind, layout_for, stamped}
use Rattle.std.specs.Prelude.{Result, Ok, Err, ⊤}
use Rattle.write_spec.specs.Judged.{judged, unplaced}
use Rattle.write_spec.specs.Times.{micro_size, micros, bgp4mp}
use Rattle.write_spec.specs.Only.{as_octets, only_sub, changes}
use Rattle.write_spec.specs.Givens.{session_values, state_values, change_given}
use Rattle.write_laws.proofs.Judged.{then_ok, then_err, stamp_then}
use Rattle.write_laws.proofs.Turns.{not_own, no_one, head_stops, other_kind, own_kind}
use Rattle.write_bgp.proofs.Laws.{type-fits, Found, found, session_then, states_then}
use borrow.Author.Rules.{rules}
use borrow.Enum.Refused.{opened}
use Rattle.write_bgp.proofs.change_refusal.Goals.{After-kind_16, In-Ok-Change, Start}
use Rattle.write_bgp.proofs.change_refusal.Goals as goal

abbrev given : Start → Given
given s =
    let a = s.args in
    change_given a.time a.subtype a.peer a.local a.interface a.family a.theirs.now a.ours.now a.old a.new

-- the kind, as the page has it
kind_found : (c : After-kind_16) → Found c.args.time c.args.subtype c.kind_16.result
kind_found c = found _ _ _ _ c.micro.ensures c.kind_16.ensures

-- the header's fields are sound, and the kind is the writer's own: the microseconds, the session, and the rest
passes : (longest : ℕ) (y : Result ⊤ Fault) (c : In-Ok-Change) → let a = c.args in
    y ≡ judged (or_else (refusal (stamped (micro_size a.time) (end 0)) (micros a.time))
    (or_else (refusal (session c.in-Ok-Change.width (end 0)) (session_values c.in-Ok-Change.width a.peer a.local a.interface a.family a.theirs.now a.ours.now []))
    (refusal state_change (state_values a.old a.new))))
    → y ≡ judged (fields_refusal (only_sub changes longest) no_table (change_given a.time a.subtype a.peer a.local a.interface a.family a.theirs.now a.ours.now a.old a.new))
unfolding layout_for plan body_refusal
passes longest y c h =
    let a = c.args in
    let k : Found a.time a.subtype c.kind_16.result = found _ _ _ _ c.micro.ensures c.kind_16.ensures in
    let e = c.in-Ok-Change.is ∙ ap Ok c.in-Ok-Change.field-0-is in
    let m = rw e at k.stamps in
    let w : as_octets (kind (bgp4mp a.time) a.subtype) ≡ c.in-Ok-Change.width = ap as_octets (sym k.page ∙ e) in
    let head = rw c.seconds.ensures at c.in_ok-head_refusal.ensures in
    own_kind longest changes no_table (change_given a.time a.subtype a.peer a.local a.interface a.family a.theirs.now a.ours.now a.old a.new) _ y (lit< tt) (type-fits a.time) (sym k.page ∙ e) _ head refl
    (rw (w, m) (h ∙ ap judged (ap (or_else (refusal (stamped (micro_size a.time) (end 0)) (micros a.time))) (session_then c.in-Ok-Change.width a.peer a.local a.interface a.family a.theirs.now a.ours.now state_change (state_values a.old a.new))
    ∙ stamp_then a.time (session c.in-Ok-Change.width state_change) (session_values c.in-Ok-Change.width a.peer a.local a.interface a.family a.theirs.now a.ours.now (state_values a.old a.new)))))

pub session_refusal-requires : goal.session_refusal-requires
session_refusal-requires c = let s = rw (c.in-Ok-Change.is ∙ ap Ok c.in-Ok-Change.field-0-is) at (kind_found (goal.at.session_refusal-requires c).After-kind_16).sane in search rules

pub returns-in_err-head_refusal : goal.returns-in_err-head_refusal
returns-in_err-head_refusal c = λ longest.
    let passed : c.from_residual.result ≡ Err c.in_err-head_refusal.field-0.0 = search rules in
    let head = rw c.seconds.ensures at c.in_err-head_refusal.ensures in
    head_stops longest changes no_table (given (goal.at.returns-in_err-head_refusal c).Start) _ _ (lit< tt) (type-fits c.args.time) refl _ head (ap unplaced passed)

pub returns-in_default : goal.returns-in_default
returns-in_default c = λ longest.
    let head = rw c.seconds.ensures at c.in_ok-head_refusal.ensures in
    let other = not_own (0 ∷ 1 ∷ 2 ∷ 3 ∷ 4 ∷ 6 ∷ []) changes 5 _ refl tt (opened c.in_default.in_default-own.keys2) in
    other_kind longest changes no_table (given (goal.at.returns-in_default c).Start) _ _ (lit< tt) (type-fits c.args.time) (sym (kind_found (goal.at.returns-in_default c).After-kind_16).page ∙ c.kind_16.ensures ∙ sym c.in_default.ensures) _ head other refl

pub returns-in_default-2 : goal.returns-in_default-2
returns-in_default-2 c = λ longest.
    let head = rw c.seconds.ensures at c.in_ok-head_refusal.ensures in
    let other = no_one changes c.in_default.field-0 (lit< tt) in
    other_kind longest changes no_table (given (goal.at.returns-in_default-2 c).Start) _ _ (lit< tt) (type-fits c.args.time) (sym (kind_found (goal.at.returns-in_default-2 c).After-kind_16).page ∙ c.in_default.is) _ head other refl

pub returns-in_err-stamp_refusal : goal.returns-in_err-stamp_refusal
returns-in_err-stamp_refusal c = λ longest.
    let passed : c.from_residual-in_err-stamp_refusal.result ≡ Err c.in_err-stamp_refusal.field-0.0 = search rules in
    passes longest _ (goal.at.returns-in_err-stamp_refusal c).In-Ok-Change (then_err _ _ _ _ c.in_err-stamp_refusal.ensures (ap unplaced passed))

pub returns-in_err-session_refusal : goal.returns-in_err-session_refusal
returns-in_err-session_refusal c = λ longest.
    let passed : c.from_residual-in_err-session_refusal.result ≡ Err c.in_err-session_refusal.field-0.0 = search rules in
    passes longest _ (goal.at.returns-in_err-session_refusal c).In-Ok-Change (then_ok _ _ _ _ c.in_ok-stamp_refusal.ensures (then_err _ _ _ _ c.in_err-session_refusal.ensures (ap unplaced passed)))

pub returns-in_err-state_refusal : goal.returns-in_err-state_refusal
returns-in_err-state_refusal c = λ longest.
    let passed : c.from_residual-in_err-state_refusal.result ≡ Err c.in_err-state_refusal.field-0.0 = search rules in
    passes longest _ (goal.at.returns-in_err-state_refusal c).In-Ok-Change (then_ok _ _ _ _ c.in_ok-stamp_refusal.ensures (then_ok _ _ _ _ c.in_ok-session_refusal.ensures
    (then_err _ _ _ _ c.in_err-state_refusal.ensures (ap unplaced passed) ∙ ap judged (states_then c.args.old c.args.new))))

pub returns : goal.returns
returns c = λ longest.
    passes longest _ (goal.at.returns c).In-Ok-Change (then_ok _ _ _ _ c.in_ok-stamp_refusal.ensures (then_ok _ _ _ _ c.in_ok-session_refusal.ensures (then_ok _ _ _ _ c.in_ok-state_refusal.ensures c.state_refusal-2.ensures ∙ ap judged (states_then c.args.old c.args.new))))
