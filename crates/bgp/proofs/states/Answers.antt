-- `bgp::states` meets its contract: `read` is what the fields before have shown.
use Rattle.page_spec.specs.Bgp4mp.{state_change, state}
use Rattle.octets_laws.proofs.Rules.{flow}
use mathlib.Core.Path.{◌≡◌}
use borrow.Author.Rules.{rules}
use Rattle.std.specs.Prelude.{Err}
use Rattle.bgp.proofs.states.Goals.{then-old-lt1-via-then-old-lt1, then-old-lt1-via-else-old-lt1+then-old-gt6, then-new-lt1-via-then-new-lt1, then-new-lt1-via-else-new-lt1+then-new-gt6}
use Rattle.bgp.proofs.states.Goals as goal

pub returns-in_err-old : goal.returns-in_err-old
unfolding state_change state
returns-in_err-old c =
    let why = c.in_err-old.ensures in
    let passed : c.from_residual.result ≡ Err c.in_err-old.field-0.0 = search rules in
    search flow depth 12

pub returns-then-old-lt1 : goal.returns-then-old-lt1
unfolding state_change state
returns-then-old-lt1 c =
    let a = c.in_ok-old.ensures in
    elim c.then-old-lt1.branch [ then-old-lt1-via-then-old-lt1 w ↦ search flow depth 12 | then-old-lt1-via-else-old-lt1+then-old-gt6 w ↦ search flow depth 12 ]

pub returns-in_err-new : goal.returns-in_err-new
unfolding state_change state
returns-in_err-new c =
    let a = c.in_ok-old.ensures in
    let why = c.in_err-new.ensures in
    let passed : c.from_residual-in_err-new.result ≡ Err c.in_err-new.field-0.0 = search rules in
    search flow depth 12

pub returns-then-new-lt1 : goal.returns-then-new-lt1
unfolding state_change state
returns-then-new-lt1 c =
    let a = c.in_ok-old.ensures in
    let b = c.in_ok-new.ensures in
    elim c.then-new-lt1.branch [ then-new-lt1-via-then-new-lt1 w ↦ search flow depth 12 | then-new-lt1-via-else-new-lt1+then-new-gt6 w ↦ search flow depth 12 ]

pub returns-then-b-m : goal.returns-then-b-m
unfolding state_change state
returns-then-b-m c =
    let a = c.in_ok-old.ensures in
    let b = c.in_ok-new.ensures in
    search flow depth 12

pub returns : goal.returns
unfolding state_change state
returns c =
    let a = c.in_ok-old.ensures in
    let b = c.in_ok-new.ensures in
    search flow depth 12
