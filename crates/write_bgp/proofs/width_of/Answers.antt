-- `write_bgp::width_of` meets its contract.
use mathlib.Core.Path.{sym, ap, ◌∙◌}
use Rattle.std.specs.Prelude.{Ok}
use Rattle.write_spec.specs.Only.{as_octets}
use Rattle.write_bgp.proofs.Laws.{Found, found, no_width}
use borrow.Author.Rules.{rules}
use borrow.Enum.Refused.{opened}
use Rattle.write_bgp.proofs.width_of.Goals.{After-kind_16}
use Rattle.write_bgp.proofs.width_of.Goals as goal

-- the kind, as the page has it
kind_found : (c : After-kind_16) → Found c.args.time c.args.subtype c.kind_16.result
kind_found c =
    found _ _ _ _ c.micro.ensures c.kind_16.ensures

pub returns-in_default : goal.returns-in_default
returns-in_default c =
    let page = (kind_found (goal.at.returns-in_default c).After-kind_16).page in
    (no_width _ (opened c.in_default.in_default-own.keys3) ∙ ap as_octets (c.in_default.ensures ∙ sym c.kind_16.ensures ∙ page), search rules)

pub returns-in_default-2 : goal.returns-in_default-2
returns-in_default-2 c = (ap as_octets (sym c.in_default.is ∙ (kind_found (goal.at.returns-in_default-2 c).After-kind_16).page), search rules)

pub returns-in-Ok-Change : goal.returns-in-Ok-Change
returns-in-Ok-Change c =
    let k = kind_found (goal.at.returns-in-Ok-Change c).After-kind_16 in
    let e = c.in-Ok-Change.is ∙ ap Ok c.in-Ok-Change.field-0-is in
    let s = rw e at k.sane in
    (ap as_octets (sym e ∙ k.page), s.1)

pub returns-in-Ok-Message : goal.returns-in-Ok-Message
returns-in-Ok-Message c =
    let k = kind_found (goal.at.returns-in-Ok-Message c).After-kind_16 in
    let e = c.in-Ok-Message.is ∙ ap Ok c.in-Ok-Message.field-0-is in
    let s = rw e at k.sane in
    (ap as_octets (sym e ∙ k.page), s.1)
