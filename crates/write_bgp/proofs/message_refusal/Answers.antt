-- `write_bgp::message_refusal` meets its contract: the reader's number.
use mathlib.Core.Path.{◌≡◌, ap, ◌∙◌}
use Rattle.std.specs.Prelude.{Err}
use Rattle.record_spec.specs.declared.Part.{Part}
use Rattle.record_spec.specs.declared.Header.{Header}
use Rattle.record_spec.specs.declared.Session.{Session}
use Rattle.write_spec.specs.Judged.{unplaced}
use Rattle.write_bgp.proofs.Judged.{message_err, message_ok}
use borrow.Author.Rules.{rules}
use Rattle.write_bgp.proofs.message_refusal.Goals as goal

-- the message stands alone
abbrev part : Part
part = record { at = 0; size = 0 }

abbrev header : Header
header = record { timestamp = 0; ty = 0; subtype = 0; length = 0; microseconds = 0 }

abbrev session : Session
session = record { peer = 0; local = 0; interface = 0; family = 0; theirs = part; ours = part }

pub returns-in_err-message_at : goal.returns-in_err-message_at
returns-in_err-message_at c =
    let passed : c.from_residual.result ≡ Err c.in_err-message_at.field-0.0 = search rules in
    ap unplaced passed ∙ message_err _ header session c.args.b.now _ c.in_err-message_at.ensures

pub returns : goal.returns
returns c = message_ok _ header session c.args.b.now _ c.in_ok-message_at.ensures
