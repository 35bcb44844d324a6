-- `accept::message` meets its contract.
use native.Mathlib.Omega.{arith}
use borrow.Author.Tests.{leb-true}
use Rattle.page_spec.specs.Bgp4mp.{message}
use Rattle.accept_laws.proofs.Fields.{message-runs}
use Rattle.accept.proofs.message.Goals as goal

pub returns : goal.returns
returns c =
    let session = c.in-Some.ensures.1 in
    let size = c.number-n.ensures.0 in
    λ e. session (omega arith) (message _) (message-runs _ _ _ _ (omega arith) size (omega arith) (leb-true _ _ e))
