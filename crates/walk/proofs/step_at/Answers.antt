-- `walk::step_at` meets its contract.
use native.Mathlib.Omega.{arith}
use Rattle.form_laws.proofs.Octets.{octets_of_lem}
use Rattle.page_spec.specs.Bgp4mp.{longest_message}
use Rattle.walk_laws.proofs.Steps.{steps}
use Rattle.walk.proofs.step_at.Goals as goal

pub returns : goal.returns
returns c =
    let a = c.args in
    rw c.step_with.ensures (steps longest_message a.t a.d.now a.at (octets_of_lem a.d.now (λ k. omega (arith, c.shared_slice_known-1.given k))))
