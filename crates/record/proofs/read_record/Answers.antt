-- `record::read_record` meets its contract.
use native.Mathlib.Omega.{arith}
use Rattle.form_laws.proofs.Octets.{octets_of_lem}
use Rattle.page_spec.specs.Bgp4mp.{longest_message}
use Rattle.record_laws.proofs.Numbers.{reads}
use Rattle.record.proofs.read_record.Goals as goal

pub returns : goal.returns
returns c =
    let a = c.args in
    rw c.read_with.ensures (reads longest_message a.t a.s.now (octets_of_lem a.s.now (λ k. omega (arith, c.shared_slice_known-1.given k))))
