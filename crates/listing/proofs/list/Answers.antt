-- `listing::list` meets its contract.
use mathlib.Core.Path.{refl}
use native.Mathlib.Omega.{arith}
use Rattle.page_spec.specs.Bgp4mp.{longest_message}
use Rattle.listing_laws.proofs.Lays.{front}
use Rattle.listing_laws.proofs.Listing.{all_large, all_walked}
use Rattle.listing.proofs.list.Goals as goal

pub returns-then-d-gt65536 : goal.returns-then-d-gt65536
returns-then-d-gt65536 c =
    let f = front (all_large longest_message _ c.if-d-gt65536.true) (record { ends = refl; holds = c.put_bytes.ensures }) in
    (f.0, f.1, omega arith)

pub returns : goal.returns
returns c =
    let f = front (all_walked longest_message _ c.if-d-gt65536.false) c.lay.ensures.0 in
    (f.0, f.1, omega arith)
