-- `listing::put_entry` meets its contract: the number goes behind the key.
use mathlib.Core.Path.{refl}
use native.Mathlib.Omega.{arith}
use lib.ListN.{length-append}
use Rattle.listing_laws.proofs.Lays.{both}
use Rattle.listing.proofs.put_entry.Goals as goal

pub put_bytes-requires : goal.put_bytes-requires
put_bytes-requires c = omega (arith, simp length-append at c.requires)

pub put_decimal-requires : goal.put_decimal-requires
put_decimal-requires c = omega (arith, simp length-append at c.requires)

pub returns : goal.returns
returns c =
    let e = c.put_decimal.ensures in
    both (record { ends = refl; holds = c.put_bytes.ensures }) (record { ends = e.0; holds = e.1 }) (rw (← length-append) c.requires)
