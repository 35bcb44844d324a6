use mathlib.Core.Path.{◌≡◌}
use Prim.Native.Nat.{◌-◌}
use lib.ListN.{length}
use Rattle.page_spec.specs.Bgp4mp.{longest_message}
use Rattle.listing.proofs.Listed.{Listed}
use Rattle.listing.proofs.lay.Given as goal

abbrev pub invariant-loop-out : goal.invariant-loop-out
invariant-loop-out l = (length l.out ≡ length l.initial.out) × Listed longest_message l.d l.initial.out l.out l.at l.t l.put

abbrev pub decreases-loop-out : goal.decreases-loop-out
decreases-loop-out l = length l.d - l.at
