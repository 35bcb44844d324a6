-- Those so far are as they were.
use Rattle.std.proofs.Common.{◌≡◌, take}
use Rattle.std.specs.List.{list_all}
use lib.Dec.{eqb}
use Rattle.shown.proofs.is_untouched.Given as goal

abbrev pub invariant-loop-octet : goal.invariant-loop-octet
invariant-loop-octet l = l.untouched ≡ list_all (λ octet. eqb octet 165) (take l.octet-index l.rest)
