use Rattle.std.proofs.Common.{◌≡◌, ◌<◌, drop}
use Rattle.shown.proofs.Adler.{after}
use Rattle.shown.proofs.adler32.Given as goal

abbrev pub invariant-loop-octet : goal.invariant-loop-octet
invariant-loop-octet l = (l.low < 65521) × (l.high < 65521) × (after l.low l.high (drop l.octet-index l.octets) ≡ after 1 0 l.octets)
