-- The sums go on over what is left of the octets.
use Rattle.std.proofs.Common.{rules, ◌≡◌, ◌∷◌, ◌+◌, ap, sym, ◌∙◌, drop}
use Rattle.std.proofs.lemmas.List.{drop_more}
use Rattle.shown.proofs.Adler.{after, after_one}
use Rattle.shown.proofs.adler32.Goals as goal

pub loop-octet-preserved : goal.loop-octet-preserved
loop-octet-preserved c =
    let rest = drop (c.loop-octet.octet-index + 1) c.args.octets.now in
    let met : after c.loop-octet.low c.loop-octet.high (c.from.result ∷ rest) ≡ after c.loop-octet.low c.loop-octet.high (drop c.loop-octet.octet-index c.args.octets.now) = ap (after c.loop-octet.low c.loop-octet.high) (ap (λ x. x ∷ rest) (search rules) ∙ sym (drop_more c.args.octets.now c.loop-octet.octet-index 0 (search rules))) in
    (search rules, search rules, after_one c.loop-octet.low c.loop-octet.high c.from.result rest ∙ met ∙ c.loop-octet.invariant.2)
