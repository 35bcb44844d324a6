-- `shown::is_untouched` meets its contract: at the end all have been asked.
use Rattle.std.proofs.Common.{◌≡◌, Bool, List, ℕ, take, sym, ap, ◌∙◌, arith}
use Rattle.std.proofs.lemmas.List.{take_all}
use Rattle.std.proofs.lemmas.List.Sums.{AllPass-from_list_all, list_all-from_AllPass}
use Rattle.std.specs.List.{list_all}
use borrow.Author.Tests.{eq-eqb, eqb-true}
use lib.Dec.{eqb}
use Rattle.shown.proofs.is_untouched.Goals as goal

abbrev is_fill : ℕ → Bool
is_fill octet = eqb octet 165

pub returns : goal.returns
returns c =
    let xs : List ℕ = c.args.rest.now in
    let whole : take c.loop-octet.octet-index xs ≡ xs = take_all _ xs (omega (arith, c.loop-octet-test.false)) in
    let all : c.loop-octet.untouched ≡ list_all is_fill xs = c.loop-octet.invariant ∙ ap (list_all is_fill) whole in
    (λ t k d h. eqb-true _ _ (AllPass-from_list_all is_fill xs (sym all ∙ t) k d h), λ a. all ∙ list_all-from_AllPass is_fill xs (λ k d h. eq-eqb _ _ (a k d h)))
