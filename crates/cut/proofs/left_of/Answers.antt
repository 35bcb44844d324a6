-- `cut::left_of` meets its contract.
use Rattle.std.proofs.Common.{◌≡◌, refl, sym, ap, ◌∙◌, Bool, true, false, List, ℕ, leb, length}
use borrow.Author.Tests.{leb-true, leb-false}
use Rattle.octets_spec.specs.Over.{over}
use Rattle.room_spec.specs.Room.{written, holds}
use Rattle.room_spec.specs.Written.{Octets}
use Rattle.room_laws.proofs.Room.{fits-laid, long}
use Rattle.cut_spec.specs.Laid.{laid}
use Rattle.cut_laws.proofs.Laid.{laid_so}
use Rattle.cut.proofs.left_of.Goals as goal
use Rattle.form_spec.specs.Refusal.{refused}

-- xs goes into out, which measuring left as it was, or does not
module _ (xs : List ℕ) {out out₁ : List ℕ} {b : Bool} (fits : b ≡ leb (length xs) (length out)) (same : out₁ ≡ out) where
  there : {r : ℕ} {out₂ : List ℕ} → b ≡ true → r ≡ length xs → out₂ ≡ laid true out₁ 0 xs → (Octets r ≡ written 0 0 xs out) × (out₂ ≡ holds 0 xs out)
  there t l e =
      let z = fits-laid 0 0 xs out refl (leb-true _ _ (sym fits ∙ t)) in
      (ap Octets l ∙ z.0, e ∙ laid_so _ _ _ ∙ ap (λ (o : List ℕ). over o 0 xs) same ∙ z.1)

  too_long : b ≡ false → (refused 15 0 ≡ written 0 0 xs out) × (out₁ ≡ holds 0 xs out)
  too_long t = let z = long 0 0 xs out refl (leb-false _ _ (sym fits ∙ t)) in (z.0, same ∙ z.1)

pub returns-then-fits : goal.returns-then-fits
returns-then-fits c = rw (← c.of-mutes.ensures) (there _ c.fits.ensures.0 c.fits.ensures.1 c.if-fits.true c.leave.ensures.0 c.leave.ensures.1)

pub returns : goal.returns
returns c = rw (← c.of-mutes.ensures) (too_long _ c.fits.ensures.0 c.fits.ensures.1 c.if-fits.false)
