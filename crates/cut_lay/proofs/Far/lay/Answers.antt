-- `cut_lay::Far::lay` meets its contract.
use Rattle.std.proofs.Common.{◌≡◌, refl, sym, ◌∙◌, ◌-◌, arith}
use Rattle.cut_laws.proofs.Laid.{laid_nothing, laid_so, laid_not}
use Rattle.cut_lay.proofs.Far.lay.Goals.{then-lays+then-size-gt0, else-lays, else-lays-via-then-lays+else-size-gt0, else-lays-via-else-lays}
use Rattle.cut_lay.proofs.Far.lay.Goals as goal

pub returns : goal.returns
returns c = (
  refl,
  elim c.if-lays.branch [
    | then-lays+then-size-gt0 w ↦ w.out-is ∙ rw w.if-lays.true (w.copy_blocks.ensures ∙ sym (laid_so _ _ _))
    | else-lays w ↦ w.out-is ∙ elim w.else-lays.branch [
      | else-lays-via-then-lays+else-size-gt0 v ↦ let z : c.args.to - c.args.self.run ≡ 0 = omega (arith, v.if-size-gt0.false) in rw z (sym (laid_nothing _ _ _))
      | else-lays-via-else-lays v ↦ rw v.if-lays.false (sym (laid_not _ _ _))
    ]
  ],
)
