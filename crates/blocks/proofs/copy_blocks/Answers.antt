-- `blocks::copy_blocks` meets its contract. The invariant: the first i blocks are laid.
use Rattle.std.proofs.Common.{sym, rules, arith, ◌≡◌, ◌+◌, ◌*◌, ◌≤◌, refl}
use Rattle.octets_laws.proofs.Over.{over_none}
use Rattle.blocks.proofs.Laws.{one_more, last_more}
use Rattle.blocks.proofs.copy_blocks.Goals as goal

pub loop-i-init : goal.loop-i-init
loop-i-init c = (omega arith, refl, sym (over_none c.args.out.now c.args.at (omega (arith, c.requires.n_in_bounds_2))))

pub loop-i-preserved : goal.loop-i-preserved
loop-i-preserved c =
    let l = c.loop-i in
    let a = c.args in
    let next : 65536 * (l.i + 1) ≡ 65536 * l.i + 65536 = omega arith in
    let below : 65536 * l.i + 65536 ≤ a.n = omega (arith, c.loop-i-test.true) in
    (search rules, search rules, rw next (one_more 65536 a.src.now a.out.now l.out _ a.from a.at (65536 * l.i) (omega (arith, below, c.requires.n_in_bounds)) (omega (arith, below, c.requires.n_in_bounds_2)) l.invariant.2 c.copy_block.ensures))

pub returns : goal.returns
returns c =
    let l = c.loop-i in
    let a = c.args in
    last_more a.n a.src.now a.out.now l.out _ a.from a.at (65536 * l.i) (search rules) c.requires.n_in_bounds c.requires.n_in_bounds_2 l.invariant.2 (search rules)
