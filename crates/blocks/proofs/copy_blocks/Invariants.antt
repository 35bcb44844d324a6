use Rattle.std.proofs.Common.{◌≡◌, ◌*◌, ◌≤◌, length, take, drop}
use Rattle.octets_spec.specs.Over.{over}
use Rattle.blocks.proofs.copy_blocks.Given as goal

-- `blocks::copy_blocks` meets its contract. The invariant: the first i blocks are laid.
abbrev pub invariant-loop-i : goal.invariant-loop-i
invariant-loop-i l = (l.i ≤ l.whole) × (length l.out ≡ length l.initial.out) × (l.out ≡ over l.initial.out l.at (take (65536 * l.i) (drop l.from l.src)))
