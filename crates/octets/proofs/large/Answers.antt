use native.Mathlib.Nat.{pow-le-pow_right}
use Prim.Native.Nat.{◌^◌, ◌≤◌}
use native.Mathlib.Omega.{arith}
use lib.Dec.{lit<}
use Rattle.octets.proofs.large.Goals as goal

pub pow-requires : goal.pow-requires
pow-requires c = let h : 256 ^ c.args.width ≤ 256 ^ 4 = pow-le-pow_right {n = 256} (lit< tt) {i = c.args.width} {j = 4} c.requires in omega arith
