-- `text::go_on` meets its contract.
use Rattle.std.proofs.Common.{◌≡◌, arith}
use Rattle.text.proofs.go_on.Goals as goal

pub returns-in-1 : goal.returns-in-1
returns-in-1 c = rw c.in-1.is c.one_more.ensures

pub returns-in-2 : goal.returns-in-2
returns-in-2 c = rw c.in-2.is c.two_more.ensures

pub returns-in_default : goal.returns-in_default
returns-in_default c = let e : c.args.start.more ≡ 3 = omega arith in rw e c.three_more.ensures
