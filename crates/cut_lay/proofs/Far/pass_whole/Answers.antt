-- `cut_lay::Far::pass_whole` meets its contract.
use Rattle.std.proofs.Common.{refl}
use Rattle.cut_laws.proofs.Laid.{passed_later, passed_laid}
use Rattle.cut_lay.proofs.Far.pass_whole.Goals as goal

pub returns-then-next-self-le8192 : goal.returns-then-next-self-le8192
returns-then-next-self-le8192 c = let p = c.requires.put_le_run in passed_later p.1 p.2 p.3 refl

pub returns : goal.returns
returns c = let p = c.requires.put_le_run in passed_laid p.1 p.2 p.3 refl c.lay-put.ensures.1 c.lay-put.ensures.0
