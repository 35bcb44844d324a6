use native.Mathlib.Nat.{add-sub_cancel_left}
use lib.Seq.{drop-drop}
use Rattle.octets_spec.specs.Over.{over}
use Rattle.octets.proofs.put_bytes.Goals as goal

pub returns : goal.returns
unfolding over
returns c = rw (c.copy_from_slice.ensures.after, add-sub_cancel_left, drop-drop)
