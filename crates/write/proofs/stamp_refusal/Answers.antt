-- `write::stamp_refusal` meets its contract.
use Rattle.page_spec.specs.Layout.{stamped}
use Rattle.form_spec.specs.Put.{refusal}
use Rattle.write_laws.proofs.Judged.{stamp_alone}
use Rattle.write.proofs.stamp_refusal.Goals as goal

pub returns-in-Seconds : goal.returns-in-Seconds
unfolding stamped refusal
returns-in-Seconds c = rw c.in-Seconds.is

pub returns-in-Micro : goal.returns-in-Micro
returns-in-Micro c = rw (c.in-Micro.is, stamp_alone) c.fits.ensures
