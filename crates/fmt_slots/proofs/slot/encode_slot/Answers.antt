use Rattle.std.proofs.Common.{ap, ◌∙◌}
use Rattle.sfs_image.specs.Bytes.{zeros}
use Rattle.fmt_slots.proofs.slot.encode_slot.Goals as goal

pub returns-in-None-clause-bytes : goal.returns-in-None-clause-bytes
returns-in-None-clause-bytes c = rw c.in-None.is (c.clear.ensures ∙ ap zeros c.requires)
