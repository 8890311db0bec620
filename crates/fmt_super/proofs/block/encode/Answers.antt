use Rattle.std.proofs.Common.{ap, ◌∙◌}
use Rattle.sfs_image.specs.Super.{super_bytes, super_fault, super_of}
use Rattle.sfs_image.proofs.SuperLaws.{super_fault-super_bytes, super_of-super_bytes}
use Rattle.fmt_super.proofs.SuperWritten.{super_written}
use Rattle.fmt_super.proofs.block.encode.Goals as goal

pub returns-clause-spelled : goal.returns-clause-spelled
returns-clause-spelled c =
    let inside = c.layout.inside in
    super_written (record { blocks = inside.blocks; inodes = inside.inodes; cores = inside.cores; slots = inside.slots }) c.args.block.now _ _ _
    c.told-block c.copy_from_slice.ensures.after c.write_u32_into.ensures c.clear.ensures
    ∙ ap super_bytes c.layout.view_is

pub returns-clause-sound : goal.returns-clause-sound
returns-clause-sound c = ap (super_fault _) (returns-clause-spelled c) ∙ super_fault-super_bytes _ _ c.requires

pub returns-clause-again : goal.returns-clause-again
returns-clause-again c = ap super_of (returns-clause-spelled c) ∙ super_of-super_bytes _ _ c.requires
