use Rattle.std.proofs.Common.{sym, ◌∙◌}
use Rattle.sfs_image.proofs.SuperLaws.{super_facts}
use Rattle.fmt_super.proofs.SuperRead.{layout_read, no_fault}
use Rattle.fmt_super.proofs.block.decode.Goals as goal

pub returns-in-None-clause-ok : goal.returns-in-None-clause-ok
returns-in-None-clause-ok c =
    let read = layout_read c.args.block.now _ _ _ _ c.read_u32.ensures c.read_u32-2.ensures c.read_u32-3.ensures c.read_u32-4.ensures in
    (no_fault c.args.len c.args.block.now _ _ read c.fault_of.ensures c.in-None.is, read)

pub returns-in-None-clause-fits : goal.returns-in-None-clause-fits
returns-in-None-clause-fits c = (super_facts _ _ c.args.block.now (sym c.fault_of.ensures ∙ c.in-None.is)).fits
