use Rattle.std.proofs.Common.{sym, ◌∙◌, subst}
use Rattle.sfs_image.specs.Inode.{IsInode}
use Rattle.sfs_image.proofs.PiecesLaws.{u32s_read}
use Rattle.sfs_image.proofs.InodeLaws.{IsInode-inode_of}
use Rattle.fmt_inode.proofs.RecordRead.{record_read}
use Rattle.fmt_inode.proofs.record.decode.Goals as goal

pub returns-clause-ok : goal.returns-clause-ok
returns-clause-ok c = (
  sym c.fault_of.ensures ∙ c.in_default.is,
  record_read c.args.bytes.now _ _ _ _ c.read_u32.ensures c.read_u64.ensures
      (u32s_read 16 108 c.args.bytes.now _ c.read_u32_into.auto.dst c.read_u32_into.ensures)
      (u32s_read 448 16 c.args.bytes.now _ c.read_u32_into-2.auto.dst c.read_u32_into-2.ensures),
)

pub returns-clause-fits : goal.returns-clause-fits
returns-clause-fits c =
    let is = record_read c.args.bytes.now _ _ _ _ c.read_u32.ensures c.read_u64.ensures
    (u32s_read 16 108 c.args.bytes.now _ c.read_u32_into.auto.dst c.read_u32_into.ensures)
    (u32s_read 448 16 c.args.bytes.now _ c.read_u32_into-2.auto.dst c.read_u32_into-2.ensures) in
    subst IsInode (sym is) (IsInode-inode_of c.args.bytes.now c.told-bytes c.fits-bytes (sym c.fault_of.ensures ∙ c.in_default.is))
