use Rattle.std.proofs.Common.{ap, ◌∙◌, rules}
use Rattle.sfs_image.specs.Inode.{IsInode, inode_bytes, inode_fault, inode_of}
use Rattle.sfs_image.proofs.InodeLaws.{inode_fault-inode_bytes, inode_of-inode_bytes}
use Rattle.fmt_inode.proofs.RecordWritten.{record_written}
use Rattle.fmt_inode.proofs.record.encode.Goals as goal

-- the inode can stand in a record: what is asked, and what its type says
fits : (c : goal.After-write_u32_into-2) → IsInode c.args.inode.now
fits c = record {
  kind = c.requires.kind;
  links = search rules;
  size = search rules;
  direct_count = search rules;
  direct = search rules;
  indirect_count = search rules;
  indirect = search rules;
  free = c.requires.free;
}

pub returns-clause-spelled : goal.returns-clause-spelled
returns-clause-spelled c =
    let inside = c.inode.inside in
    record_written
    (record { kind = inside.kind; links = inside.links; size = inside.size; direct = inside.direct; indirect = inside.indirect }) c.args.bytes.now _ _ _ _ _
    c.told-bytes (search rules) c.copy_from_slice.ensures.after c.write_u32.ensures c.write_u64.ensures c.write_u32_into.ensures c.write_u32_into-2.ensures
    ∙ ap inode_bytes c.inode.view_is

pub returns-clause-sound : goal.returns-clause-sound
returns-clause-sound c = ap inode_fault (returns-clause-spelled c) ∙ inode_fault-inode_bytes _ (fits c)

pub returns-clause-again : goal.returns-clause-again
returns-clause-again c = ap inode_of (returns-clause-spelled c) ∙ inode_of-inode_bytes _ (fits c)
