use Rattle.std.proofs.Common.{◌≡◌, All, map, take}
use Rattle.sfs_image.specs.Inode.{IsInode, inode_of}
use Rattle.disk_tree.specs.Inodes.{SoundRecords}
use Rattle.disk_tree.specs.Whole.{WholeRecords}
use Rattle.disk_tree.proofs.inodes.decoded.Given as goal

abbrev pub invariant-loop-place : goal.invariant-loop-place
invariant-loop-place l = record {
  inodes : l.inodes.items ≡ map inode_of (take l.place l.records.items);
  fit : All IsInode l.inodes.items;
  sound : SoundRecords l.place l.records.items;
  whole : WholeRecords l.place l.records.items;
}
