use Rattle.sfs_image.proofs.InodeLaws.{inode_of-inode_bytes, inode_fault-inode_bytes, length-inode_bytes, inode_bytes-inode_of, IsInode-inode_of}
use Rattle.sfs_image.proofs.laws.inode_is_format.Goals as goal

pub returns : goal.returns
returns c = record {
  sized = length-inode_bytes;
  sound = inode_fault-inode_bytes;
  read_again = inode_of-inode_bytes;
  spelled_once = inode_bytes-inode_of;
  fits = IsInode-inode_of;
}
