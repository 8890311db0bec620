-- An fsync as it was stamped, with what was copied.
use Rattle.std.specs.Prelude.{◌≡◌}
use Rattle.sfs_base.specs.declared.numbers.NodeId.{NodeId}
use Rattle.fsync_stamp.specs.declared.copying.StampedFsync.{StampedFsync}
use Rattle.fsync_dir.specs.Flush.{copy_of}
use Rattle.fsync_dir.specs.declared.attempt.OwnFsync.{OwnFsync}

-- It is the fsync of a node with its stamp, and has what was copied.
pub record OwnsCopy (node : NodeId) (stamped : StampedFsync) (own : OwnFsync) : Type 0 where
  pub fsync_is : own.fsync ≡ record { node = node; stamp = stamped.stamp }
  pub copied_is : stamped.copied ≡ copy_of own.file
