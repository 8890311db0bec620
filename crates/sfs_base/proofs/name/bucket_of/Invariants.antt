use Rattle.std.proofs.Common.{◌≡◌, take}
use Rattle.sfs_base.specs.Name.{name_hash}
use Rattle.sfs_base.proofs.name.bucket_of.Given as goal

abbrev pub invariant-loop-byte : goal.invariant-loop-byte
invariant-loop-byte l = l.hash ≡ name_hash (take l.byte-index l.byte-items)
