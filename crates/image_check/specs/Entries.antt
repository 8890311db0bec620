-- The numbers by which the entries of a certificate stand in its lists.
use Rattle.std.specs.Prelude.{ℕ}
use Rattle.image_check.specs.declared.certificate.Holder.{Holder}
use Rattle.image_check.specs.declared.certificate.Owner.{Owner}

-- the inode of an entry on a directory
abbrev pub holder_inode : Holder → ℕ
holder_inode h = h.inode

-- the block of an entry on a block
abbrev pub owner_block : Owner → ℕ
owner_block o = o.block
