-- Where the pointers of a file's blocks stand.
use Rattle.std.specs.Prelude.{ℕ, nat_lt, if◌then◌else◌}
use Rattle.sfs_image.specs.Inode.{table_of, entry_of}
use Rattle.fmt_inode.specs.declared.pointer.PointerPlace.{PointerPlace}
use Rattle.fmt_inode.specs.declared.pointer.PointerPlace.TheVariants.{Direct, Indirect}

-- the pointer of block n: a direct one below 108, else one of an indirect block
abbrev pub pointer_place : ℕ → PointerPlace
pointer_place n = if nat_lt n 108 then Direct n else Indirect (table_of n) (entry_of n)
