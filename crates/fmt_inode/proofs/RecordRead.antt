-- What the reads of a record give.
use Rattle.std.proofs.Common.{◌≡◌, ℕ, List, slice_index}
use Rattle.sfs_image.specs.Bytes.{u32_at, u64_at, u32s_at}
use Rattle.sfs_image.specs.Inode.{Inode, inode_of}

pub record_read : (raw direct indirect : List ℕ) (links size : ℕ) → links ≡ u32_at 4 raw → size ≡ u64_at 8 raw → direct ≡ u32s_at 16 108 raw
    → indirect ≡ u32s_at 448 16 raw →
    (let inode : Inode = record { kind = slice_index raw 0; links = links; size = size; direct = direct; indirect = indirect } in inode) ≡ inode_of raw
record_read raw direct indirect links size p q r s = λ i. record { kind = slice_index raw 0; links = p i; size = q i; direct = r i; indirect = s i }
