-- What the five writes of a record leave.
use Rattle.std.proofs.Common.{◌≡◌, ℕ, ◌*◌, List, [], ◌∷◌, ◌++◌, drop, length, ap, ◌∙◌, arith}
use Rattle.sfs_image.specs.Bytes.{part, u32_bytes, u64_bytes, u32s_bytes}
use Rattle.sfs_image.specs.Inode.{Inode, inode_bytes}
use Rattle.sfs_image.proofs.BytesLaws.{drop-part}
use Rattle.sfs_image.proofs.InodeLaws.{length-u32s_bytes}
use Rattle.sfs_image.proofs.WritesLaws.{five_written}
use borrow.Rule.Slice.PartMut.{put_mid}

-- the pieces of a record
pub record_written : (inode : Inode) (raw a b c d e : List ℕ) → length raw ≡ 512 → length inode.direct ≡ 108 →
    a ≡ inode.kind ∷ 0 ∷ 0 ∷ 0 ∷ [] → b ≡ u32_bytes inode.links ++ drop 4 (part 4 4 (a ++ drop 4 raw))
    → c ≡ u64_bytes inode.size ++ drop 8 (part 8 8 (put_mid 4 4 (a ++ drop 4 raw) b)) →
    d ≡ u32s_bytes inode.direct → e ≡ u32s_bytes inode.indirect →
    put_mid 448 64 (put_mid 16 432 (put_mid 8 8 (put_mid 4 4 (a ++ drop 4 raw) b) c) d) e ≡ inode_bytes inode
record_written inode raw a b c d e len count is_a is_b is_c is_d is_e =
    let four : b ≡ u32_bytes inode.links = is_b ∙ ap (λ (xs : List ℕ). u32_bytes inode.links ++ xs) (drop-part 4 4 (a ++ drop 4 raw)) in
    let eight : c ≡ u64_bytes inode.size = is_c ∙ ap (λ (xs : List ℕ). u64_bytes inode.size ++ xs) (drop-part 8 8 (put_mid 4 4 (a ++ drop 4 raw) b)) in
    let ld : length d ≡ 432 = ap length is_d ∙ length-u32s_bytes inode.direct ∙ ap (λ (n : ℕ). 4 * n) count in
    five_written raw a b c d e 4 4 8 432 64 (ap length is_a) (ap length four) (ap length eight) ld (omega arith)
    ∙ ap (λ (xs : List ℕ). xs ++ b ++ c ++ d ++ e) is_a
    ∙ ap (λ (xs : List ℕ). (inode.kind ∷ 0 ∷ 0 ∷ 0 ∷ []) ++ xs ++ c ++ d ++ e) four
    ∙ ap (λ (xs : List ℕ). (inode.kind ∷ 0 ∷ 0 ∷ 0 ∷ []) ++ u32_bytes inode.links ++ xs ++ d ++ e) eight
    ∙ ap (λ (xs : List ℕ). (inode.kind ∷ 0 ∷ 0 ∷ 0 ∷ []) ++ u32_bytes inode.links ++ u64_bytes inode.size ++ xs ++ e) is_d
    ∙ ap (λ (xs : List ℕ). (inode.kind ∷ 0 ∷ 0 ∷ 0 ∷ []) ++ u32_bytes inode.links ++ u64_bytes inode.size ++ u32s_bytes inode.direct ++ xs) is_e
