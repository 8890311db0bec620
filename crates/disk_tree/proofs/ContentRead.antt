-- How the blocks of an inode are read one after another.
use Rattle.std.proofs.Common.{◌≡◌, ℕ, ◌+◌, ◌*◌, ◌<◌, ◌≤◌, ltb, List, [], ◌++◌, take, drop, Option, length, refl, ◌∙◌, sym, ap, subst, arith, inl, inr}
use Rattle.std.proofs.lemmas.Bool.{cases_lt, cond-true, lt-ltb}
use Rattle.std.proofs.lemmas.List.{length-append, length-drop, take-append-le, drop-append-le, take_all}
use Rattle.std.proofs.Math.Seq.{drop-append_seam}
use Rattle.sfs_image.specs.Bytes.{part}
use Rattle.sfs_image.specs.Inode.{Inode, Table}
use Rattle.sfs_image.specs.Seen.{FILE_BLOCKS}
use Rattle.block_map.specs.Kept.{block_kept, pointer_kept}
use Rattle.disk_tree.specs.Reading.{IsReadBlock, HasContent}

-- the bytes of a range of a list, which go on where more follows
part_before : (at n : ℕ) (bytes more : List ℕ) → at + n ≤ length bytes → part at n (bytes ++ more) ≡ part at n bytes
part_before at n bytes more le =
    ap (take n) (drop-append-le at bytes more (omega arith)) ∙ take-append-le n (drop at bytes) more (omega (arith, length-drop at bytes))

-- those that follow
part_behind : (n : ℕ) (bytes more : List ℕ) → length more ≡ n → part (length bytes) n (bytes ++ more) ≡ more
part_behind n bytes more long = ap (take n) (drop-append_seam bytes more) ∙ take_all n more (omega arith)

pub no_content : (told : Option (List ℕ)) (inode : Inode) (tables : List Table) → HasContent told inode tables 0 []
no_content told inode tables = record { size = refl; each = λ n below. absurd (omega arith) }

pub more_content : (told : Option (List ℕ)) (inode : Inode) (tables : List Table) (k : ℕ) (bytes block : List ℕ) → HasContent told inode tables k bytes →
    length block ≡ 4096 → IsReadBlock told (block_kept inode tables k) block → HasContent told inode tables (k + 1) (bytes ++ block)
more_content told inode tables k bytes block before long read = record {
  size = length-append bytes block ∙ (let e = before.size in omega arith);
  each = λ n below. elim (cases_lt n k) [
    | inl less ↦
        subst (IsReadBlock told (block_kept inode tables n)) (sym (part_before (4096 * n) 4096 bytes block (let e = before.size in omega arith)))
        (before.each n less)
    | inr here ↦ (let same : k ≡ n = omega arith in
        let at : length bytes ≡ 4096 * n = (let e = before.size in omega arith) in
        let given : part (4096 * n) 4096 (bytes ++ block) ≡ block = sym (ap (λ (a : ℕ). part a 4096 (bytes ++ block)) at) ∙ part_behind 4096 bytes block long in
        subst (IsReadBlock told (block_kept inode tables n)) (sym given) (subst (λ (m : ℕ). IsReadBlock told (block_kept inode tables m) block) same read))
  ];
}

-- the block that `block_at` names
pub block_named : (inode : Inode) (tables : List Table) (n pointer : ℕ) → n < FILE_BLOCKS → pointer ≡ pointer_kept inode tables n
    → pointer ≡ block_kept inode tables n
block_named inode tables n pointer below is = is ∙ cond-true (ltb n FILE_BLOCKS) _ _ (lt-ltb n FILE_BLOCKS below)
