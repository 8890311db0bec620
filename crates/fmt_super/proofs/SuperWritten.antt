-- What the three writes of a superblock leave.
use Rattle.std.proofs.Common.{◌≡◌, ℕ, List, [], ◌∷◌, ◌++◌, drop, length, refl, ap, ◌∙◌, arith}
use Rattle.std.specs.Prelude.{codes}
use Rattle.std.proofs.lemmas.List.{length-drop, length-append}
use Rattle.sfs_image.specs.Bytes.{zeros, u32s_bytes, part}
use Rattle.sfs_image.specs.Super.{Layout, super_bytes}
use Rattle.sfs_image.proofs.BytesLaws.{length-part}
use Rattle.sfs_image.proofs.WritesLaws.{put_mid-next, put_mid-last, length-put_mid}
use borrow.Rule.Slice.PartMut.{put_mid}

-- the numbers of a superblock, in their order
abbrev pub fields : Layout → List ℕ
fields layout = 1 ∷ layout.cores ∷ layout.blocks ∷ layout.inodes ∷ layout.slots ∷ []

pub super_written : (layout : Layout) (block text bytes tail : List ℕ) → length block ≡ 4096 → text ≡ codes "SCALEFS1" → bytes ≡ u32s_bytes (fields layout) →
    tail ≡ zeros (length (part 28 4068 (put_mid 8 20 (text ++ drop 8 block) bytes))) →
    put_mid 28 4068 (put_mid 8 20 (text ++ drop 8 block) bytes) tail ≡ super_bytes layout
super_written layout block text bytes tail len is_text is_bytes is_tail =
    let numbered = put_mid 8 20 (text ++ drop 8 block) bytes in
    let eight : length text ≡ 8 = ap length is_text in
    let twenty : length bytes ≡ 20 = ap length is_bytes in
    let first : numbered ≡ text ++ bytes ++ drop 20 (drop 8 block) = put_mid-next (text ++ drop 8 block) text (drop 8 block) bytes 8 20 refl eight in
    let a = length-drop 8 block in
    let whole : length (text ++ drop 8 block) ≡ 4096 = omega (arith, length-append text (drop 8 block)) in
    let long : length numbered ≡ 4096 = length-put_mid 8 20 (text ++ drop 8 block) bytes twenty (omega arith) ∙ whole in
    let rest : length (part 28 4068 numbered) ≡ 4068 = length-part 28 4068 numbered (omega arith) in
    let b = length-drop 20 (drop 8 block) in
    let front : length (text ++ bytes) ≡ 28 = omega (arith, length-append text bytes) in
    put_mid-last numbered (text ++ bytes) (drop 20 (drop 8 block)) tail 28 4068 first front (omega arith)
    ∙ ap (λ (xs : List ℕ). text ++ bytes ++ xs) (is_tail ∙ ap zeros rest)
    ∙ ap (λ (xs : List ℕ). xs ++ bytes ++ zeros 4068) is_text
    ∙ ap (λ (xs : List ℕ). codes "SCALEFS1" ++ xs ++ zeros 4068) is_bytes
