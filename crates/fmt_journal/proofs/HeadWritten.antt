-- What the five writes of a head leave.
use Rattle.std.proofs.Common.{◌≡◌, ℕ, List, ◌++◌, take, drop, length, ap, ◌∙◌, arith}
use Rattle.std.proofs.lemmas.List.{length-take-le, length-append, length-drop}
use Rattle.sfs_image.specs.Bytes.{part, zeros, u32_bytes, u64_bytes}
use Rattle.sfs_image.specs.Journal.{Head, head_bytes}
use Rattle.sfs_image.proofs.BytesLaws.{drop-part, length-part, length-zeros}
use Rattle.sfs_image.proofs.WritesLaws.{five_written, length-put_mid}
use borrow.Rule.Slice.PartMut.{put_mid}

pub head_written : (head : Head) (block a b c d e : List ℕ) → length block ≡ 4096 → a ≡ zeros (length (take 512 block)) →
    b ≡ u32_bytes head.count ++ drop 4 (part 512 4 (a ++ drop 512 block)) →
    c ≡ zeros (length (part 516 4 (put_mid 512 4 (a ++ drop 512 block) b))) →
    d ≡ u64_bytes head.stamp ++ drop 8 (part 520 8 (put_mid 516 4 (put_mid 512 4 (a ++ drop 512 block) b) c)) →
    e ≡ zeros (length (part 528 3568 (put_mid 520 8 (put_mid 516 4 (put_mid 512 4 (a ++ drop 512 block) b) c) d))) →
    put_mid 528 3568 (put_mid 520 8 (put_mid 516 4 (put_mid 512 4 (a ++ drop 512 block) b) c) d) e ≡ head_bytes head
head_written head block a b c d e len was_a was_b was_c was_d was_e =
    let x0 = a ++ drop 512 block in
    let x1 = put_mid 512 4 x0 b in
    let x2 = put_mid 516 4 x1 c in
    let x3 = put_mid 520 8 x2 d in
    let is_a : a ≡ zeros 512 = was_a ∙ ap zeros (length-take-le 512 block (omega arith)) in
    let la : length a ≡ 512 = ap length is_a ∙ length-zeros 512 in
    let l0 : length x0 ≡ 4096 = omega (arith, length-append a (drop 512 block), length-drop 512 block) in
    let is_b : b ≡ u32_bytes head.count = was_b ∙ ap (λ (xs : List ℕ). u32_bytes head.count ++ xs) (drop-part 512 4 x0) in
    let l1 : length x1 ≡ 4096 = length-put_mid 512 4 x0 b (ap length is_b) (omega arith) ∙ l0 in
    let is_c : c ≡ zeros 4 = was_c ∙ ap zeros (length-part 516 4 x1 (omega arith)) in
    let lc : length c ≡ 4 = ap length is_c ∙ length-zeros 4 in
    let l2 : length x2 ≡ 4096 = length-put_mid 516 4 x1 c lc (omega arith) ∙ l1 in
    let is_d : d ≡ u64_bytes head.stamp = was_d ∙ ap (λ (xs : List ℕ). u64_bytes head.stamp ++ xs) (drop-part 520 8 x2) in
    let l3 : length x3 ≡ 4096 = length-put_mid 520 8 x2 d (ap length is_d) (omega arith) ∙ l2 in
    let is_e : e ≡ zeros 3568 = was_e ∙ ap zeros (length-part 528 3568 x3 (omega arith)) in
    five_written block a b c d e 512 4 4 8 3568 la (ap length is_b) lc (ap length is_d) (omega arith)
    ∙ ap (λ (xs : List ℕ). xs ++ b ++ c ++ d ++ e) is_a
    ∙ ap (λ (xs : List ℕ). zeros 512 ++ xs ++ c ++ d ++ e) is_b
    ∙ ap (λ (xs : List ℕ). zeros 512 ++ u32_bytes head.count ++ xs ++ d ++ e) is_c
    ∙ ap (λ (xs : List ℕ). zeros 512 ++ u32_bytes head.count ++ zeros 4 ++ xs ++ e) is_d
    ∙ ap (λ (xs : List ℕ). zeros 512 ++ u32_bytes head.count ++ zeros 4 ++ u64_bytes head.stamp ++ xs) is_e
