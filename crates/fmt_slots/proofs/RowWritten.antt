-- What the four writes of a row's slot leave.
use Rattle.std.proofs.Common.{◌≡◌, ℕ, ◌+◌, ◌-◌, ◌≤◌, List, [], ◌∷◌, ◌++◌, take, drop, length, refl, ap, ◌∙◌, arith}
use Rattle.std.proofs.lemmas.List.{length-append, length-drop, length-take, length-take-le, drop_all}
use Rattle.std.specs.Prelude.{Some}
use Rattle.sfs_image.specs.Bytes.{zeros, u32_bytes}
use Rattle.sfs_image.specs.Slot.{Row, kind_byte, slot_bytes}
use borrow.Rule.Slice.PartMut.{put_mid}
use Rattle.sfs_image.proofs.WritesLaws.{put_mid-next, put_mid-last}

-- the bytes once the name is written
abbrev pub named_bytes : List ℕ → List ℕ → List ℕ → List ℕ → List ℕ
named_bytes bytes inode head name = put_mid 8 (8 + length name - 8) (put_mid 4 4 (inode ++ drop 4 bytes) head) name

-- those bytes, from the front
named_bytes-is : (bytes inode head name : List ℕ) → length inode ≡ 4 → length head ≡ 4 →
    named_bytes bytes inode head name ≡ inode ++ head ++ name ++ drop (8 + length name - 8) (drop 4 (drop 4 bytes))
named_bytes-is bytes inode head name four eight =
    let first = put_mid-next (inode ++ drop 4 bytes) inode (drop 4 bytes) head 4 4 refl four in
    put_mid-next (put_mid 4 4 (inode ++ drop 4 bytes) head) (inode ++ head) (drop 4 (drop 4 bytes)) name 8 (8 + length name - 8) first
    (omega (arith, length-append inode head))

-- how much is left behind the name
pub length-behind_name : (bytes inode head name : List ℕ) → length bytes ≡ 264 → length inode ≡ 4 → length head ≡ 4 → length name ≤ 255 →
    length (named_bytes bytes inode head name) ≡ 264
length-behind_name bytes inode head name long four eight fits =
    ap length (named_bytes-is bytes inode head name four eight)
    ∙ (let rest = length-drop (8 + length name - 8) (drop 4 (drop 4 bytes)) in
    let a = length-drop 4 (drop 4 bytes) in
    let b = length-drop 4 bytes in
    let x = length-append (inode ++ head ++ name) (drop (8 + length name - 8) (drop 4 (drop 4 bytes))) in
    let y = length-append (inode ++ head) name in
    let z = length-append inode head in
    omega arith)

-- the bytes once the zeros are written
pub row_written : (bytes inode head name tail : List ℕ) → length bytes ≡ 264 → length inode ≡ 4 → length head ≡ 4 → length name ≤ 255 →
    put_mid (8 + length name) (length (named_bytes bytes inode head name) - (8 + length name)) (named_bytes bytes inode head name) tail
    ≡ inode ++ head ++ name ++ tail
row_written bytes inode head name tail long four eight fits =
    let is = named_bytes-is bytes inode head name four eight in
    let len = length-behind_name bytes inode head name long four eight fits in
    let x = length-append (inode ++ head) name in
    let y = length-append inode head in
    let a = length-drop 4 (drop 4 bytes) in
    let b = length-drop 4 bytes in
    put_mid-last (named_bytes bytes inode head name) (inode ++ head ++ name) _ tail (8 + length name) _ is (omega arith)
    (omega (arith, length-drop (8 + length name - 8) (drop 4 (drop 4 bytes))))

-- the four writes leave the bytes of the row's slot
pub slot_written : (row : Row) (bytes : List ℕ) (kind : ℕ) → length bytes ≡ 264 → kind ≡ kind_byte row.kind → length row.name ≤ 255 →
    let named = named_bytes bytes (u32_bytes row.inode ++ drop 4 (take 4 bytes)) (kind ∷ length row.name ∷ 0 ∷ 0 ∷ []) row.name in
    put_mid (8 + length row.name) (length named - (8 + length row.name)) named
    (zeros (length (take (length named - (8 + length row.name)) (drop (8 + length row.name) named))))
    ≡ slot_bytes (Some row)
slot_written row bytes kind long is fits =
    let none : drop 4 (take 4 bytes) ≡ [] = drop_all 4 (take 4 bytes) (omega (arith, length-take 4 bytes)) in
    let four : u32_bytes row.inode ++ drop 4 (take 4 bytes) ≡ u32_bytes row.inode = ap (λ (xs : List ℕ). u32_bytes row.inode ++ xs) none in
    let head : List ℕ = kind ∷ length row.name ∷ 0 ∷ 0 ∷ [] in
    let named : List ℕ = named_bytes bytes (u32_bytes row.inode ++ drop 4 (take 4 bytes)) head row.name in
    let len : length named ≡ 264 = length-behind_name bytes (u32_bytes row.inode ++ drop 4 (take 4 bytes)) head row.name long (ap length four) refl fits in
    let rest : length (take (length named - (8 + length row.name)) (drop (8 + length row.name) named)) ≡ 256 - length row.name =
    length-take-le (length named - (8 + length row.name)) (drop (8 + length row.name) named) (omega (arith, length-drop (8 + length row.name) named))
    ∙ omega arith in
    row_written bytes (u32_bytes row.inode ++ drop 4 (take 4 bytes)) head row.name _ long (ap length four) refl fits
    ∙ ap (λ (xs : List ℕ). xs ++ head ++ row.name ++ zeros (length (take (length named - (8 + length row.name)) (drop (8 + length row.name) named)))) four
    ∙ ap (λ (n : ℕ). u32_bytes row.inode ++ head ++ row.name ++ zeros n) rest
    ∙ ap (λ (k : ℕ). u32_bytes row.inode ++ (k ∷ length row.name ∷ 0 ∷ 0 ∷ []) ++ row.name ++ zeros (256 - length row.name)) is
