-- A slot's head is read again from its bytes, but for the gate, which they close.
use Rattle.std.proofs.Common.{◌≡◌, ℕ, Bool, false, List, [], ◌++◌, take, drop, length, slice_index, sym, ap, ◌∙◌, arith, eqb}
use Rattle.std.proofs.lemmas.List.{append_assoc, drop_at, drop-drop, get_or_append_left, length-append}
use Rattle.sfs_image.specs.Bytes.{zeros, u32_at, u64_at, u32_bytes, u64_bytes, number_from}
use Rattle.sfs_image.specs.Journal.{Head, head_of, head_bytes, IsHead}
use Rattle.sfs_image.proofs.BytesLaws.{number_from-u32_bytes, number_from-u64_bytes, length-zeros, zeros-byte}

pub length-head_bytes : (head : Head) → length (head_bytes head) ≡ 4096
length-head_bytes head =
    let front = zeros 512 ++ u32_bytes head.count in
    let a = length-append (front ++ zeros 4 ++ u64_bytes head.stamp) (zeros 3568) in
    let b = length-append (front ++ zeros 4) (u64_bytes head.stamp) in
    let c = length-append front (zeros 4) in
    let d = length-append (zeros 512) (u32_bytes head.count) in
    let z = length-zeros 512 in let y = length-zeros 4 in let x = length-zeros 3568 in
    omega arith

-- five pieces, the first apart
pub first_apart : (a b c d e : List ℕ) → a ++ b ++ c ++ d ++ e ≡ a ++ (b ++ (c ++ (d ++ e)))
first_apart a b c d e = simp append_assoc

pub behind_512 : (head : Head) → drop 512 (head_bytes head) ≡ u32_bytes head.count ++ (zeros 4 ++ (u64_bytes head.stamp ++ zeros 3568))
behind_512 head =
    ap (drop 512) (first_apart (zeros 512) (u32_bytes head.count) (zeros 4) (u64_bytes head.stamp) (zeros 3568))
    ∙ drop_at (zeros 512) _ 512 (length-zeros 512)

pub behind_520 : (head : Head) → drop 520 (head_bytes head) ≡ u64_bytes head.stamp ++ zeros 3568
behind_520 head =
    sym (drop-drop 8 512 (head_bytes head)) ∙ ap (drop 8) (behind_512 head) ∙ drop_at (zeros 4) (u64_bytes head.stamp ++ zeros 3568) 4 (length-zeros 4)

-- a head is read again from its bytes, with the gate closed
pub head_of-head_bytes : (head : Head) → IsHead head → head_of (head_bytes head) ≡ record head { gate = false }
head_of-head_bytes head is =
    let count : u32_at 512 (head_bytes head) ≡ head.count =
    ap (λ (xs : List ℕ). number_from 0 4 (take 4 xs)) (behind_512 head) ∙ number_from-u32_bytes head.count [] is.count in
    let stamp : u64_at 520 (head_bytes head) ≡ head.stamp =
    ap (λ (xs : List ℕ). number_from 0 8 (take 8 xs)) (behind_520 head) ∙ number_from-u64_bytes head.stamp [] is.stamp in
    let byte : slice_index (head_bytes head) 0 ≡ 0 =
    ap (λ (xs : List ℕ). slice_index xs 0) (first_apart (zeros 512) (u32_bytes head.count) (zeros 4) (u64_bytes head.stamp) (zeros 3568))
    ∙ get_or_append_left (zeros 512) _ 0 0 (let z = length-zeros 512 in omega arith) ∙ zeros-byte 512 0 in
    let gate : eqb (slice_index (head_bytes head) 0) 1 ≡ false = ap (λ (b : ℕ). eqb b 1) byte in
    same_head head gate count stamp
  where
    same_head : (h : Head) {g : Bool} {a b : ℕ} → g ≡ false → a ≡ h.count → b ≡ h.stamp →
        (let x : Head = record { gate = g; count = a; stamp = b } in x) ≡ record h { gate = false }
    same_head h p q r = λ i. record { gate = p i; count = q i; stamp = r i }
