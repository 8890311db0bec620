-- A slot is read again from its bytes, and bytes without a fault are those of the slot in them.
use Rattle.std.proofs.Common.{◌≡◌, ℕ, ◌+◌, ◌-◌, ◌<◌, ◌≤◌, true, false, not, ◌==◌, eqb, ltb, List, [], ◌∷◌, ◌++◌, take, drop, length, slice_index, Option, None, Some, is_none, refl, sym, ap, ◌∙◌, subst, arith, inl, inr}
use Rattle.std.proofs.lemmas.List.{length-drop, length-append, take_at, drop_at, drop-drop, drop_more, append_assoc, take_all}
use Rattle.std.proofs.lemmas.Bool.{eqb-true, ne_eqb, cases_Bool, cond-true, cond-false, ltb-false, or_cases, false≢true, not-false}
use Rattle.std.specs.List.{position}
use Rattle.std.specs.Option.{option_or}
use Rattle.std.proofs.lemmas.List.Quantifiers.{position-Some}
use Rattle.sfs_base.specs.Name.{name_fault, is_bad_byte, is_dots}
use Rattle.sfs_base.specs.declared.name.NameFault.{NameFault}
use Rattle.sfs_base.specs.declared.name.NameFault.TheVariants.{Empty, TooLong, BadByte, Dot, NoMemory}
use Rattle.sfs_base.specs.declared.numbers.Kind.{Kind}
use Rattle.sfs_base.specs.declared.numbers.Kind.TheVariants.{File, Directory}
use Rattle.sfs_image.specs.Bytes.{AreBytes, part, zeros, u32_at, u32_bytes, is_nonzero, nonzero_in, fault_at}
use Rattle.sfs_image.specs.Slot.{Row, kind_byte, kind_of, is_kind, slot_of, slot_fault, row_fault, name_place, slot_bytes, IsSlot}
use Rattle.sfs_image.proofs.BytesLaws.{option_or-None, no_nonzero-zeros, zeros_from_none, length-zeros, number_from-u32_bytes, u32_bytes-number_from, AreBytes-take, length-part, zero_at, cond_None, false_from_fault, none_from_map, part_from_none, part-rest, zero_in_part, u32_at-lt, option_or-Some, fault_at-Some, nonzero_in-lt}

-- a name has 1 to 255 bytes
pub length-name : (name : List ℕ) → name_fault name ≡ None → (0 < length name) × (length name ≤ 255)
length-name name sound =
    elim (cases_Bool (eqb (length name) 0)) [
      | inl empty ↦ absurd (let e : name_fault name ≡ Some Empty = rw empty refl in cc)
      | inr some ↦ elim (cases_Bool (ltb 255 (length name))) [
        | inl long ↦ absurd (let e : name_fault name ≡ Some (TooLong (length name)) = rw (some, long) refl in cc)
        | inr fits ↦ (grind (arith, ltb-false, eqb-true), ltb-false _ _ fits)
      ]
    ]

-- what stands behind the first 8 bytes of a row's slot
behind_8 : (row : Row) → drop 8 (slot_bytes (Some row)) ≡ row.name ++ zeros (256 - length row.name)
behind_8 row = refl

kind_read : (kind : Kind) → (kind_of (kind_byte kind) ≡ kind) × (is_kind (kind_byte kind) ≡ true)
kind_read File = (refl, refl)
kind_read Directory = (refl, refl)

-- a row is read again from its slot
pub slot_of-row : (row : Row) → IsSlot (Some row) → slot_of (slot_bytes (Some row)) ≡ Some row
slot_of-row row sound =
    let long = length-name row.name sound.1 in
    let some : eqb (length row.name) 0 ≡ false = ne_eqb _ _ (omega arith) in
    let inode : u32_at 0 (slot_bytes (Some row)) ≡ row.inode = number_from-u32_bytes row.inode [] sound.0 in
    let kind : kind_of (kind_byte row.kind) ≡ row.kind = (kind_read row.kind).0 in
    let name : part 8 (length row.name) (slot_bytes (Some row)) ≡ row.name = take_at row.name _ _ refl in
    rw (some, inode, kind, name) refl

-- no byte of a row's slot is wrong
pub row_fault-row : (row : Row) → IsSlot (Some row) → row_fault (slot_bytes (Some row)) ≡ None
row_fault-row row sound =
    let long = length-name row.name sound.1 in
    let some : eqb (length row.name) 0 ≡ false = ne_eqb _ _ (omega arith) in
    let kind : is_kind (kind_byte row.kind) ≡ true = (kind_read row.kind).1 in
    let name : part 8 (length row.name) (slot_bytes (Some row)) ≡ row.name = take_at row.name _ _ refl in
    let named : name_fault row.name ≡ None = sound.1 in
    let behind : drop (8 + length row.name) (slot_bytes (Some row)) ≡ zeros (256 - length row.name) =
    sym (drop-drop (length row.name) 8 (slot_bytes (Some row))) ∙ drop_at row.name _ _ refl in
    let tail : part (8 + length row.name) (256 - length row.name) (slot_bytes (Some row)) ≡ zeros (256 - length row.name) =
    ap (take (256 - length row.name)) behind ∙ take_all _ _ (omega (arith, length-zeros (256 - length row.name))) in
    let clean : position is_nonzero (zeros (256 - length row.name)) ≡ None = no_nonzero-zeros (256 - length row.name) in
    rw (kind, some, name, named, tail, clean) refl

-- a slot is read again from its bytes
pub slot_of-slot_bytes : (slot : Option Row) → IsSlot slot → slot_of (slot_bytes slot) ≡ slot
slot_of-slot_bytes None sound = let byte : slice_index (zeros 264) 5 ≡ 0 = zero_at 264 5 (omega arith) in rw byte refl
slot_of-slot_bytes (Some row) sound = slot_of-row row sound

-- the test for an empty slot passes zeros
empty_from_zeros : (bytes : List ℕ) → bytes ≡ zeros 264 → is_none (nonzero_in 0 264 bytes) ≡ true
empty_from_zeros bytes are =
    let clean : position is_nonzero (part 0 264 bytes) ≡ None =
    rw (are, take_all 264 (zeros 264) (omega (arith, length-zeros 264))) (no_nonzero-zeros 264) in
    rw clean refl

-- no byte of a slot's bytes is wrong
pub slot_fault-slot_bytes : (slot : Option Row) → IsSlot slot → slot_fault (slot_bytes slot) ≡ None
slot_fault-slot_bytes None sound = rw (empty_from_zeros (zeros 264) refl) refl
slot_fault-slot_bytes (Some row) sound =
    cond_None (is_none (nonzero_in 0 264 (slot_bytes (Some row)))) _ (row_fault-row row sound)

pub length-slot_bytes : (slot : Option Row) → IsSlot slot → length (slot_bytes slot) ≡ 264
length-slot_bytes None sound = length-zeros 264
length-slot_bytes (Some row) sound =
    let long = length-name row.name sound.1 in
    omega (arith, length-append row.name (zeros (256 - length row.name)), length-zeros (256 - length row.name))

-- the first 8 bytes, one by one
eight : (raw : List ℕ) → 8 ≤ length raw →
    raw
    ≡ slice_index raw 0 ∷ slice_index raw 1 ∷ slice_index raw 2 ∷ slice_index raw 3 ∷ slice_index raw 4 ∷ slice_index raw 5 ∷ slice_index raw 6
    ∷ slice_index raw 7 ∷ drop 8 raw
eight raw long =
    let at : (k : ℕ) → k < 8 → drop k raw ≡ slice_index raw k ∷ drop (k + 1) raw = λ k h. drop_more raw k 0 (omega arith) in
    let a = at 0 (omega arith) in
    let b = at 1 (omega arith) in
    let c = at 2 (omega arith) in
    let d = at 3 (omega arith) in
    let e = at 4 (omega arith) in
    let f = at 5 (omega arith) in
    let g = at 6 (omega arith) in
    let h = at 7 (omega arith) in
    cc

-- the first 4 bytes are those of their number
first_four : (raw : List ℕ) → 4 ≤ length raw → AreBytes raw → u32_bytes (u32_at 0 raw) ≡ take 4 raw
first_four raw long small = u32_bytes-number_from (take 4 raw) (length-part 0 4 raw long) (AreBytes-take 4 raw small)

kind_spelled : (byte : ℕ) → is_kind byte ≡ true → kind_byte (kind_of byte) ≡ byte
kind_spelled byte is =
    elim (cases_Bool (eqb byte 2)) [
      | inl two ↦ rw two (sym (eqb-true _ _ two))
      | inr other ↦
          rw other (elim (or_cases (eqb byte 1) (eqb byte 2) is) [ inl one ↦ sym (eqb-true _ _ one) | inr two ↦ absurd (false≢true (sym other ∙ two)) ])
    ]

-- what the test for an empty slot says of bytes that pass it
zeros_from_empty : (raw : List ℕ) → length raw ≡ 264 → is_none (nonzero_in 0 264 raw) ≡ true → raw ≡ zeros 264
zeros_from_empty raw len empty =
    let whole : take 264 raw ≡ raw = take_all 264 raw (omega arith) in
    let none : position is_nonzero (take 264 raw) ≡ None = none_from_map _ _ empty in
    let clean : position is_nonzero raw ≡ None = subst (λ (bytes : List ℕ). position is_nonzero bytes ≡ None) whole none in
    zeros_from_none raw clean ∙ ap zeros len

-- the pieces of a slot, joined
joined : (raw name tail : List ℕ) → 8 ≤ length raw → slice_index raw 6 ≡ 0 → slice_index raw 7 ≡ 0 → name ++ tail ≡ drop 8 raw →
    take 4 raw ++ (slice_index raw 4 ∷ slice_index raw 5 ∷ 0 ∷ 0 ∷ []) ++ name ++ tail ≡ raw
joined raw name tail long six seven behind =
    let front = take 4 raw ++ (slice_index raw 4 ∷ slice_index raw 5 ∷ 0 ∷ 0 ∷ []) in
    let bytes = eight raw long in
    let four : take 4 raw ≡ slice_index raw 0 ∷ slice_index raw 1 ∷ slice_index raw 2 ∷ slice_index raw 3 ∷ [] = ap (take 4) bytes in
    let all : front ++ drop 8 raw ≡ raw =
    ap (λ (xs : List ℕ). xs ++ (slice_index raw 4 ∷ slice_index raw 5 ∷ 0 ∷ 0 ∷ []) ++ drop 8 raw) four
    ∙ ap (λ (x : ℕ). slice_index raw 0 ∷ slice_index raw 1 ∷ slice_index raw 2 ∷ slice_index raw 3 ∷ slice_index raw 4 ∷ slice_index raw 5 ∷ x ∷ 0 ∷ drop 8 raw)
    (sym six)
    ∙ ap (λ (x : ℕ). slice_index raw 0 ∷ slice_index raw 1 ∷ slice_index raw 2 ∷ slice_index raw 3 ∷ slice_index raw 4 ∷ slice_index raw 5 ∷ slice_index raw 6
    ∷ x ∷ drop 8 raw)
    (sym seven)
    ∙ sym bytes in
    append_assoc front name tail ∙ ap (λ (xs : List ℕ). front ++ xs) behind ∙ all

-- the bytes of a row, by its pieces
row_pieces : (row : Row) (four : List ℕ) (kind len : ℕ) → u32_bytes row.inode ≡ four → kind_byte row.kind ≡ kind → length row.name ≡ len →
    slot_bytes (Some row) ≡ four ++ (kind ∷ len ∷ 0 ∷ 0 ∷ []) ++ row.name ++ zeros (256 - len)
row_pieces row four kind len is_four is_kind is_len =
    ap (λ (xs : List ℕ). xs ++ (kind_byte row.kind ∷ length row.name ∷ 0 ∷ 0 ∷ []) ++ row.name ++ zeros (256 - length row.name)) is_four
    ∙ ap (λ (k : ℕ). four ++ (k ∷ length row.name ∷ 0 ∷ 0 ∷ []) ++ row.name ++ zeros (256 - length row.name)) is_kind
    ∙ ap (λ (n : ℕ). four ++ (kind ∷ n ∷ 0 ∷ 0 ∷ []) ++ row.name ++ zeros (256 - n)) is_len

-- the bytes of a slot that isn't empty are those of its row
row_bytes : (raw : List ℕ) → length raw ≡ 264 → AreBytes raw → row_fault raw ≡ None → slot_bytes (slot_of raw) ≡ raw
row_bytes raw len small sound =
    let n = slice_index raw 5 in
    let name = part 8 n raw in
    let kinds = option_or-None (fault_at (not (is_kind (slice_index raw 4))) 4) _ sound in
    let lengths = option_or-None (fault_at (n == 0) 5) _ kinds.1 in
    let gaps = option_or-None (nonzero_in 6 2 raw) _ lengths.1 in
    let names = option_or-None (name_place (name_fault name)) (nonzero_in (8 + n) (256 - n) raw) gaps.1 in
    let some : eqb n 0 ≡ false = false_from_fault _ _ lengths.0 in
    let kind : kind_byte (kind_of (slice_index raw 4)) ≡ slice_index raw 4 = kind_spelled _ (not-false _ (false_from_fault _ _ kinds.0)) in
    let top : n < 256 = small 5 in
    let name_len : length name ≡ n = length-part 8 n raw (omega arith) in
    let inode : u32_bytes (u32_at 0 raw) ≡ take 4 raw = first_four raw (omega arith) small in
    let gap : part 6 2 raw ≡ zeros 2 = part_from_none 6 2 raw (omega arith) gaps.0 in
    let tail : part (8 + n) (256 - n) raw ≡ zeros (256 - n) = part_from_none (8 + n) (256 - n) raw (omega arith) names.1 in
    let rest : part (8 + n) (256 - n) raw ≡ drop (8 + n) raw = take_all _ _ (omega (arith, length-drop (8 + n) raw)) in
    let behind : name ++ zeros (256 - n) ≡ drop 8 raw = ap (λ (xs : List ℕ). name ++ xs) (sym tail ∙ rest) ∙ part-rest 8 n raw in
    let whole = joined raw name (zeros (256 - n)) (omega arith) (zero_in_part 6 2 raw 0 (omega arith) gap) (zero_in_part 6 2 raw 1 (omega arith) gap) behind in
    let is : slot_of raw ≡ Some (record { inode = u32_at 0 raw; kind = kind_of (slice_index raw 4); name = name }) = rw some refl in
    ap slot_bytes is ∙ row_pieces _ _ _ _ inode kind name_len ∙ whole

-- bytes without a fault are those of the slot in them
pub slot_bytes-slot_of : (raw : List ℕ) → length raw ≡ 264 → AreBytes raw → slot_fault raw ≡ None → slot_bytes (slot_of raw) ≡ raw
slot_bytes-slot_of raw len small sound =
    elim (cases_Bool (is_none (nonzero_in 0 264 raw))) [
      | inl empty ↦ (let are : raw ≡ zeros 264 = zeros_from_empty raw len empty in
          let none : slot_of raw ≡ None = ap slot_of are ∙ slot_of-slot_bytes None tt in
          rw none (sym are))
      | inr some ↦ (let fault : row_fault raw ≡ None = sym (cond-false _ None (row_fault raw) some) ∙ sound in row_bytes raw len small fault)
    ]

-- the slot in bytes without a fault can stand in one
pub IsSlot-slot_of : (raw : List ℕ) → length raw ≡ 264 → AreBytes raw → slot_fault raw ≡ None → IsSlot (slot_of raw)
IsSlot-slot_of raw len small sound =
    elim (cases_Bool (is_none (nonzero_in 0 264 raw))) [
      | inl empty ↦ (let are : raw ≡ zeros 264 = zeros_from_empty raw len empty in
          let none : slot_of raw ≡ None = ap slot_of are ∙ slot_of-slot_bytes None tt in
          subst IsSlot (sym none) tt)
      | inr some ↦ row_sound raw small (sym (cond-false _ None (row_fault raw) some) ∙ sound)
    ]
  where
    row_sound : (raw : List ℕ) → AreBytes raw → row_fault raw ≡ None → IsSlot (slot_of raw)
    row_sound raw small fault =
        let n = slice_index raw 5 in
        let name = part 8 n raw in
        let kinds = option_or-None (fault_at (not (is_kind (slice_index raw 4))) 4) _ fault in
        let lengths = option_or-None (fault_at (n == 0) 5) _ kinds.1 in
        let gaps = option_or-None (nonzero_in 6 2 raw) _ lengths.1 in
        let names = option_or-None (name_place (name_fault name)) (nonzero_in (8 + n) (256 - n) raw) gaps.1 in
        let some : eqb n 0 ≡ false = false_from_fault _ _ lengths.0 in
        let is : slot_of raw ≡ Some (record { inode = u32_at 0 raw; kind = kind_of (slice_index raw 4); name = name }) = rw some refl in
        subst IsSlot (sym is) (u32_at-lt 0 raw small, named (name_fault name) names.0)
      where
        named : (fault : Option NameFault) → name_place fault ≡ None → fault ≡ None
        named None h = refl
        named (Some Empty) h = absurd cc
        named (Some (TooLong len)) h = absurd cc
        named (Some (BadByte at)) h = absurd cc
        named (Some Dot) h = absurd cc
        named (Some NoMemory) h = absurd cc

-- a bad byte of a name lies in it
bad_byte-lt : (name : List ℕ) (at : ℕ) → name_fault name ≡ Some (BadByte at) → at < length name
bad_byte-lt name at h =
    elim (cases_Bool (eqb (length name) 0)) [
      | inl empty ↦ absurd (let e : name_fault name ≡ Some Empty = rw empty refl in cc)
      | inr some ↦ elim (cases_Bool (ltb 255 (length name))) [
        | inl long ↦ absurd (let e : name_fault name ≡ Some (TooLong (length name)) = rw (some, long) refl in cc)
        | inr fits ↦ found some fits (position is_bad_byte name) refl
      ]
    ]
  where
    found : eqb (length name) 0 ≡ false → ltb 255 (length name) ≡ false → (place : Option ℕ) → position is_bad_byte name ≡ place → at < length name
    found some fits (Some k) is =
        let e : name_fault name ≡ Some (BadByte k) = rw (some, fits, is) refl in
        let same : at ≡ k = cc in
        let within = (position-Some is_bad_byte name k 0 is).0 in
        omega arith
    found some fits None is =
        elim (cases_Bool (is_dots name)) [
          | inl dots ↦ absurd (let e : name_fault name ≡ Some Dot = rw (some, fits, is, dots) refl in cc)
          | inr none ↦ absurd (let e : name_fault name ≡ None = rw (some, fits, is, none) refl in cc)
        ]

-- the wrong place of a name lies in it, or at its begin
name_place-lt : (name : List ℕ) (place : ℕ) → name_place (name_fault name) ≡ Some place → place < 9 + length name
name_place-lt name place h = by_fault (name_fault name) refl
  where
    by_fault : (fault : Option NameFault) → name_fault name ≡ fault → place < 9 + length name
    by_fault None is = absurd (let e : name_place (name_fault name) ≡ None = rw is refl in cc)
    by_fault (Some Empty) is = let e : name_place (name_fault name) ≡ Some 8 = rw is refl in let p : place ≡ 8 = cc in omega arith
    by_fault (Some (TooLong len)) is = let e : name_place (name_fault name) ≡ Some 8 = rw is refl in let p : place ≡ 8 = cc in omega arith
    by_fault (Some (BadByte at)) is =
        let e : name_place (name_fault name) ≡ Some (8 + at) = rw is refl in
        let p : place ≡ 8 + at = cc in
        let within = bad_byte-lt name at is in
        omega arith
    by_fault (Some Dot) is = let e : name_place (name_fault name) ≡ Some 8 = rw is refl in let p : place ≡ 8 = cc in omega arith
    by_fault (Some NoMemory) is = let e : name_place (name_fault name) ≡ Some 8 = rw is refl in let p : place ≡ 8 = cc in omega arith

-- the first wrong byte of a slot lies in it
row_fault-lt : (raw : List ℕ) (place : ℕ) → length raw ≡ 264 → AreBytes raw → row_fault raw ≡ Some place → place < 264
row_fault-lt raw place len small h =
    let n = slice_index raw 5 in
    let name = part 8 n raw in
    let top : n < 256 = small 5 in
    let name_len : length name ≡ n = length-part 8 n raw (omega arith) in
    let a = fault_at (not (is_kind (slice_index raw 4))) 4 in
    let b = fault_at (n == 0) 5 in
    let c = nonzero_in 6 2 raw in
    let d = name_place (name_fault name) in
    let e = nonzero_in (8 + n) (256 - n) raw in
    elim (option_or-Some a (option_or b (option_or c (option_or d e))) place h) [
      | inl kind ↦ (let p = fault_at-Some (not (is_kind (slice_index raw 4))) 4 place kind in omega arith)
      | inr later ↦ elim (option_or-Some b (option_or c (option_or d e)) place later) [
        | inl empty ↦ (let p = fault_at-Some (n == 0) 5 place empty in omega arith)
        | inr later ↦ elim (option_or-Some c (option_or d e) place later) [
          | inl gap ↦ (let p = nonzero_in-lt 6 2 raw place gap in omega arith)
          | inr later ↦ elim (option_or-Some d e place later) [
            | inl bad ↦ (let p = name_place-lt name place bad in omega arith)
            | inr tail ↦ (let p = nonzero_in-lt (8 + n) (256 - n) raw place tail in omega arith)
          ]
        ]
      ]
    ]

pub slot_fault-lt : (raw : List ℕ) (place : ℕ) → length raw ≡ 264 → AreBytes raw → slot_fault raw ≡ Some place → place < 264
slot_fault-lt raw place len small h =
    elim (cases_Bool (is_none (nonzero_in 0 264 raw))) [
      | inl empty ↦ absurd (let e : slot_fault raw ≡ None = cond-true _ None (row_fault raw) empty in cc)
      | inr some ↦ row_fault-lt raw place len small (sym (cond-false _ None (row_fault raw) some) ∙ h)
    ]
