-- A slot of a directory, which has 264 bytes.
use Rattle.std.specs.Prelude.{◌≡◌, ℕ, ◌+◌, ◌-◌, ◌<◌, ◌==◌, ◌||◌, ◌^◌, Bool, not, is_none, List, [], ◌∷◌, ◌++◌, length, slice_index, Option, None, Some, if◌then◌else◌}
use Rattle.std.specs.Option.{option_or}
use Rattle.sfs_base.specs.Name.{name_fault}
use Rattle.sfs_base.specs.declared.name.NameFault.{NameFault}
use Rattle.sfs_base.specs.declared.name.NameFault.TheVariants.{Empty, TooLong, BadByte, Dot, NoMemory}
use Rattle.sfs_base.specs.declared.numbers.Kind.{Kind}
use Rattle.sfs_base.specs.declared.numbers.Kind.TheVariants.{File, Directory}
use Rattle.sfs_image.specs.Bytes.{part, zeros, u32_at, u32_bytes, nonzero_in, fault_at}

-- what a slot says of one name: the inode that it names, and of which kind that is
pub record Row : Type 0 where
  pub inode : ℕ
  pub kind : Kind
  pub name : List ℕ

-- the byte of a kind
abbrev pub kind_byte : Kind → ℕ
kind_byte File = 1
kind_byte Directory = 2

-- the kind of a byte; a byte that is no kind's counts as a file's
abbrev pub kind_of : ℕ → Kind
kind_of byte = if byte == 2 then Directory else File

-- the byte of a kind, and no other
abbrev pub is_kind : ℕ → Bool
is_kind byte = byte == 1 || byte == 2

-- the row in a slot, or none in an empty one, whose length byte is 0
abbrev pub slot_of : List ℕ → Option Row
slot_of bytes =
    if slice_index bytes 5 == 0 then None else
    Some (record { inode = u32_at 0 bytes; kind = kind_of (slice_index bytes 4); name = part 8 (slice_index bytes 5) bytes })

-- where bytes in a slot are no name: the place of the first bad byte, or of the name
abbrev pub name_place : Option NameFault → Option ℕ
name_place None = None
name_place (Some Empty) = Some 8
name_place (Some (TooLong len)) = Some 8
name_place (Some (BadByte at)) = Some (8 + at)
name_place (Some Dot) = Some 8
name_place (Some NoMemory) = Some 8

-- the first wrong place of a slot that is not empty: the kind, the length, the two zeros, the name, the zeros behind the name
abbrev pub row_fault : List ℕ → Option ℕ
row_fault bytes =
    let len = slice_index bytes 5 in
    option_or (fault_at (not (is_kind (slice_index bytes 4))) 4)
    (option_or (fault_at (len == 0) 5)
    (option_or (nonzero_in 6 2 bytes)
    (option_or (name_place (name_fault (part 8 len bytes)))
    (nonzero_in (8 + len) (256 - len) bytes))))

-- the first wrong place of a slot: none where all its bytes are zeros
abbrev pub slot_fault : List ℕ → Option ℕ
slot_fault bytes = if is_none (nonzero_in 0 264 bytes) then None else row_fault bytes

-- the bytes of a slot
abbrev pub slot_bytes : Option Row → List ℕ
slot_bytes None = zeros 264
slot_bytes (Some row) =
    u32_bytes row.inode ++ (kind_byte row.kind ∷ length row.name ∷ 0 ∷ 0 ∷ []) ++ row.name ++ zeros (256 - length row.name)

-- the row of a slot can stand in one: its inode is a u32 and its name a name
abbrev pub IsSlot : Option Row → Type 0
IsSlot None = Unit {0}
IsSlot (Some row) = (row.inode < 2 ^ 32) × (name_fault row.name ≡ None)
