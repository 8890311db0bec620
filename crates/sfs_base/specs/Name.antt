-- Names, and the bucket of a name.
use Rattle.std.specs.Prelude.{ℕ, ◌+◌, ◌*◌, ◌%◌, ◌^◌, Bool, List, length, nat_lt, ◌==◌, ◌||◌, fold, position, bytes_eq, codes, Option, Some, None, if◌then◌else◌}
use Rattle.sfs_base.specs.declared.name.NameFault.{NameFault}
use Rattle.sfs_base.specs.declared.name.NameFault.TheVariants.{Empty, TooLong, BadByte, Dot}

-- a byte that no name has: 0 or `/`
abbrev pub is_bad_byte : ℕ → Bool
is_bad_byte byte = byte == 0 || byte == 47

-- one of the names `.` and `..`, which nothing may have
abbrev pub is_dots : List ℕ → Bool
is_dots bytes = bytes_eq bytes (codes ".") || bytes_eq bytes (codes "..")

-- why these bytes are no name: none at all, more than 255, the first bad byte, or `.` or `..`
abbrev pub name_fault : List ℕ → Option NameFault
name_fault bytes =
    if length bytes == 0 then Some Empty else
    if nat_lt 255 (length bytes) then Some (TooLong (length bytes)) else
    byte_fault (position is_bad_byte bytes) (is_dots bytes)
  where
    byte_fault : Option ℕ → Bool → Option NameFault
    byte_fault (Some at) dots = Some (BadByte at)
    byte_fault None dots = if dots then Some Dot else None

-- the number into which a name's bytes are folded, modulo 2 ^ 32
abbrev pub name_hash : List ℕ → ℕ
name_hash bytes = fold (λ hash byte. (31 * hash + byte) % 2 ^ 32) 0 bytes

-- which of a directory's eight buckets a name lies in
abbrev pub bucket : List ℕ → ℕ
bucket name = name_hash name % 8
