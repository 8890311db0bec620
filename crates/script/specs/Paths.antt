-- The text of a name and of a path.
use Rattle.std.specs.Prelude.{ℕ, ◌==◌, ◌&&◌, ◌||◌, not, Bool, true, false, List, [], ◌∷◌, nat_le, Option, Some, None, is_none, if◌then◌else◌}
use Rattle.hex.specs.Hex.{is_hex_digit}
use Rattle.percent_encoding.specs.Percent.{percent_decode}
use Rattle.sfs_base.specs.Name.{name_fault}
use Rattle.sfs_base.specs.Path.{path_length}
use Rattle.script.specs.Lines.{parts}

-- two hex digits of either case come first
abbrev pub begins_with_digits : List ℕ → Bool
begins_with_digits [] = false
begins_with_digits (high ∷ []) = false
begins_with_digits (high ∷ low ∷ text) = is_hex_digit high && is_hex_digit low

-- a byte that a name's text may have: from 33 to 126, but not `/`
abbrev pub is_text_byte : ℕ → Bool
is_text_byte byte = nat_le 33 byte && nat_le byte 126 && not (byte == 47)

-- whether a byte may stand before this text: behind `%` stand two hex digits
abbrev pub may_stand : ℕ → List ℕ → Bool
may_stand byte text = is_text_byte byte && (not (byte == 37) || begins_with_digits text)

-- the text of a name: each byte may stand where it does
abbrev pub is_name_text : List ℕ → Bool
is_name_text [] = true
is_name_text (byte ∷ text) = may_stand byte text && is_name_text text

-- The name that a text spells: `%` and two digits stand for that byte, any other byte for itself; and it has to be a name.
abbrev pub name_in : List ℕ → Option (List ℕ)
name_in text = if is_name_text text && is_none (name_fault (percent_decode text)) then Some (percent_decode text) else None

-- a name before others, where all are names
abbrev pub with_name : Option (List ℕ) → Option (List (List ℕ)) → Option (List (List ℕ))
with_name (Some name) (Some names) = Some (name ∷ names)
with_name (Some name) None = None
with_name None names = None

-- the names that these texts spell, where all are names
abbrev pub names_in : List (List ℕ) → Option (List (List ℕ))
names_in [] = Some []
names_in (text ∷ texts) = with_name (name_in text) (names_in texts)

-- what stands behind the first `/`: nothing, for the root; or texts of names, parted by `/`
abbrev pub names_behind : List ℕ → Option (List (List ℕ))
names_behind [] = Some []
names_behind (byte ∷ bytes) = names_in (parts 47 (byte ∷ bytes))

-- the names of a path of any length: it begins with `/`
abbrev pub path_names : List ℕ → Option (List (List ℕ))
path_names [] = None
path_names (byte ∷ bytes) = if byte == 47 then names_behind bytes else None

-- names that make a path: at most 4,096 bytes
abbrev pub short_path : Option (List (List ℕ)) → Option (List (List ℕ))
short_path (Some names) = if nat_le (path_length names) 4096 then Some names else None
short_path None = None

-- The path that a word spells.
abbrev pub path_of : List ℕ → Option (List (List ℕ))
path_of word = short_path (path_names word)

-- a path that has a name
abbrev pub named : Option (List (List ℕ)) → Option (List (List ℕ))
named (Some (name ∷ names)) = Some (name ∷ names)
named (Some []) = None
named None = None

-- The path with at least one name that a word spells.
abbrev pub name_path_of : List ℕ → Option (List (List ℕ))
name_path_of word = named (path_of word)
