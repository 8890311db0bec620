-- Words that are numbers, and words that are bytes in hex.
use Rattle.std.specs.Prelude.{ℕ, ◌+◌, ◌-◌, ◌*◌, ◌==◌, ◌&&◌, not, Bool, false, List, [], ◌∷◌, length, fold, codes, bytes_eq, nat_le, Option, Some, None, Result, Ok, Err, if◌then◌else◌}
use Rattle.std.specs.List.{list_all}
use Rattle.hex.specs.declared.error.FromHexError.{FromHexError}
use Rattle.hex.specs.Hex.{decode_of}

-- a byte from `0` to `9`
abbrev pub is_decimal : ℕ → Bool
is_decimal byte = nat_le 48 byte && nat_le byte 57

-- A number's spelling: decimal digits, and no zero before others.
abbrev pub is_number : List ℕ → Bool
is_number [] = false
is_number (digit ∷ []) = is_decimal digit
is_number (first ∷ second ∷ digits) = not (first == 48) && list_all is_decimal (first ∷ second ∷ digits)

-- a number with one more digit at its end
abbrev pub with_digit : ℕ → ℕ → ℕ
with_digit value digit = 10 * value + (digit - 48)

-- the number that decimal digits spell
abbrev pub value_of : List ℕ → ℕ
value_of digits = fold with_digit 0 digits

-- The number that a word spells, where it is at most this.
abbrev pub number_up_to : ℕ → List ℕ → Option ℕ
number_up_to most word = if is_number word && nat_le (value_of word) most then Some (value_of word) else None

-- what decoding gave, where it gave bytes
abbrev pub decoded : Result (List ℕ) FromHexError → Option (List ℕ)
decoded (Ok bytes) = Some bytes
decoded (Err fault) = None

-- how many hex digits a word of bytes has at most
abbrev pub MOST_DIGITS : ℕ
MOST_DIGITS = 131072

-- The bytes that a word spells: none by `-`, and else by an even number of hex digits of either case, 2 to 131,072 of them.
abbrev pub hex_bytes : List ℕ → Option (List ℕ)
hex_bytes word =
    if bytes_eq word (codes "-") then Some [] else
    if nat_le 2 (length word) && nat_le (length word) MOST_DIGITS then decoded (decode_of word) else
    None
