-- The lines of a script, and the parts of a line.
use Rattle.std.specs.Prelude.{ℕ, List, [], ◌∷◌, ◌==◌, if◌then◌else◌}

-- lines, the first of which has one more byte at its front
abbrev pub first_longer : ℕ → List (List ℕ) → List (List ℕ)
first_longer byte [] = (byte ∷ []) ∷ []
first_longer byte (line ∷ lines) = (byte ∷ line) ∷ lines

-- The lines of some bytes. A line ends with byte 10; the last line may lack it.
abbrev pub lines : List ℕ → List (List ℕ)
lines [] = []
lines (byte ∷ bytes) = if byte == 10 then [] ∷ lines bytes else first_longer byte (lines bytes)

-- The parts of some bytes: one more than there are separators, and some may be empty.
abbrev pub parts : ℕ → List ℕ → List (List ℕ)
parts separator [] = [] ∷ []
parts separator (byte ∷ bytes) = if byte == separator then [] ∷ parts separator bytes else first_longer byte (parts separator bytes)

-- The words of a line: one space parts them.
abbrev pub words : List ℕ → List (List ℕ)
words line = parts 32 line
