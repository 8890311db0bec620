-- The lines of a text.
use Rattle.std.specs.Prelude.{ℕ, List, [], ◌∷◌, ◌==◌, if◌then◌else◌}
use Rattle.script.specs.Lines.{first_longer}

-- The lines of some bytes, each with the byte 10 at its end, which the last one may lack.
abbrev pub whole_lines : List ℕ → List (List ℕ)
whole_lines [] = []
whole_lines (byte ∷ bytes) = if byte == 10 then (10 ∷ []) ∷ whole_lines bytes else first_longer byte (whole_lines bytes)
