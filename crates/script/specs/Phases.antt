-- The phases of a script.
use Rattle.std.specs.Prelude.{ℕ, suc, List, [], ◌∷◌, Option, Some, None, Result, Ok, Err}
use Rattle.script.specs.declared.commands.Line.{Line}
use Rattle.script.specs.declared.reading.line_kind.LineKind.{LineKind}
use Rattle.script.specs.declared.reading.line_kind.LineKind.TheVariants.{Skipped, Ends, Does}
use Rattle.script.specs.Commands.{kind_of_line}
use Rattle.script.specs.Lines.{lines}

-- phases, the first of which has one more line at its front
abbrev pub first_phase_longer : Line → List (List Line) → List (List Line)
first_phase_longer line [] = (line ∷ []) ∷ []
first_phase_longer line (phase ∷ phases) = (line ∷ phase) ∷ phases

-- a line's effect on the phases behind it
abbrev pub with_line_kind : LineKind → List (List Line) → List (List Line)
with_line_kind Skipped phases = phases
with_line_kind Ends phases = [] ∷ phases
with_line_kind (Does line) phases = first_phase_longer line phases

-- a line with the phases behind it, or the line's number where it is outside the grammar
abbrev pub with_line : ℕ → Option LineKind → Result (List (List Line)) ℕ → Result (List (List Line)) ℕ
with_line number None behind = Err number
with_line number (Some kind) (Ok phases) = Ok (with_line_kind kind phases)
with_line number (Some kind) (Err later) = Err later

-- the phases of these lines, the first of which has this number, or the number of the first line outside the grammar
abbrev pub phases_from : ℕ → List (List ℕ) → Result (List (List Line)) ℕ
phases_from number [] = Ok ([] ∷ [])
phases_from number (line ∷ later) = with_line number (kind_of_line line) (phases_from (suc number) later)

-- The phases of a script, or its first line outside the grammar, counted from 1. The last phase is there even where it has no lines.
abbrev pub phases_of : List ℕ → Result (List (List Line)) ℕ
phases_of text = phases_from 1 (lines text)
