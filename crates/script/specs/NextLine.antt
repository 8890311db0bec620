-- A script of which some lines have been read.
use Rattle.std.specs.Prelude.{List, [], ◌∷◌, ◌++◌}
use Rattle.script.specs.declared.commands.Line.{Line}
use Rattle.script.specs.declared.reading.line_kind.LineKind.{LineKind}
use Rattle.script.specs.declared.reading.line_kind.LineKind.TheVariants.{Skipped, Ends, Does}

-- phases that have ended and the lines of the one that has not, after the next line
abbrev pub with_next : LineKind → List (List Line) × List Line → List (List Line) × List Line
with_next Skipped so_far = so_far
with_next Ends so_far = (so_far.0 ++ so_far.1 ∷ [], [])
with_next (Does line) so_far = (so_far.0, so_far.1 ++ line ∷ [])
