use Rattle.std.proofs.Common.{◌≡◌}
use Rattle.script.specs.Lines.{parts}
use Rattle.script.specs.Paths.{names_in}
use Rattle.script.proofs.PathLemmas.{names_behind_front, texts_left, bytes_left}
use Rattle.script.proofs.reading.paths.names_in.Given as goal

abbrev pub invariant-loop-rest : goal.invariant-loop-rest
invariant-loop-rest l = names_in (parts 47 l.texts) ≡ names_behind_front l.names.items (names_in (texts_left l.rest))

abbrev pub decreases-loop-rest : goal.decreases-loop-rest
decreases-loop-rest l = bytes_left l.rest
