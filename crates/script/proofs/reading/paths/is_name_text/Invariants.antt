use Rattle.std.proofs.Common.{◌≡◌, drop}
use Rattle.script.specs.Paths.{is_name_text}
use Rattle.script.proofs.reading.paths.is_name_text.Given as goal

abbrev pub invariant-loop-place : goal.invariant-loop-place
invariant-loop-place l = is_name_text l.text ≡ is_name_text (drop l.place l.text)
