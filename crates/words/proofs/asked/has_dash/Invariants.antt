use Rattle.std.proofs.Common.{◌≡◌, false, map, string_bytes, take}
use Rattle.std.specs.List.{list_any}
use Rattle.words.specs.Words.{begins_with_dash}
use Rattle.words.proofs.asked.has_dash.Given as goal

abbrev pub invariant-loop-word : goal.invariant-loop-word
invariant-loop-word l = list_any begins_with_dash (map string_bytes (take l.word-index l.words)) ≡ false
