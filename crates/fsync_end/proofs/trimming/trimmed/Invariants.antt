use Rattle.std.proofs.Common.{◌≡◌, take, map}
use Rattle.tree_laws.specs.NameRow.{node_number}
use Rattle.fsync_end.specs.Trimming.{AreTrimmedOrBlank}
use Rattle.fsync_end.proofs.trimming.trimmed.Given as goal

abbrev pub invariant-loop-member : goal.invariant-loop-member
invariant-loop-member l = record {
  log : AreTrimmedOrBlank l.initial.part.value.log (map node_number (take l.member-index l.members)) l.below.0 l.part.value.log;
  made : l.part.value.made ≡ l.initial.part.value.made;
}
