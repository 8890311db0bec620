use Rattle.std.proofs.Common.{map, take}
use Rattle.tree_laws.specs.NameRow.{node_number}
use Rattle.core_logs.specs.Logs.{AreTrimmedOf}
use Rattle.core_logs.proofs.logs.CoreLogs.trim.Given as goal

abbrev pub invariant-loop-directory : goal.invariant-loop-directory
invariant-loop-directory l = AreTrimmedOf l.fn.self (map node_number (take l.directory-index l.directories)) l.below.0 l.self
