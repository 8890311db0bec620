use Rattle.std.proofs.Common.{◌≡◌, ◌++◌, map}
use Rattle.std.specs.Prelude.{All}
use Rattle.log_merge.specs.Merge.{parts_changes, IsMergeOf}
use Rattle.dep_closure.specs.Gathered.{log_directory}
use Rattle.core_logs.proofs.logs.CoreLogs.gather.Given as goal

abbrev pub invariant-loop-directory : goal.invariant-loop-directory
invariant-loop-directory l = record {
  directories : map log_directory l.logs.items ++ l.directory-iterator ≡ l.self-inside.directories.keys;
  merged : All (λ log. IsMergeOf (parts_changes log.dir.0 l.below.0 l.self.parts) log.changes.items) l.logs.items;
}
