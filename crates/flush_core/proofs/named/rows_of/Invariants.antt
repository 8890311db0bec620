use Rattle.std.proofs.Common.{◌≡◌, take}
use Rattle.flush_core.specs.Named.{kept_rows}
use Rattle.flush_core.proofs.named.rows_of.Given as goal

abbrev pub invariant-loop-change : goal.invariant-loop-change
invariant-loop-change l = l.names ≡ kept_rows l.first (take l.change-index l.changes) l.directory l.stamp
