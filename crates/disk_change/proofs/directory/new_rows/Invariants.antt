use Rattle.std.proofs.Common.{◌≡◌, take, filter_map}
use Rattle.disk_change.specs.Directory.{row_new}
use Rattle.disk_change.proofs.directory.new_rows.Given as goal

abbrev pub invariant-loop-row : goal.invariant-loop-row
invariant-loop-row l = l.rows.items ≡ filter_map (row_new l.directories) (take l.row-index l.net)
