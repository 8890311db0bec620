use Rattle.std.proofs.Common.{◌≡◌, ◌++◌, take, filter_map}
use Rattle.disk_change.specs.Fresh.{data_written}
use Rattle.disk_change.specs.Parts.{built_with}
use Rattle.disk_change.proofs.fresh.push_data.Given as goal

abbrev pub invariant-loop-one : goal.invariant-loop-one
invariant-loop-one l = l.fresh.items ≡ l.fn.fresh.items ++ filter_map (data_written (built_with l.slots l.built) l.pages.items) (take l.one-index l.built.changed)
