-- Where fsyncs of a volume are served.
use Rattle.std.specs.Prelude.{ℕ, ◌≤◌, ◌-◌, ◌^◌}
use Rattle.stamp_table.specs.Table.{TableState}
use Rattle.mem_values.specs.Start.{FileState}
use Rattle.mem_calls.specs.Table.{nodes_of}
use Rattle.disk_box.specs.declared.key.BoxKey.{BoxKey}
use Rattle.fsync_dir.specs.Site.{IsSite}

-- A table and journals of so many cores at which fsyncs are served: the table is one over the disk that the journals have, and its nodes have numbers of 32
-- bits.
pub record ServesAt {D : Type 0} (shared : FileState) (set : TableState (BoxKey D)) (cores : ℕ) : Type 0 where
  pub site : IsSite shared (nodes_of shared) cores set.table.given
  pub few : nodes_of shared ≤ 2 ^ 32 - 1
