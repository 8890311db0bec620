-- What a volume leaves where it is unmounted.
use Rattle.std.specs.Prelude.{◌≡◌, ℕ, List, Some, filter, map, slice_get}
use Rattle.sfs_dev.specs.Disk.{View}
use Rattle.tree_laws.specs.History.{IsLegal}
use Rattle.tree_laws.specs.Merged.{is_core}
use Rattle.tree_laws.specs.declared.history.Entry.{Entry}
use Rattle.tree_laws.specs.declared.turns.Turn.{Turn}
use Rattle.stamp_table.specs.Table.{IsLogAtEnd}
use Rattle.stamp_table.specs.declared.event.Event.{Event}
use Rattle.slot_laws.specs.declared.label.Label.{Label}
use Rattle.mem_values.specs.Facts.{IsLawfulLog}
use Rattle.mem_values.specs.Start.{given_by}
use Rattle.mem_values.specs.declared.fact.Fact.{Fact}
use Rattle.disk_box.specs.Pens.{PenHand}
use Rattle.journal_set.specs.Making.{LeavesDisk}
use Rattle.workers.specs.declared.worker.Worker.{Worker}
use Rattle.mount.specs.Workers.{core_of, pen_of}
use Rattle.mount.specs.declared.volume.Volume.{Volume}

-- A volume has left its disk, its history and the record of turns: the events of its table came to this history, and the labels of its box to this disk and these
-- turns, of all of which each worker's core and pen had their part.
pub record LeavesVolume {D : Type 0} (view : D → View) (volume : Volume D) (workers : List (Worker (PenHand D))) (disk : D) (history : List Entry)
    (turns : List Turn) : Type 0 where
  pub legal : IsLegal volume.table.first history
  pub own : (core : ℕ) (worker : Worker (PenHand D)) → slice_get workers core ≡ Some worker → filter (is_core core) history ≡ worker.core.entries
  pub log : List (Event Fact)
  pub events : IsLogAtEnd (IsLawfulLog (given_by volume.table)) volume.table.first (map core_of workers) history log
  pub labels : List (Event Label)
  pub leaves : LeavesDisk view volume.set.table.given (map pen_of workers) labels disk turns
