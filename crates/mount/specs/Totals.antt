-- The totals of a volume.
use Rattle.std.specs.Prelude.{List}
use Rattle.sfs_dev.specs.Disk.{View}
use Rattle.tree_laws.specs.History.{tree_after}
use Rattle.tree_laws.specs.declared.history.Entry.{Entry}
use Rattle.tree_laws.specs.declared.turns.Turn.{Turn}
use Rattle.tree_totals.specs.declared.counted.TreeTotals.{TreeTotals}
use Rattle.disk_box.specs.Pens.{PenHand}
use Rattle.table_totals.specs.Rest.{AreTotalsOf}
use Rattle.workers.specs.declared.worker.Worker.{Worker}
use Rattle.mount.specs.Ends.{LeavesVolume}
use Rattle.mount.specs.declared.volume.Volume.{Volume}

-- These are the totals of the tree after each history that a volume leaves which is unmounted with these workers.
abbrev pub AreTotalsOfVolume : {D : Type 0} → (D → View) → Volume D → List (Worker (PenHand D)) → TreeTotals → Type 0
AreTotalsOfVolume {D} view volume workers found = (disk : D) (history : List Entry) (turns : List Turn)
    → LeavesVolume view volume workers disk history turns → AreTotalsOf (tree_after volume.table.first history) found
