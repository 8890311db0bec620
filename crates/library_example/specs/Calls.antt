-- What calls of a worker leave of it.
use Rattle.stamp_table.specs.Table.{IsSameCore, TableState}
use Rattle.mem_values.specs.Start.{FileState}
use Rattle.disk_box.specs.Pens.{PenHand}
use Rattle.disk_box.specs.declared.key.BoxKey.{BoxKey}
use Rattle.workers.specs.Works.{Rests}
use Rattle.workers.specs.declared.worker.Worker.{Worker}
use Rattle.mount.specs.Workers.{AgreeAt}

-- A worker is back from calls at a table and its journals: it rests, and has the core that it had.
pub record IsBack {D : Type 0} (shared : FileState) (set : TableState (BoxKey D)) (before after : Worker (PenHand D)) : Type 0 where
  pub rests : Rests shared (AgreeAt shared set) after
  pub same : IsSameCore before.core after.core
