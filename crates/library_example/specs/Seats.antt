-- Workers at seats.
use Rattle.std.specs.Prelude.{ℕ, ◌<◌, List, All, length, slice_index_or}
use Rattle.stamp_table.specs.Table.{TableState}
use Rattle.mem_values.specs.Start.{FileState}
use Rattle.disk_box.specs.Pens.{PenHand}
use Rattle.disk_box.specs.declared.key.BoxKey.{BoxKey}
use Rattle.workers.specs.Works.{Rests}
use Rattle.workers.specs.declared.worker.Worker.{Worker}
use Rattle.mount.specs.Workers.{AgreeAt}
use Rattle.library_example.specs.Calls.{IsBack}
use Rattle.library_example.specs.declared.seats.Seat.{Seat}

-- the worker at a seat
abbrev pub worker_at : {D : Type 0} → Seat D → Worker (PenHand D)
worker_at seat = seat.worker

-- each of them rests
abbrev pub AllRest : {D : Type 0} → FileState → TableState (BoxKey D) → List (Seat D) → Type 0
AllRest shared set seats = All (λ seat. Rests shared (AgreeAt shared set) seat.worker) seats

-- each of them is back from calls
abbrev pub AllAreBack : {D : Type 0} → FileState → TableState (BoxKey D) → List (Seat D) → List (Seat D) → Type 0
AllAreBack {D} shared set before after = (place : ℕ) (d : Seat D) → place < length before
    → IsBack shared set (slice_index_or before place d).worker (slice_index_or after place d).worker
