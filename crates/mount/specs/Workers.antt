-- The workers of a volume.
use Rattle.std.specs.Prelude.{◌≡◌, ◌<◌, ◌∷◌, List, [], ℕ, All, false, length, map, slice_index_or, true}
use Rattle.stamp_table.specs.Table.{AreAllCores, IsSameCore, TableState}
use Rattle.mem_values.specs.Start.{FileHand, FileState}
use Rattle.disk_box.specs.Pens.{PenHand}
use Rattle.disk_box.specs.declared.key.BoxKey.{BoxKey}
use Rattle.journal_set.specs.Ready.{IsReady}
use Rattle.flush_agrees.specs.Agreement.{CoresAgree, FlushTold}
use Rattle.workers.specs.Works.{Rests}
use Rattle.workers.specs.declared.worker.Worker.{Worker}
use Rattle.mount.specs.declared.volume.Volume.{Volume}

-- A core of a table and its pen at journals agree on all fsyncs of the core: the pen may begin anew, the pen of core 0 leads, and what the
-- core made and told of each fsync is what the pen told of it at the box.
pub record AgreeAt {D : Type 0} (shared : FileState) (set : TableState (BoxKey D)) (core : FileHand) (pen : PenHand D) : Type 0 where
  pub ready : IsReady set pen
  pub cores : pen.cores ≡ set.cores
  pub leads : core.view.core ≡ 0 → pen.leads ≡ true
  pub fsyncs : List FlushTold
  pub agree : CoresAgree shared core pen fsyncs

-- a core of a volume's table and its pen agree
abbrev pub PairAgrees : {D : Type 0} → Volume D → FileHand → PenHand D → Type 0
PairAgrees volume = AgreeAt volume.table volume.set

-- the core of a worker
abbrev pub core_of : {P : Type 0} → Worker P → FileHand
core_of worker = worker.core

-- and its pen
abbrev pub pen_of : {P : Type 0} → Worker P → P
pen_of worker = worker.pen

-- a worker that has not run yet
abbrev pub worker_begun : {P : Type 0} → FileHand → P → Worker P
worker_begun core pen = record { core = core; pen = pen; refused = false; until = 0 }

-- workers that have not run, each with a core and the pen at the same place
abbrev pub workers_begun : {P : Type 0} → List FileHand → List P → List (Worker P)
workers_begun [] pens = []
workers_begun (core ∷ cores) [] = []
workers_begun (core ∷ cores) (pen ∷ pens) = worker_begun core pen ∷ workers_begun cores pens

-- These are all workers of a volume: they have all of its cores, and each rests and agrees with its pen.
pub record AreWorkers {D : Type 0} (volume : Volume D) (workers : List (Worker (PenHand D))) : Type 0 where
  pub all : AreAllCores volume.table (map core_of workers)
  pub rest : All (Rests volume.table (PairAgrees volume)) workers

-- Their cores have made no call.
abbrev pub HaveMadeNothing : {P : Type 0} → List (Worker P) → Type 0
HaveMadeNothing workers = All (λ worker. worker.core.entries ≡ []) workers

-- Workers are back from calls, each with the core that it had, and rest.
abbrev pub WorkersAreBack : {D : Type 0} → Volume D → List (Worker (PenHand D)) → List (Worker (PenHand D)) → Type 0
WorkersAreBack {D} volume before after = (place : ℕ) (d : Worker (PenHand D)) → place < length before
    → Rests volume.table (PairAgrees volume) (slice_index_or after place d)
    × IsSameCore (slice_index_or before place d).core (slice_index_or after place d).core
