-- The laws of steps over images, each of which a function of the module laws proves.
use Rattle.std.specs.Prelude.{◌≤◌, ◌≡◌, ◌≢◌, ◌++◌, ◌∷◌, ◌<◌, [], None, List, ℕ, Some, true, false, Bool, length}
use Rattle.sfs_image.specs.Super.{Layout}
use Rattle.sfs_image.specs.Settled.{slot_count}
use Rattle.sfs_dev.specs.Disk.{View}
use Rattle.journal_one.specs.Job.{IsJob, Job, fill_count, fill_piece, table_piece, gate_piece}
use Rattle.tree_laws.specs.declared.turns.Turn.{Turn}
use Rattle.tree_laws.specs.declared.turns.TurnAct.TheVariants as act
use Rattle.cut_laws.specs.Closure.{Flush}
use Rattle.slot_laws.specs.Slots.{Slots, SlotWork, synced_slots, shut_gate, with_at, begun_work, place_at, open_gate, changed_slot, settled_work, knowing, known_filled, known_placed, known_gated}
use Rattle.slot_laws.specs.Rules.{EmptyTurns, HasWork, IsOldestOf}
use Rattle.slot_image_laws.specs.Images.{RunStart, disk_books}
use Rattle.slot_image_laws.specs.Run.{BeganWith, KeepsLaws, IsDiskRun, Syncs, Writes}
use Rattle.slot_image_laws.specs.Commits.{IsCommitAt}

-- A run begins where no slot is open and no turn was told.
abbrev pub RunsStart : View → Type 0
RunsStart disk = (run : RunStart) → run.layout.blocks ≤ disk.size → disk.now ≡ run.moment
    → BeganWith run.layout run.parts run.moment disk → IsDiskRun run [] (λ _. None) disk

-- A turn keeps a run, at the moment of now, that neither opens a commit nor makes one durable.
abbrev pub QuietTurnsKeep : View → Type 0
QuietTurnsKeep disk = (run : RunStart) (turns : List Turn) (slots : Slots) (turn : Turn)
    → turn.act ≢ act.Opened → turn.act ≢ act.Durable → turn.now ≡ disk.now
    → IsDiskRun run turns slots disk → IsDiskRun run (turns ++ turn ∷ []) slots disk

-- These are the turns of a commit with this number: it begins, is opened and is durable.
pub record AreEmptyTurns (three : EmptyTurns) (commit : ℕ) : Type 0 where
  pub cut_is : three.cut.act ≡ act.CutAt
  pub opened_is : three.opened.act ≡ act.Opened
  pub opened_commit : three.opened.commit ≡ commit
  pub durable_is : three.durable.act ≡ act.Durable
  pub durable_commit : three.durable.commit ≡ commit

-- So do the turns of a commit that gives nothing, with a number that none in a slot has.
abbrev pub EmptyCommitsKeep : View → Type 0
EmptyCommitsKeep disk = (run : RunStart) (turns : List Turn) (slots : Slots) (three : EmptyTurns) (commit : ℕ)
    → AreEmptyTurns three commit → run.gives commit ≡ []
    → ((k : ℕ) (work : SlotWork) → slots k ≡ Some work → work.commit ≢ commit)
    → (three.cut.now ≡ disk.now) × (three.opened.now ≡ disk.now) × (three.durable.now ≡ disk.now)
    → IsDiskRun run turns slots disk → IsDiskRun run (turns ++ three.cut ∷ three.opened ∷ three.durable ∷ []) slots disk

-- A sync that answered Ok makes known of each image what is known of a read, for every slot.
abbrev pub SyncsKeep : View → View → Type 0
SyncsKeep old new = (run : RunStart) (turns : List Turn) (slots : Slots) → KeepsLaws old → Syncs true old new
    → IsDiskRun run turns slots old → IsDiskRun run turns (synced_slots slots) new

-- A sync that failed leaves a run as it is.
abbrev pub FailedSyncsKeep : View → View → Type 0
FailedSyncsKeep old new = (run : RunStart) (turns : List Turn) (slots : Slots)
    → Syncs false old new → IsDiskRun run turns slots old → IsDiskRun run turns slots new

-- A slot whose commit is durable and whose gate is shut in each image may be idle again.
abbrev pub IdlesKeep : View → Type 0
IdlesKeep disk = (run : RunStart) (turns : List Turn) (slots : Slots) (k : ℕ) → HasWork slots k true shut_gate
    → IsDiskRun run turns slots disk → IsDiskRun run turns (with_at slots k None) disk

-- A slot is idle, and a commit begins there as the first with its number and with the greatest stamp.
pub record MayBeginIn (layout : Layout) (slots : Slots) (k : ℕ) (job : Job) (commit : ℕ) : Type 0 where
  pub idle : slots k ≡ None
  pub within : k < slot_count layout
  pub place : job.place ≡ place_at layout k
  pub is : IsJob job
  pub stamp : (j : ℕ) (other : SlotWork) → slots j ≡ Some other → other.job.stamp < job.stamp
  pub number : (j : ℕ) (other : SlotWork) → slots j ≡ Some other → other.commit ≢ commit

-- Such a commit keeps a run that fits what the disk stands for.
abbrev pub BeginsKeep : View → Type 0
BeginsKeep disk = (run : RunStart) (turns : List Turn) (slots : Slots) (k : ℕ) (job : Job) (commit : ℕ) (flush : Flush)
    → MayBeginIn run.layout slots k job commit
    → IsCommitAt run.gives run.layout (disk_books run turns).base slots (begun_work job commit flush) → KeepsLaws disk
    → IsDiskRun run turns slots disk → IsDiskRun run turns (with_at slots k (Some (begun_work job commit flush))) disk

-- A commit whose gate is open in each image is durable from now on: its turn says so, and the disk stands for the parts that it gives.
abbrev pub SettlesKeep : View → Type 0
SettlesKeep disk = (run : RunStart) (turns : List Turn) (slots : Slots) (k : ℕ) (turn : Turn) → (has : HasWork slots k false open_gate)
    → turn.act ≡ act.Durable → turn.commit ≡ has.work.commit → turn.now ≡ disk.now
    → IsDiskRun run turns slots disk → IsDiskRun run (turns ++ turn ∷ []) (changed_slot slots k settled_work) disk

-- A piece that fills a slot of a commit that is not durable, behind its shut gate, is written, or that failed.
abbrev pub FillsKeep : View → View → Type 0
FillsKeep old new = (run : RunStart) (turns : List Turn) (slots : Slots) (k n : ℕ) (done : Bool) → (has : HasWork slots k false shut_gate)
    → n < fill_count has.work.job → KeepsLaws old → Writes done (fill_piece has.work.job n) old new
    → IsDiskRun run turns slots old → IsDiskRun run turns (changed_slot slots k (knowing (known_filled done n))) new

-- A record of a durable commit with an open gate is placed, the oldest of its inode, or that failed.
abbrev pub PlacesKeep : View → View → Type 0
PlacesKeep old new = (run : RunStart) (turns : List Turn) (slots : Slots) (k n : ℕ) (done : Bool) → (has : HasWork slots k true open_gate)
    → n < length has.work.job.entries → IsOldestOf slots k has.work n → KeepsLaws old → Writes done (table_piece has.work.job n) old new
    → IsDiskRun run turns slots old → IsDiskRun run turns (changed_slot slots k (knowing (known_placed done n))) new

-- These are the turns of a commit with this number at this moment: it begins and is opened.
pub record AreOpenTurns (cut opened : Turn) (commit moment : ℕ) : Type 0 where
  pub cut_is : cut.act ≡ act.CutAt
  pub opened_is : opened.act ≡ act.Opened
  pub opened_commit : opened.commit ≡ commit
  pub cut_now : cut.now ≡ moment
  pub opened_now : opened.now ≡ moment

-- The two turns of a gate that is opened.
pub record OpenTurns : Type 0 where
  pub cut : Turn
  pub opened : Turn

-- The gate of a commit that is not durable is written open, once all that fills its slot stands in each image, or that failed.
abbrev pub OpensKeep : View → View → Type 0
OpensKeep old new = (run : RunStart) (turns : List Turn) (slots : Slots) (k : ℕ) (done : Bool) (two : OpenTurns)
    → (has : HasWork slots k false shut_gate) → ((n : ℕ) → n < fill_count has.work.job → has.work.known.fill_left n ≡ true)
    → AreOpenTurns two.cut two.opened has.work.commit new.now → KeepsLaws old → Writes done (gate_piece has.work.job.place 1) old new
    → IsDiskRun run turns slots old → IsDiskRun run (turns ++ two.cut ∷ two.opened ∷ []) (changed_slot slots k (knowing (known_gated done open_gate))) new

-- The gate of a durable commit is written shut, once all its records stand in each image, or that failed.
abbrev pub ShutsKeep : View → View → Type 0
ShutsKeep old new = (run : RunStart) (turns : List Turn) (slots : Slots) (k : ℕ) (done : Bool) → (has : HasWork slots k true open_gate)
    → ((n : ℕ) → n < length has.work.job.entries → has.work.known.table_left n ≡ true)
    → KeepsLaws old → Writes done (gate_piece has.work.job.place 0) old new
    → IsDiskRun run turns slots old → IsDiskRun run turns (changed_slot slots k (knowing (known_gated done shut_gate))) new
