-- A run of a disk with journal slots, and what its device calls do.
use Rattle.std.specs.Prelude.{◌≡◌, ◌*◌, ◌<◌, ◌^◌, ◌≤◌, ◌∷◌, ℕ, Some, false, true, List, length, Bool, option_map, [], All}
use Rattle.sfs_image.specs.Super.{Layout, IsLayout}
use Rattle.sfs_image.specs.Part.{Part}
use Rattle.sfs_image.specs.ImageOf.{IsImageOf}
use Rattle.sfs_dev.specs.Run.{CountsOn}
use Rattle.sfs_dev.specs.Disk.{View, images, TornTold, Torn, Elapses, OnlyTold, SameImages}
use Rattle.sfs_dev.specs.Ranges.{put}
use Rattle.journal_one.specs.Job.{Piece}
use Rattle.commit_one.specs.Change.{nothing_open}
use Rattle.tree_laws.specs.declared.turns.Turn.{Turn}
use Rattle.cut_laws.specs.Rules.{IsOneOf}
use Rattle.slot_laws.specs.Slots.{Slots, SlotWork, may_be_open}
use Rattle.slot_laws.specs.Labels.{BoxPast, BegunCommit}
use Rattle.slot_image_laws.specs.Images.{RunStart, IsBox, disk_books, LeavesPrefixes}
use Rattle.slot_image_laws.specs.Commits.{IsCommitAt}

-- A commit is in a slot that may be open, and is not durable.
pub record IsFlight (slots : Slots) (commit : ℕ) : Type 0 where
  pub slot : ℕ
  pub work : SlotWork
  pub there : slots slot ≡ Some work
  pub number : work.commit ≡ commit
  pub aloft : work.settled ≡ false
  pub may : may_be_open work.known.gate_left ≡ true

-- The commits in slots that may be open and are not durable are those that turns have opened and not made durable.
pub record Matches (flying : List ℕ) (slots : Slots) : Type 0 where
  pub once : (j k : ℕ) (one other : SlotWork) → slots j ≡ Some one → slots k ≡ Some other → one.commit ≡ other.commit → j ≡ k
  pub flies : (k : ℕ) (work : SlotWork) → slots k ≡ Some work → work.settled ≡ false → may_be_open work.known.gate_left ≡ true
      → IsOneOf flying work.commit
  pub flown : (commit : ℕ) → IsOneOf flying commit → IsFlight slots commit

-- A disk is in a run with these turns and slots: each image stands for the parts that the turns say, with the slots that are open there, and
-- each since the start shows a front of the turns.
pub record IsDiskRun (run : RunStart) (turns : List Turn) (slots : Slots) (disk : View) : Type 0 where
  pub box : IsBox run.gives run.layout (disk_books run turns).base slots disk
  pub matches : Matches (disk_books run turns).flying slots
  pub trail : LeavesPrefixes run turns disk

-- When a run began each image stood for these parts, with no slot open.
pub record BeganWith (layout : Layout) (parts : ℕ → Part) (start : ℕ) (disk : View) : Type 0 where
  pub fits : IsLayout layout.blocks layout
  pub counts : CountsOn disk
  pub left : (image : List ℕ) → disk.crash_images start image → IsImageOf layout nothing_open parts image

-- What is so of each disk: what a read gives has the disk's size and is one of the images, and the count of device calls is a u64.
pub record KeepsLaws (disk : View) : Type 0 where
  pub whole : (content : List ℕ) → disk.content ≡ Some content → length content ≡ 4096 * disk.size
  pub read_is_left : (content : List ℕ) → disk.content ≡ Some content → images disk content
  pub now_fits : disk.now < 2 ^ 64

-- One device call wrote a piece, or failed to: each image is one from before but for these bytes.
pub record Writes (done : Bool) (piece : Piece) (old new : View) : Type 0 where
  pub ok : done ≡ true → new.content ≡ option_map (put piece.at piece.bytes) old.content
  pub err : done ≡ false → TornTold piece.at (length piece.bytes) old.content new.content
  pub torn : Torn piece.at (length piece.bytes) (images old) (images new)
  pub time : Elapses old new
  pub size : new.size ≡ old.size

-- One device call synced the disk, or failed to.
pub record Syncs (done : Bool) (old new : View) : Type 0 where
  pub ok : done ≡ true → OnlyTold new.content (images new)
  pub err : done ≡ false → SameImages (images old) (images new)
  pub content : new.content ≡ old.content
  pub time : Elapses old new
  pub size : new.size ≡ old.size

-- the moments of turns rise, from the first number to the last
abbrev pub RisesFrom : ℕ → List Turn → ℕ → Type 0
RisesFrom from [] to = from ≤ to
RisesFrom from (turn ∷ turns) to = (from ≤ turn.now) × RisesFrom turn.now turns to

-- Each commit of a history might begin where it did, and those that wrote nothing give nothing.
pub record BeginWell (run : RunStart) (past : BoxPast) : Type 0 where
  pub begun : All (λ (one : BegunCommit). IsCommitAt run.gives run.layout (disk_books run one.turns).base one.slots one.work) past.begun
  pub empties : All (λ (commit : ℕ). run.gives commit ≡ []) past.empties

-- A disk is in the run that labels tell, for all parts that it began with and that commits give.
pub record RunFits (layout : Layout) (start : ℕ) (past : BoxPast) (disk : View) : Type 0 where
  pub rises : RisesFrom start past.turns disk.now
  pub runs : (run : RunStart) → run.layout ≡ layout → run.moment ≡ start → BeganWith layout run.parts start disk → BeginWell run past
      → IsDiskRun run past.turns past.slots disk
