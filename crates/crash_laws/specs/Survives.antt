-- What a crash leaves of a whole run, and what a read gives at its end.
use Rattle.std.specs.Prelude.{◌≡◌, ◌↔◌, ℕ, ◌≤◌, Bool, List, [], ◌∷◌, ◌++◌}
use Rattle.sfs_dev.specs.Disk.{View, LeftSince}
use Rattle.sfs_dev.specs.Steps.{IfTold}
use Rattle.tree_laws.specs.declared.history.Entry.{Entry}
use Rattle.tree_laws.specs.declared.reply.Reply.{Reply}
use Rattle.tree_laws.specs.declared.reply.Reply.TheVariants as reply
use Rattle.tree_laws.specs.Tree.{TreeState}
use Rattle.cut_laws.specs.Closure.{every_entry, Flush, AreFlushed}
use Rattle.cut_laws.specs.Covers.{IsAcknowledged, Covers}
use Rattle.cut_laws.specs.Cut.{Cut, tree_at_cut}
use Rattle.cut_laws.specs.Rules.{IsOneOf, IsClosed}
use Rattle.image_laws.specs.Image.{IsReadAsTree}
use Rattle.crash_laws.specs.Listed.{IsListedFsync, IsAcknowledgedBy, StampsDiffer}

-- Fsyncs stand in the order in which they were acknowledged.
abbrev pub Ascend : List Entry → List Flush → Type 0
Ascend history [] = Unit {0}
Ascend history (flush ∷ flushes) =
    ((later : Flush) (ack late : ℕ) → IsOneOf flushes later → IsAcknowledged history flush ack → IsAcknowledged history later late → ack ≤ late)
    × Ascend history flushes

-- A list of fsyncs begins with exactly those acknowledged by a moment, in the order of their acknowledgement. Each other was answered Ok,
-- DiskFailed or Stopped, and none stands in it twice.
pub record RaisesInOrder (history : List Entry) (moment : ℕ) (flushes : List Flush) : Type 0 where
  pub firsts : List Flush
  pub others : List Flush
  pub whole : flushes ≡ firsts ++ others
  pub acknowledged : (flush : Flush) → IsOneOf firsts flush ↔ IsAcknowledgedBy history moment flush
  pub ascending : Ascend history firsts
  pub answered : (flush : Flush) → IsOneOf others flush → IsListedFsync history flush
  pub once : StampsDiffer flushes

-- What a crash at a moment or later may leave: it is read as the tree at a closed cut that covers the history at the moment, and that such
-- a list of fsyncs has raised.
pub record IsSafeImage (share : ℕ) (first : TreeState) (history : List Entry) (moment : ℕ) (image : List ℕ) : Type 0 where
  pub flushes : List Flush
  pub cut : Cut
  pub inodes : ℕ → Bool
  pub closed : IsClosed first history cut
  pub covers : Covers first history cut moment
  pub raises : RaisesInOrder history moment flushes
  pub raised : AreFlushed first history every_entry flushes cut inodes
  pub read : IsReadAsTree image share (tree_at_cut first history cut)

-- So is every image that a crash at some moment of a run, or since, may leave.
abbrev pub SurvivesAll : ℕ → ℕ → TreeState → List Entry → View → Type 0
SurvivesAll share from first history disk =
    (moment : ℕ) (image : List ℕ) → from ≤ moment → moment ≤ disk.now → LeftSince disk moment image
    → IsSafeImage share first history moment image

-- The answers of an fsync that begins no commit.
abbrev pub BeginsNoCommit : Reply → Type 0
BeginsNoCommit (reply.NoSpace kind need free) = Unit {0}
BeginsNoCommit reply.NoMemory = Unit {0}
BeginsNoCommit _ = ⊥

-- The answers of an fsync that the disk failed, and of one that came after such a failure.
abbrev pub IsFailure : Reply → Type 0
IsFailure reply.DiskFailed = Unit {0}
IsFailure (reply.Stopped faults) = Unit {0}
IsFailure _ = ⊥

-- Some entry of a history was answered DiskFailed or Stopped, as in a legal one an fsync alone may be.
pub record HasFailure (history : List Entry) : Type 0 where
  pub entry : Entry
  pub among : IsOneOf history entry
  pub failed : IsFailure entry.reply

-- What a read gives, where the disk tells it, is read as the tree at the cut that exactly the fsyncs answered Ok have raised, in the order
-- of their acknowledgement.
pub record IsReadBack (share : ℕ) (first : TreeState) (history : List Entry) (disk : View) : Type 0 where
  pub flushes : List Flush
  pub cut : Cut
  pub inodes : ℕ → Bool
  pub exactly : (flush : Flush) → IsOneOf flushes flush ↔ ((ack : ℕ) × IsAcknowledged history flush ack)
  pub ascending : Ascend history flushes
  pub once : StampsDiffer flushes
  pub raised : AreFlushed first history every_entry flushes cut inodes
  pub read : IfTold disk.content (λ content. IsReadAsTree content share (tree_at_cut first history cut))

-- So it is where no fsync has failed.
abbrev pub ReadsBack : ℕ → TreeState → List Entry → View → Type 0
ReadsBack share first history disk = (HasFailure history → ⊥) → IsReadBack share first history disk
