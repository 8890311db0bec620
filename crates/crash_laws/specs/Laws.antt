-- The laws of what a crash leaves, each of which a function of the module laws proves.
use Rattle.std.specs.Prelude.{◌≡◌, ◌⊎◌, ℕ, Bool, List, [], ◌∷◌, ◌++◌, Some, None, is_some}
use Rattle.std.specs.FinMap.{get, empty}
use Rattle.sfs_dev.specs.Disk.{View}
use Rattle.sfs_dev.specs.Run.{CountsOn, Advances, Unwritten}
use Rattle.tree_laws.specs.declared.history.Entry.{Entry}
use Rattle.tree_laws.specs.declared.reply.Reply.TheVariants as reply
use Rattle.tree_laws.specs.History.{IsLegal}
use Rattle.tree_laws.specs.Laws.{IsSoundTree}
use Rattle.tree_laws.specs.Shape.{shape_of}
use Rattle.tree_laws.specs.Tree.{TreeState}
use Rattle.cut_laws.specs.Closure.{Flush}
use Rattle.cut_laws.specs.Cut.{Cut, tree_at_cut}
use Rattle.cut_laws.specs.Rules.{IsOneOf}
use Rattle.crash_laws.specs.Listed.{IsFsyncOf}
use Rattle.crash_laws.specs.SoFar.{SoFar, Stands, StandsSoFar, HoldsTree}
use Rattle.crash_laws.specs.Survives.{RaisesInOrder, SurvivesAll, BeginsNoCommit, HasFailure, ReadsBack}
use Rattle.crash_laws.specs.Wrote.{KeepsPast, Mounts, WroteNothing, Wrote, RaisesNext}

-- After a mount the first tree stands: no fsync has raised anything, and its nodes have inodes.
abbrev pub RunsBegin : View → Type 0
RunsBegin disk = (share from : ℕ) (first : TreeState) → IsSoundTree first → Mounts share from first disk
    → StandsSoFar share from first [] [] empty (λ node. is_some (get first.nodes node)) disk

-- An entry that was not acknowledged, and for which nothing was written, leaves standing what stood.
abbrev pub CallsKeep : View → View → Type 0
CallsKeep old new = (share from : ℕ) (first : TreeState) (history : List Entry) (entry : Entry) (flushes : List Flush) (cut : Cut) (inodes : ℕ → Bool)
    → IsSoundTree first → IsLegal first (history ++ entry ∷ []) → entry.ack ≡ None → WroteNothing old new
    → StandsSoFar share from first history flushes cut inodes old
    → StandsSoFar share from first (history ++ entry ∷ []) flushes cut inodes new

-- An fsync answered Ok, whose commit goes from the tree at the cut to that at the raised cut and is durable at the moment of its
-- acknowledgement, makes the raised cut stand.
abbrev pub CommitsKeep : View → View → Type 0
CommitsKeep old new = (share from durable : ℕ) (first : TreeState) (history : List Entry) (entry : Entry) (flushes : List Flush) (flush : Flush)
    (cut raised : Cut) (inodes after : ℕ → Bool)
    → IsSoundTree first → IsLegal first (history ++ entry ∷ []) → entry.reply ≡ reply.Ok → entry.ack ≡ Some durable
    → RaisesNext first history cut inodes entry flush raised after
    → Wrote share (tree_at_cut first history cut) (tree_at_cut first history raised) old new (Some durable)
    → StandsSoFar share from first history flushes cut inodes old
    → StandsSoFar share from first (history ++ entry ∷ []) (flushes ++ flush ∷ []) raised after new

-- An fsync answered DiskFailed, whose commit may have got to the disk or not, keeps what a crash may have left so far.
abbrev pub FailuresKeep : View → View → Type 0
FailuresKeep old new = (share from : ℕ) (first : TreeState) (history : List Entry) (entry : Entry) (flushes : List Flush) (flush : Flush)
    (cut raised : Cut) (inodes after : ℕ → Bool)
    → IsSoundTree first → IsLegal first (history ++ entry ∷ []) → entry.reply ≡ reply.DiskFailed
    → RaisesNext first history cut inodes entry flush raised after
    → Wrote share (tree_at_cut first history cut) (tree_at_cut first history raised) old new None
    → StandsSoFar share from first history flushes cut inodes old
    → SoFar share from first (history ++ entry ∷ []) new

-- So does an entry that was not acknowledged, once a commit has failed and the disk is left alone.
abbrev pub StoppedKeep : View → Type 0
StoppedKeep disk = (share from : ℕ) (first : TreeState) (history : List Entry) (entry : Entry)
    → IsSoundTree first → IsLegal first (history ++ entry ∷ []) → entry.ack ≡ None
    → SoFar share from first history disk
    → SoFar share from first (history ++ entry ∷ []) disk

-- What is at a cut at each moment so far survives each crash.
abbrev pub ImagesSurvive : View → Type 0
ImagesSurvive disk = (share from : ℕ) (first : TreeState) (history : List Entry)
    → IsSoundTree first → IsLegal first history → SoFar share from first history disk
    → SurvivesAll share from first history disk

-- No fsync that was refused has raised the cut of an image.
abbrev pub RefusalsRaiseNothing : Type 0
RefusalsRaiseNothing = (first : TreeState) (history : List Entry) (moment : ℕ) (flushes : List Flush) (entry : Entry) (flush : Flush)
    → IsLegal first history → RaisesInOrder history moment flushes
    → IsOneOf history entry → IsFsyncOf entry flush → BeginsNoCommit entry.reply → IsOneOf flushes flush → ⊥

-- A run at whose end all stands, or in which an fsync has failed, reads back.
abbrev pub RunsReadBack : View → Type 0
RunsReadBack disk = (share : ℕ) (first : TreeState) (history : List Entry) (flushes : List Flush) (cut : Cut) (inodes : ℕ → Bool)
    → IsSoundTree first → IsLegal first history
    → Stands share first history flushes cut inodes disk ⊎ HasFailure history
    → ReadsBack share first history disk

-- Nothing was written to a disk that is left alone.
abbrev pub DisksStay : View → Type 0
DisksStay disk = WroteNothing disk disk

-- Device calls keep what a crash before them may have left, while the count of these goes on.
abbrev pub PastIsKept : View → View → Type 0
PastIsKept old new = CountsOn new → Advances old new → KeepsPast old new

-- And those that only read have written nothing.
abbrev pub ReadsWriteNothing : View → View → Type 0
ReadsWriteNothing old new = CountsOn new → Advances old new → Unwritten old new → WroteNothing old new

-- Where nothing was written and the disk holds the old tree, whose shape the new one has, that was a commit to the new one, durable as it began.
abbrev pub NothingIsACommit : View → View → Type 0
NothingIsACommit old new = (share : ℕ) (before after : TreeState)
    → WroteNothing old new → HoldsTree share before old → shape_of after ≡ shape_of before
    → Wrote share before after old new (Some old.now)
