-- What is due where nothing fails, and that there are disks of which all is asked.
use Rattle.std.specs.Prelude.{◌≡◌, ◌⊎◌, ℕ, ◌≤◌, Bool, true, List, length, Option, Some, None}
use Rattle.sfs_base.specs.Ends.{HasRisen}
use Rattle.sfs_base.specs.declared.numbers.NodeId.{NodeId}
use Rattle.sfs_base.specs.declared.numbers.SpaceKind.{SpaceKind}
use Rattle.sfs_dev.specs.Disk.{View}
use Rattle.sfs_dev.specs.Memory.{memory_view, IsFresh}
use Rattle.sfs_dev.specs.Run.{CountsOn}
use Rattle.sfs_dev.specs.declared.memory.Memory.{Memory}
use Rattle.sfs_image.specs.Super.{Layout}
use Rattle.sfs_image.specs.Settled.{layout_of}
use Rattle.image_laws.specs.Image.{fault_of, tree_of}
use Rattle.history_check.specs.Legal.{IsLegalText, IsFirstWrong}
use Rattle.history_check.specs.declared.checking.TheConstants.{LONGEST_HISTORY}
use Rattle.mount_begin.specs.Mounted.{share_of_nodes}
use Rattle.script.specs.declared.commands.Line.{Line}
use Rattle.tree_laws.specs.declared.history.Entry.{Entry}
use Rattle.tree_laws.specs.declared.reply.Reply.{Reply}
use Rattle.tree_laws.specs.declared.reply.Reply.TheVariants as reply
use Rattle.tree_laws.specs.declared.turns.Turn.{Turn}
use Rattle.tree_laws.specs.declared.turns.TurnAct.{TurnAct}
use Rattle.tree_laws.specs.declared.turns.TurnAct.TheVariants as act
use Rattle.tree_laws.specs.Tree.{TreeState}
use Rattle.cut_laws.specs.Rules.{IsOneOf}
use Rattle.turn_laws.specs.Recorded.{IsLiveFsync}
use Rattle.scalefs_run.specs.declared.outcome.Status.{Status}
use Rattle.scalefs_run.specs.declared.outcome.Status.TheVariants.{Done, NoMemory, WrongHistory}
use Rattle.scalefs_run.specs.Checked.{ChecksHistory}
use Rattle.scalefs_run.specs.Due.{Judgement}
use Rattle.scalefs_run.specs.Image.{making_due, showing_due, MakesImage, ShowsImage}
use Rattle.scalefs_run.specs.Verified.{VerifiesImage}
use Rattle.scalefs_run.specs.Images.{IfToldAndCalm}
use Rattle.scalefs_run.specs.declared.writing.Writing.{Writing}
use Rattle.scalefs_run.specs.Served.{Served, run_ends, run_told}

-- the counts of faults of a source and a sink, before a call and after it
pub record EndFaults : Type 0 where
  pub source_before : ℕ
  pub source_after : ℕ
  pub sink_before : ℕ
  pub sink_after : ℕ

-- no count rose
pub record NothingFailed (ends : EndFaults) (old new : View) : Type 0 where
  pub source : HasRisen ends.source_before ends.source_after → ⊥
  pub sink : HasRisen ends.sink_before ends.sink_after → ⊥
  pub disk : HasRisen old.faults new.faults → ⊥

-- it was done, but for want of memory
abbrev pub IsDone : Status → Type 0
IsDone status = (status ≡ Done) ⊎ (status ≡ NoMemory)

-- an act of a commit that fails, or of one that stops behind it
abbrev pub GoesWell : TurnAct → Type 0
GoesWell act.Fail = ⊥
GoesWell act.Halted = ⊥
GoesWell _ = Unit {0}

-- some turn of an entry found too little
pub record WasShortOf (turns : List Turn) (entry : Entry) (kind : SpaceKind) (need free : ℕ) : Type 0 where
  pub turn : Turn
  pub among : IsOneOf turns turn
  pub own : turn.stamp.0 ≡ entry.stamp.0
  pub did : turn.act ≡ act.Short kind need free

-- the answer of an fsync of a live node: Ok, or want of memory, or too little space with its turn
abbrev pub IsAnsweredInCalm : List Turn → Entry → Reply → Type 0
IsAnsweredInCalm turns entry reply.Ok = Unit {0}
IsAnsweredInCalm turns entry reply.NoMemory = Unit {0}
IsAnsweredInCalm turns entry (reply.NoSpace kind need free) = WasShortOf turns entry kind need free
IsAnsweredInCalm turns entry _ = ⊥

-- A run went well: it was done, no commit failed or stopped, and each fsync of a live node was answered so.
pub record WentWell (first : TreeState) (status : Status) (history : List Entry) (turns : List Turn) : Type 0 where
  pub done : IsDone status
  pub turns_are : (turn : Turn) → IsOneOf turns turn → GoesWell turn.act
  pub answers : (entry : Entry) (node : NodeId) → IsLiveFsync first history entry node → IsAnsweredInCalm turns entry entry.reply

-- Where nothing failed and no other status was due than Done, a run went well.
abbrev pub RunsAreComplete : View → View → Type 0
RunsAreComplete old new = (due_by : Judgement → Status) (nodes : ℕ) (phases : List (List Line)) (writing : Writing) (ends : EndFaults)
    (before after : Option (List ℕ))
    (status : Status) (history : List Entry) (turns : List Turn)
    → (served : Served due_by nodes phases writing
    (run_ends (HasRisen ends.source_before ends.source_after) (HasRisen ends.sink_before ends.sink_after) before after old new)
    (run_told status history turns))
    → due_by served.caused.judged ≡ Done → NothingFailed ends old new → WentWell served.first status history turns

-- So `mkfs` is done of a layout that fits, and `show` of an image without a fault.
abbrev pub MakingsAreComplete : View → View → Type 0
MakingsAreComplete old new = (layout : Layout) (ends : EndFaults) (before after : Option (List ℕ)) (status : Status)
    → MakesImage layout (HasRisen ends.sink_before ends.sink_after) before after old new status → making_due layout old.size ≡ Done
    → NothingFailed ends old new → IsDone status

abbrev pub ShowingsAreComplete : View → View → Type 0
ShowingsAreComplete old new = (ends : EndFaults) (before after : Option (List ℕ)) (status : Status) (image : List ℕ)
    → ShowsImage (HasRisen ends.sink_before ends.sink_after) before after old new status → old.content ≡ Some image → fault_of image ≡ None
    → NothingFailed ends old new → IsDone status

-- what a status tells of a text over a tree: that it is legal, or its first wrong line; want of memory tells nothing
abbrev pub TellsOfText : TreeState → List ℕ → Status → Type 0
TellsOfText first text Done = (count : ℕ) × IsLegalText first text count
TellsOfText first text (WrongHistory line) = IsFirstWrong first text line
TellsOfText first text NoMemory = Unit {0}
TellsOfText first text _ = ⊥

-- And `check` of a text that is not too long tells of it over the tree of an image without a fault, whose cores share the new nodes.
abbrev pub ChecksAreComplete : View → View → Type 0
ChecksAreComplete old new = (nodes : ℕ) (ends : EndFaults) (before after : Option (List ℕ)) (status : Status) (image text : List ℕ) (first : TreeState)
    → ChecksHistory nodes (Some text)
    (run_ends (HasRisen ends.source_before ends.source_after) (HasRisen ends.sink_before ends.sink_after) before after old new) status
    → length text ≤ LONGEST_HISTORY → old.content ≡ Some image → tree_of image (share_of_nodes nodes (layout_of image)) ≡ Some first
    → NothingFailed ends old new → TellsOfText first text status

-- And `verify` tells an image's first fault, or that it has none, but for want of memory.
abbrev pub VerdictsAreComplete : View → View → Type 0
VerdictsAreComplete old new = (ends : EndFaults) (before after : Option (List ℕ)) (status : Status) (image : List ℕ)
    → VerifiesImage (HasRisen ends.sink_before ends.sink_after) before after old new status → old.content ≡ Some image → NothingFailed ends old new
    → (status ≡ showing_due (fault_of image)) ⊎ (status ≡ NoMemory)

-- Of a disk in memory of which no call was made yet all is asked, up to each later one whose count goes on.
abbrev pub FreshDisksAreAsked : Type 0
FreshDisksAreAsked = (old new : Memory) (bytes : List ℕ) (test : List ℕ → Bool) → IsFresh old bytes → CountsOn (memory_view new)
    → IfToldAndCalm (memory_view old) (memory_view new) (λ image. test image ≡ true) → test bytes ≡ true

-- And its count goes on.
abbrev pub FreshDisksCountOn : Type 0
FreshDisksCountOn = (memory : Memory) (bytes : List ℕ) → IsFresh memory bytes → CountsOn (memory_view memory)
