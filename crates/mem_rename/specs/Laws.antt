-- The laws of a rename over the values of cells, each of which a function of the module laws proves.
use Rattle.std.specs.Prelude.{◌≡◌, ◌≢◌, ◌⊎◌, ℕ, ◌+◌, ◌<◌, ◌&&◌, false, List, [], ◌∷◌, ◌++◌, length, Option, Some, None, IsSome}
use Rattle.tree_laws.specs.declared.call.Call.{Call}
use Rattle.tree_laws.specs.declared.reply.Reply.{Reply}
use Rattle.tree_laws.specs.declared.history.Entry.{Entry}
use Rattle.tree_laws.specs.Tree.{TreeState, is_alive, is_directory}
use Rattle.tree_laws.specs.Effect.{Moves}
use Rattle.tree_laws.specs.Verdict.{verdict, tree_after_call}
use Rattle.tree_laws.specs.Lock.{AreHolders, EndsAtRoot, needs_lock}
use Rattle.tree_laws.specs.Logged.{logged_by}
use Rattle.tree_laws.specs.NameRow.{number_of}
use Rattle.tree_laws.specs.History.{tree_after, IsLegal}
use Rattle.tree_laws.specs.Laws.{IsSoundTree}
use Rattle.cut_laws.specs.Rules.{IsOneOf}
use Rattle.disk_nodes.specs.OldKept.{OldKept}
use Rattle.stamp_table.specs.declared.event.Event.{Event}
use Rattle.stamp_table.specs.declared.event.Event.TheVariants.{Called}
use Rattle.stamp_table.specs.declared.view.View.{View}
use Rattle.stamp_table.specs.declared.held.HeldCell.{HeldCell}
use Rattle.stamp_table.specs.Events.{calls_in}
use Rattle.stamp_table.specs.Table.{MayCall}
use Rattle.mem_values.specs.declared.fact.Fact.{Fact}
use Rattle.mem_values.specs.declared.cell.Cell.{Cell}
use Rattle.mem_values.specs.declared.cell_id.CellId.{CellId}
use Rattle.mem_values.specs.declared.cell_id.CellId.TheVariants as id
use Rattle.mem_values.specs.declared.bucket.Bucket.{Bucket}
use Rattle.mem_values.specs.Places.{IsCell}
use Rattle.mem_values.specs.Account.{account_of}
use Rattle.mem_values.specs.Stands.{ShowsBucket, file_links, StandsForCell, StandsAt}
use Rattle.mem_values.specs.Facts.{IsLawfulLog}
use Rattle.mem_values.specs.Touches.{KeepsCell}
use Rattle.mem_values.specs.Laws.{KnowsCells, MayMeet, CallFits}
use Rattle.mem_rename.specs.declared.sides.Move.{Move}
use Rattle.mem_rename.specs.Sights.{Sight, rename_call, rename_by, there_seen, meets_directory, goes_between, ShowsMove}
use Rattle.mem_values.specs.Start.{FileHand, FileState}
use Rattle.mem_calls.specs.Table.{IsFileTable}
use Rattle.mem_calls.specs.Held.{value_held}
use Rattle.mem_rename.specs.declared.plans.Plan.{Plan}
use Rattle.mem_rename.specs.Ready.{sight_of, AreSidesWithin, HoldsRename, MayMeetOn}
use Rattle.mem_rename.specs.Cells.{cells_of}
use Rattle.mem_rename.specs.Decisions.{look_seen, reads_of, decision_by, verdict_of}
use Rattle.mem_rename.specs.Logged.{rename_logged}
use Rattle.mem_rename.specs.Ways.{last_read, HasRead}
use Rattle.mem_rename.specs.After.{IsMovedBucket, IsMovedCell}

-- In every sound tree that shows what a rename reads, it answers and does what these values say.
abbrev pub RenamesAreAsSeen : Type 0
RenamesAreAsSeen = (tree : TreeState) (core : ℕ) (move : Move) (seen : Sight) → IsSoundTree tree → ShowsMove tree move seen
    → verdict tree core (rename_call move) ≡ rename_by seen move

-- It keeps every cell but those that the values name.
abbrev pub RenamesKeepCells : Type 0
RenamesKeepCells = (tree : TreeState) (core : ℕ) (move : Move) (seen : Sight) (nodes cores : ℕ) (cell : CellId) → IsSoundTree tree → core < length tree.made
    → ShowsMove tree move seen → IsCell nodes cores cell
    → KeepsCell tree core (rename_call move) cell ⊎ IsOneOf (cells_of seen move core) cell

-- It logs what the values say.
abbrev pub RenamesLog : Type 0
RenamesLog = (tree : TreeState) (core stamp : ℕ) (move : Move) (seen : Sight) → IsSoundTree tree → ShowsMove tree move seen
    → logged_by tree core stamp (verdict tree core (rename_call move)).effect (verdict tree core (rename_call move)).makes ≡ rename_logged seen move stamp

-- It needs the lock of the tree exactly where a directory comes to another one.
abbrev pub RenamesNeedLock : Type 0
RenamesNeedLock = (tree : TreeState) (core : ℕ) (move : Move) (seen : Sight) (child : ℕ) → IsSoundTree tree → ShowsMove tree move seen
    → (rename_by seen move).effect ≡ Moves move.directory.0 move.name move.to_directory.0 move.to_name child
    → needs_lock tree core (rename_call move) ≡ goes_between seen move

-- Once a child has moved, a bucket that is as the rename leaves it shows the tree after it.
abbrev pub MovedBucketsShow : Type 0
MovedBucketsShow = (tree : TreeState) (core : ℕ) (move : Move) (seen : Sight) (child directory number : ℕ) (before after : Bucket) → IsSoundTree tree
    → core < length tree.made → ShowsMove tree move seen
    → (rename_by seen move).effect ≡ Moves move.directory.0 move.name move.to_directory.0 move.to_name child
    → ShowsBucket tree directory number before → IsMovedBucket seen move child directory number before after
    → ShowsBucket (tree_after_call tree core (rename_call move)) directory number after

-- And a file that it replaced has one row less that names it.
abbrev pub ReplacedFilesLoseALink : Type 0
ReplacedFilesLoseALink = (tree : TreeState) (core : ℕ) (move : Move) (seen : Sight) (child there : ℕ) → IsSoundTree tree → core < length tree.made
    → ShowsMove tree move seen
    → (rename_by seen move).effect ≡ Moves move.directory.0 move.name move.to_directory.0 move.to_name child
    → there_seen seen move ≡ Some there → meets_directory seen move ≡ false
    → file_links (tree_after_call tree core (rename_call move)) there + 1 ≡ file_links tree there

-- A bucket of the last directory that was read gives the next one.
abbrev pub ReadingGoesUp : Type 0
ReadingGoesUp = (tree : TreeState) (node number holder : ℕ) (above : List ℕ) (bucket : Bucket) → AreHolders tree node above
    → ShowsBucket tree (last_read node above) number bucket
    → number_of bucket.stands ≡ Some holder → AreHolders tree node (above ++ holder ∷ [])

-- Reading has come to an end at the root.
abbrev pub ReadingEndsAtTheRoot : Type 0
ReadingEndsAtTheRoot = (node : ℕ) (above : List ℕ) → last_read node above ≡ 0 → EndsAtRoot node above

-- Where it comes to one that stands nowhere and is not the root, the directory below is not alive.
abbrev pub ReadingBreaksOffBelowTheDead : Type 0
ReadingBreaksOffBelowTheDead = (tree : TreeState) (node number : ℕ) (above : List ℕ) (bucket : Bucket) → IsSoundTree tree → AreHolders tree node above
    → ShowsBucket tree (last_read node above) number bucket
    → number_of bucket.stands ≡ None → last_read node above ≢ 0 → (is_alive tree node && is_directory tree node) ≡ false

-- As long as the lock's value stands, directories that were read above a node are its holders.
abbrev pub ReadWaysStay : Type 0
ReadWaysStay = (given : ℕ → Option OldKept) (first : TreeState) (before after : List (Event Fact)) (lock : Cell) (node : ℕ) (above : List ℕ) → IsSoundTree first
    → IsLegal first (calls_in (before ++ after))
    → StandsForCell given first (account_of before) id.Lock lock → StandsForCell given first (account_of (before ++ after)) id.Lock lock
    → AreHolders (tree_after first (calls_in before)) node above → AreHolders (tree_after first (calls_in (before ++ after))) node above

-- A core that has read directories above a node may stamp a call that fits each tree which its values show and in which these are the holders.
abbrev pub CallsMayComeOnAWay : Type 0
CallsMayComeOnAWay = (given : ℕ → Option OldKept) (view : View TreeState (Event Fact)) (cells : List (HeldCell Cell)) (node : ℕ) (above : List ℕ) (c : Call)
    (reply : Reply)
    → IsSoundTree view.first → view.core < length view.first.made → KnowsCells given view cells → HasRead given view node above
    → ((tree : TreeState) → MayMeet view cells tree → AreHolders tree node above → CallFits view tree c reply)
    → MayCall (IsLawfulLog given) (StandsAt given) view c reply

-- What a rename decides by what it has looked at is what the values say.
abbrev pub DecisionsAreVerdicts : Type 0
DecisionsAreVerdicts = (move : Move) (seen : Sight) → verdict_of move (decision_by (look_seen seen move) (reads_of seen move) move) ≡ rename_by seen move

-- What a core holds that is ready for a rename shows each tree that it may meet.
abbrev pub ReadyCoresSeeAll : Type 0
ReadyCoresSeeAll = (given : ℕ → Option OldKept) (t : FileState) (nodes : ℕ) (move : Move) (plan : Plan) (above : List ℕ) (hand : FileHand)
    (tree : TreeState)
    → IsFileTable t nodes → AreSidesWithin nodes move → HoldsRename given t nodes move plan above hand → MayMeetOn plan move.to_directory.0 above hand tree
    → ShowsMove tree move (sight_of nodes hand.held move plan above)

-- And it holds each cell that the rename does not keep there.
abbrev pub ReadyCoresHoldAll : Type 0
ReadyCoresHoldAll = (given : ℕ → Option OldKept) (t : FileState) (nodes : ℕ) (move : Move) (plan : Plan) (above : List ℕ) (hand : FileHand)
    (tree : TreeState) (which : CellId)
    → IsFileTable t nodes → AreSidesWithin nodes move → HoldsRename given t nodes move plan above hand → MayMeetOn plan move.to_directory.0 above hand tree
    → IsCell nodes (length t.first.made) which
    → KeepsCell tree hand.view.core (rename_call move) which ⊎ IsSome (value_held nodes hand.held which)

-- Where a child has moved, each cell of its core goes home with the value that the rename leaves in it.
abbrev pub MovedCellsGoHome : Type 0
MovedCellsGoHome = (given : ℕ → Option OldKept) (first : TreeState) (log : List (Event Fact)) (entry : Entry) (move : Move) (seen : Sight) (child : ℕ)
    (which : CellId) (before after : Cell)
    → IsSoundTree first → IsLawfulLog given first log → IsLegal first (calls_in (log ++ Called entry ∷ [])) → entry.call ≡ rename_call move
    → ShowsMove (tree_after first (calls_in log)) move seen
    → (rename_by seen move).effect ≡ Moves move.directory.0 move.name move.to_directory.0 move.to_name child
    → StandsForCell given first (account_of log) which before → IsMovedCell seen move entry.core.0 child entry.stamp which before after
    → StandsForCell given first (account_of (log ++ Called entry ∷ [])) which after
