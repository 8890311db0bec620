-- The laws of the logs of all cores, each of which a function of the module laws proves.
use Rattle.std.specs.Prelude.{◌≡◌, ℕ, ◌^◌, ◌-◌, ◌<◌, ◌≤◌, true, List, [], ◌∷◌, ◌++◌, length, map}
use Rattle.std.specs.List.{All}
use Rattle.std.specs.List.Sorted.{IsStrictlyIncreasing}
use Rattle.sfs_base.specs.Listed.{is_listed}
use Rattle.tree_laws.specs.declared.changes.Change.{Change}
use Rattle.tree_laws.specs.declared.history.Entry.{Entry}
use Rattle.tree_laws.specs.Tree.{TreeState}
use Rattle.tree_laws.specs.History.{IsLegal, MayCome, tree_after}
use Rattle.tree_laws.specs.Laws.{IsSoundTree}
use Rattle.cut_laws.specs.Cut.{Cut, cut_of}
use Rattle.cut_laws.specs.Rules.{IsOneOf}
use Rattle.cut_laws.specs.Closure.{every_entry}
use Rattle.dep_closure.specs.declared.gathered.DirectoryChanges.{DirectoryChanges}
use Rattle.dep_closure.specs.Gathered.{log_directory, IsOwnLog}
use Rattle.dep_closure.specs.History.{logged_of, IsLogOf}
use Rattle.core_logs.specs.Logs.{Logs, AreBlank, HasRoom, MayAdd, AreSameChanges, AreWithEntry, AreGathered, AreTrimmedOf}
use Rattle.core_logs.specs.Kept.{KeepsUnflushed, logged_in_tree}

-- Blank logs keep what is not flushed of no history.
abbrev pub BlankLogsKeep : Type 0
BlankLogsKeep = (first : TreeState) (cut : Cut) (cores : ℕ) (logs : Logs) → AreBlank cores logs → KeepsUnflushed first [] cut logs

-- Room that was made changes nothing of it.
abbrev pub RoomKeeps : Type 0
RoomKeeps =
    (first : TreeState) (history : List Entry) (cut : Cut) (logs after : Logs) → AreSameChanges logs after → KeepsUnflushed first history cut logs
    → KeepsUnflushed first history cut after

-- Where no cut is above a legal history, the changes of its next entry may be added once there is room, and then the logs keep what is not
-- flushed of the longer one.
abbrev pub EntriesMayBeAdded : Type 0
EntriesMayBeAdded =
    (first : TreeState) (history : List Entry) (entry : Entry) (cut : Cut) (logs : Logs) → IsLegal first history
    → MayCome (tree_after first history) (length history) entry
    → length history < 2 ^ 64 - 1 → entry.core.0 < length logs.parts
    → KeepsUnflushed first history cut logs → HasRoom logs entry.core.0 (logged_in_tree (tree_after first history) entry)
    → MayAdd logs entry.core.0 (logged_in_tree (tree_after first history) entry)

abbrev pub EntriesKeep : Type 0
EntriesKeep =
    (first : TreeState) (history : List Entry) (entry : Entry) (cut : Cut) (logs after : Logs) → IsLegal first history
    → MayCome (tree_after first history) (length history) entry
    → ((node : ℕ) → cut_of cut node ≤ length history)
    → entry.core.0 < length logs.parts → HasRoom logs entry.core.0 (logged_in_tree (tree_after first history) entry)
    → AreWithEntry logs entry.core.0 (logged_in_tree (tree_after first history) entry) after
    → KeepsUnflushed first history cut logs → KeepsUnflushed first (history ++ entry ∷ []) cut after

-- What is trimmed at the end of a history is no longer kept; where the cuts of the trimmed directories are raised to it, and no other falls,
-- the logs keep what is not flushed at the raised cut.
abbrev pub TrimsKeepUnflushed : Type 0
TrimsKeepUnflushed = (first : TreeState) (history : List Entry) (cut raised : Cut) (directories : List ℕ) (logs after : Logs) → IsLegal first history
    → ((node : ℕ) → cut_of cut node ≤ cut_of raised node) → ((node : ℕ) → is_listed directories node ≡ true → length history ≤ cut_of raised node)
    → AreTrimmedOf logs directories (length history) after → KeepsUnflushed first history cut logs → KeepsUnflushed first history raised after

-- What is gathered of such logs at the end of a history: each log is one of it, each of its changes that is not flushed is in one of them, and
-- they stand in order.
pub record GathersUnflushed (first : TreeState) (history : List Entry) (cut : Cut) (gathered : List DirectoryChanges) : Type 0 where
  pub logs : (log : DirectoryChanges) → IsOneOf gathered log → IsLogOf first history every_entry log
  pub changes : (change : Change) → IsOneOf (logged_of first history) change → cut_of cut change.dir.0 ≤ change.stamp.0
      → (log : DirectoryChanges) × IsOneOf gathered log × IsOneOf log.changes.items change
  pub ascending : IsStrictlyIncreasing (map log_directory gathered)
  pub own_logs : All IsOwnLog gathered

abbrev pub UnflushedIsGathered : Type 0
UnflushedIsGathered = (first : TreeState) (history : List Entry) (cut : Cut) (logs : Logs) (gathered : List DirectoryChanges) → IsLegal first history
    → KeepsUnflushed first history cut logs → AreGathered logs (length history) gathered → GathersUnflushed first history cut gathered
