-- The logs of all cores, and what is done with them.
use Rattle.std.specs.Prelude.{◌≡◌, ◌⊎◌, ℕ, ◌<◌, ◌≤◌, ◌^◌, ◌-◌, true, false, max, List, [], length, filter, map, All, slice_index_or}
use Rattle.std.specs.BTreeSet.{BTreeSet, contains}
use Rattle.std.specs.List.Sorted.{IsStrictlyIncreasing}
use Rattle.std.specs.Ordering.{nat_cmp}
use Rattle.sfs_base.specs.Listed.{is_listed}
use Rattle.tree_laws.specs.declared.changes.Change.{Change}
use Rattle.tree_laws.specs.Logged.{is_logged_in}
use Rattle.mem_cells.specs.Log.{IsInOrder, is_from}
use Rattle.mem_cells.specs.Part.{CoreLog, changes_kept, mark_kept, room_kept, IsSamePart, IsAddedTo, IsTrimmedOrBlank, StandBehind}
use Rattle.log_merge.specs.Merge.{parts_changes, IsMergeOf}
use Rattle.dep_closure.specs.declared.gathered.DirectoryChanges.{DirectoryChanges}
use Rattle.dep_closure.specs.Gathered.{log_directory}

-- a log for each core, and the directories of which one of them may have changes
pub record Logs : Type 0 where
  pub parts : List CoreLog
  pub directories : BTreeSet ℕ

-- a log without changes, of a core without entries
abbrev pub blank_part : CoreLog
blank_part = record { logs = []; entries = 0 }

-- the log of a core
abbrev pub part_of : Logs → ℕ → CoreLog
part_of logs core = slice_index_or logs.parts core blank_part

-- So many cores have no changes and no entries.
pub record AreBlank (cores : ℕ) (logs : Logs) : Type 0 where
  pub count : length logs.parts ≡ cores
  pub each : (core : ℕ) → part_of logs core ≡ blank_part
  pub none : logs.directories.keys ≡ []

-- Each core has the same changes with the same marks, and each directory that was listed is.
pub record AreSameChanges (logs other : Logs) : Type 0 where
  pub count : length other.parts ≡ length logs.parts
  pub parts : (core : ℕ) → IsSamePart (part_of logs core) (part_of other core)
  pub listed : (directory : ℕ) → contains nat_cmp logs.directories directory ≡ true → contains nat_cmp other.directories directory ≡ true

-- A core has room for the changes of an entry, and their directories are listed.
pub record HasRoom (logs : Logs) (core : ℕ) (entry : List Change) : Type 0 where
  pub room : (directory : ℕ) → length (filter (is_logged_in directory) entry) ≤ room_kept (part_of logs core) directory
  pub listed : All (λ change. contains nat_cmp logs.directories change.dir.0 ≡ true) entry

-- The changes of an entry may be put behind those that a core has: there is room, they stand in order, and none comes before one that its
-- directory has.
pub record MayAdd (logs : Logs) (core : ℕ) (entry : List Change) : Type 0 where
  pub has_room : HasRoom logs core entry
  pub order : IsInOrder entry
  pub behind : StandBehind entry (changes_kept (part_of logs core))
  pub entries : (part_of logs core).entries < 2 ^ 64 - 1

-- They stand behind them, and the other cores are as before.
pub record AreWithEntry (logs : Logs) (core : ℕ) (entry : List Change) (after : Logs) : Type 0 where
  pub count : length after.parts ≡ length logs.parts
  pub own : IsAddedTo (part_of logs core) entry (part_of after core)
  pub others : (other : ℕ) → (other ≡ core → ⊥) → part_of after other ≡ part_of logs other
  pub directories : after.directories ≡ logs.directories

-- What was gathered below a stamp: of each listed directory the changes of all cores, in one order; directories ascend.
pub record AreGathered (logs : Logs) (below : ℕ) (gathered : List DirectoryChanges) : Type 0 where
  pub ascending : IsStrictlyIncreasing (map log_directory gathered)
  pub directories : map log_directory gathered ≡ logs.directories.keys
  pub merged : All (λ log. IsMergeOf (parts_changes log.dir.0 below logs.parts) log.changes.items) gathered

-- Of each of some logs a directory is trimmed, or it had no changes and all is as before.
pub record ArePartsTrimmed (parts : List CoreLog) (directory below : ℕ) (after : List CoreLog) : Type 0 where
  pub count : length after ≡ length parts
  pub each : (core : ℕ) → core < length parts → IsTrimmedOrBlank (slice_index_or parts core blank_part) directory below (slice_index_or after core blank_part)

-- The same as a log shows it of this directory.
abbrev pub IsTrimmedLog : CoreLog → ℕ → ℕ → CoreLog → Type 0
IsTrimmedLog part directory below after =
    ((mark_kept after directory ≡ max (mark_kept part directory) below) × (changes_kept after directory ≡ filter (is_from below) (changes_kept part directory)))
    ⊎ ((mark_kept after directory ≡ mark_kept part directory) × (changes_kept after directory ≡ []) × (changes_kept part directory ≡ []))

-- A directory's changes and its mark are as before.
pub record IsSameLog (part : CoreLog) (directory : ℕ) (after : CoreLog) : Type 0 where
  pub changes : changes_kept after directory ≡ changes_kept part directory
  pub mark : mark_kept after directory ≡ mark_kept part directory

-- Of a core's log some directories are trimmed, and no others.
pub record IsTrimmedPart (part : CoreLog) (directories : List ℕ) (below : ℕ) (after : CoreLog) : Type 0 where
  pub trimmed : (directory : ℕ) → is_listed directories directory ≡ true → IsTrimmedLog part directory below after
  pub others : (directory : ℕ) → is_listed directories directory ≡ false → IsSameLog part directory after
  pub entries : after.entries ≡ part.entries

-- Of each core's log some directories are trimmed, which are no longer listed; all others are as before.
pub record AreTrimmedOf (logs : Logs) (directories : List ℕ) (below : ℕ) (after : Logs) : Type 0 where
  pub count : length after.parts ≡ length logs.parts
  pub parts : (core : ℕ) → IsTrimmedPart (part_of logs core) directories below (part_of after core)
  pub listed : (directory : ℕ) → is_listed directories directory ≡ false
      → contains nat_cmp after.directories directory ≡ contains nat_cmp logs.directories directory
  pub ended : (directory : ℕ) → is_listed directories directory ≡ true → contains nat_cmp after.directories directory ≡ false
