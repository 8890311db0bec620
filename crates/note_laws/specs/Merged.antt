-- What is merged of the cores' logs as they were noted, each at its own moment.
use Prim.Native.Nat.{zero}
use Rattle.std.specs.Prelude.{◌≡◌, ◌⊎◌, ℕ, suc, ◌<◌, ◌≤◌, nat_lt, ◌∷◌, Bool, true, List, is_some, [], filter, length, All, slice_index_or}
use Rattle.tree_laws.specs.declared.changes.Change.{Change}
use Rattle.tree_laws.specs.declared.history.Entry.{Entry}
use Rattle.tree_laws.specs.Logged.{is_logged_in}
use Rattle.cut_laws.specs.Rules.{IsOneOf}
use Rattle.mem_cells.specs.Part.{CoreLog, changes_kept}
use Rattle.mem_cells.specs.Log.{is_from}
use Rattle.log_merge.specs.Merge.{is_under, parts_changes, IsMergeOf}
use Rattle.core_logs.specs.Kept.{logged_of_core}
use Rattle.core_logs.specs.Logs.{blank_part}
use Rattle.dep_closure.specs.declared.gathered.DirectoryChanges.{DirectoryChanges}
use Rattle.dep_closure.specs.Gathered.{IsOwnLog}
use Rattle.dep_closure.specs.History.{logged_of, IsLogOf}
use Rattle.note_laws.specs.Run.{TableRun, calls_of, IsTableRun}
use Rattle.note_laws.specs.Notes.{CoreNotes, part_noted, calls_noted, HasNotedAll}
use Rattle.log_copy.specs.Copies.{KeepsFor}

-- whose the call with a stamp is; past the last one core 0
abbrev pub caller_of : List Entry → ℕ → ℕ
caller_of [] stamp = 0
caller_of (entry ∷ calls) zero = entry.core.0
caller_of (entry ∷ calls) (suc stamp) = caller_of calls stamp

-- whether the call with a stamp counts: its core's part was noted behind it
abbrev pub is_noted_by : TableRun → CoreNotes → ℕ → Bool
is_noted_by run noted stamp = nat_lt stamp (length (calls_noted noted (caller_of (calls_of run) stamp)))

-- the mark of a directory in the part of that call's core
abbrev pub mark_noted : TableRun → CoreNotes → ℕ → ℕ → ℕ
mark_noted run noted stamp directory = (noted.notes (caller_of (calls_of run) stamp)).mark directory

-- Each change that logs of cores keep has a stamp below one.
abbrev pub EndBelow : List CoreLog → ℕ → Type 0
EndBelow parts all = (part directory : ℕ) → part < length parts
    → All (λ change. change.stamp.0 < all) (changes_kept (slice_index_or parts part blank_part) directory)

-- A directory's changes are merged of all that logs of cores keep of it.
pub record IsMergedOf (parts : List CoreLog) (log : DirectoryChanges) : Type 0 where
  pub all : ℕ
  pub below : EndBelow parts all
  pub merge : IsMergeOf (parts_changes log.dir.0 all parts) log.changes.items

-- So is each of some, and of each directory of which a core's log keeps a change there is one.
pub record AreMergedOf (parts : List CoreLog) (logs : List DirectoryChanges) : Type 0 where
  pub merged : (log : DirectoryChanges) → IsOneOf logs log → IsMergedOf parts log
  pub whole : (part directory : ℕ) → part < length parts
      → (changes_kept (slice_index_or parts part blank_part) directory ≡ []) ⊎ ((log : DirectoryChanges) × IsOneOf logs log × (log.dir.0 ≡ directory))

-- whether a node is one of those that a core saw for its fsync, all of which it holds
abbrev pub is_seen_by : CoreNotes → ℕ → Bool
is_seen_by noted node = is_some (noted.pending node)

-- Logs are merged of copies of all noted parts, each of which keeps what a look at the nodes that the core saw asks for.
pub record AreMergedFor (noted : CoreNotes) (logs : List DirectoryChanges) : Type 0 where
  pub copies : List CoreLog
  pub as_many : length copies ≡ length noted.parts
  pub keep : (part : ℕ) → part < length noted.parts → KeepsFor (is_seen_by noted) (part_noted noted part) (slice_index_or copies part blank_part)
  pub merged : AreMergedOf copies logs

-- A merged log is one of the run's calls: it has what they log of its directory at some stamps, all of which count, and no mark cuts them off.
pub record IsLogNoted (run : TableRun) (noted : CoreNotes) (log : DirectoryChanges) : Type 0 where
  pub is : IsLogOf run.first (calls_of run) (is_noted_by run noted) log
  pub unmarked : (stamp : ℕ) → is.keeps stamp ≡ true → mark_noted run noted stamp log.dir.0 ≤ stamp
  pub own : IsOwnLog log

-- a change is one of a directory that a core saw for its fsync, or names a node that it saw
abbrev pub IsOfSeen : CoreNotes → Change → Type 0
IsOfSeen noted change = (is_seen_by noted change.dir.0 ≡ true) ⊎ (is_seen_by noted change.child.0 ≡ true)

-- So is each, and each change that the run's calls log of what the core saw, where it counts and no mark cuts it off, is in one.
pub record GathersNoted (run : TableRun) (noted : CoreNotes) (logs : List DirectoryChanges) : Type 0 where
  pub each : (log : DirectoryChanges) → IsOneOf logs log → IsLogNoted run noted log
  pub changes : (change : Change) → IsOneOf (logged_of run.first (calls_of run)) change → IsOfSeen noted change → is_noted_by run noted change.stamp.0 ≡ true
      → mark_noted run noted change.stamp.0 change.dir.0 ≤ change.stamp.0
      → (log : DirectoryChanges) × IsOneOf logs log × IsOneOf log.changes.items change

-- So it is of what is merged of such copies of noted parts.
abbrev pub NotesAreLogs : Type 0
NotesAreLogs = (run : TableRun) (noted : CoreNotes) (logs : List DirectoryChanges) → IsTableRun run → HasNotedAll run noted → AreMergedFor noted logs
    → GathersNoted run noted logs

-- Each part has of each directory what its marks leave of what its core's calls log in the whole run, up to the moment of its note; and the count of the
-- run's calls is above all that the parts keep, so that it may bound a merge.
pub record PartsAreLeft (run : TableRun) (noted : CoreNotes) : Type 0 where
  pub left : (part directory : ℕ) → part < length noted.parts
      → changes_kept (part_noted noted part) directory
      ≡ filter (is_from ((noted.notes part).mark directory))
      (filter (is_logged_in directory) (filter (is_under (length (calls_noted noted part))) (logged_of_core part run.first (calls_of run))))
  pub below : EndBelow noted.parts (length (calls_of run))

abbrev pub NotedPartsAreLeft : Type 0
NotedPartsAreLeft = (run : TableRun) (noted : CoreNotes) → IsTableRun run → HasNotedAll run noted → PartsAreLeft run noted
