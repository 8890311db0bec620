-- The changes that a core keeps, by directory.
use Rattle.std.specs.Prelude.{◌≡◌, ◌⊎◌, ℕ, ◌+◌, ◌<◌, ◌≤◌, ◌==◌, nat_lt, Bool, true, List, [], ◌∷◌, ◌++◌, filter, max, length, All, Option, Some, None, if◌then◌else◌}
use Rattle.std.specs.BTreeMap.{is_at}
use Rattle.std.specs.List.Sorted.{IsStrictlySortedBy}
use Rattle.std.specs.Map.{lookup, keys_of}
use Rattle.std.specs.Option.{unwrap_or}
use Rattle.std.specs.declared.ops.Bound.{Bound}
use Rattle.std.specs.declared.ops.Bound.TheVariants.{Excluded, Unbounded}
use Rattle.std.specs.Ordering.{nat_cmp}
use Rattle.sfs_base.specs.declared.numbers.NodeId.{NodeId}
use Rattle.tree_laws.specs.declared.changes.Change.{Change}
use Rattle.tree_laws.specs.Logged.{is_logged_in}
use Rattle.mem_cells.specs.Log.{Log, log_place, is_from}

-- the logs of directories, each with its directory, and how many entries the core has
pub record CoreLog : Type 0 where
  pub logs : List (ℕ × Log)
  pub entries : ℕ

-- no changes, the mark 0, and no room
abbrev pub blank_log : Log
blank_log = record { mark = 0; changes = []; room = 0 }

-- the log of a directory: blank where there is none
abbrev pub log_of : List (ℕ × Log) → ℕ → Log
log_of logs directory = unwrap_or (lookup (is_at (nat_cmp directory)) logs) blank_log

-- Logs ascend by their directories, and so each directory has one.
abbrev pub AscendByDirectory : List (ℕ × Log) → Type 0
AscendByDirectory logs = IsStrictlySortedBy nat_cmp (keys_of logs)

-- a directory's changes, its mark, and for how many more changes there is room
abbrev pub changes_kept : CoreLog → ℕ → List Change
changes_kept part directory = (log_of part.logs directory).changes

abbrev pub mark_kept : CoreLog → ℕ → ℕ
mark_kept part directory = (log_of part.logs directory).mark

abbrev pub room_kept : CoreLog → ℕ → ℕ
room_kept part directory = (log_of part.logs directory).room

-- No change of an entry comes before one that its directory has.
abbrev pub StandBehind : List Change → (ℕ → List Change) → Type 0
StandBehind entry kept = All (λ change. All (λ other. log_place other ≤ log_place change) (kept change.dir.0)) entry

-- Logs have the same changes with the same marks.
pub record AreSameLogs (logs other : List (ℕ × Log)) : Type 0 where
  pub changes : (directory : ℕ) → (log_of other directory).changes ≡ (log_of logs directory).changes
  pub marks : (directory : ℕ) → (log_of other directory).mark ≡ (log_of logs directory).mark

-- Parts have the same changes with the same marks, and as many entries.
pub record IsSamePart (part other : CoreLog) : Type 0 where
  pub logs : AreSameLogs part.logs other.logs
  pub entries : other.entries ≡ part.entries

-- The changes of an entry stand behind those of their directories, and nothing else is changed.
pub record IsAddedTo (part : CoreLog) (entry : List Change) (after : CoreLog) : Type 0 where
  pub changes : (directory : ℕ) → changes_kept after directory ≡ changes_kept part directory ++ filter (is_logged_in directory) entry
  pub marks : (directory : ℕ) → mark_kept after directory ≡ mark_kept part directory
  pub entries : after.entries ≡ part.entries + 1

-- A change stands behind those of its directory, in room that there was, and nothing else is changed.
pub record PutsChange (logs : List (ℕ × Log)) (change : Change) (after : List (ℕ × Log)) : Type 0 where
  pub changes : (directory : ℕ)
      → (log_of after directory).changes
      ≡ (if is_logged_in directory change then (log_of logs directory).changes ++ change ∷ [] else (log_of logs directory).changes)
  pub marks : (directory : ℕ) → (log_of after directory).mark ≡ (log_of logs directory).mark
  pub room : (directory : ℕ) → (log_of after directory).room + (if is_logged_in directory change then 1 else 0) ≡ (log_of logs directory).room

-- One directory has no changes below a stamp any more, and a mark of this at least; nothing else is changed, and there is as much room.
pub record AreTrimmed (logs : List (ℕ × Log)) (trimmed below : ℕ) (after : List (ℕ × Log)) : Type 0 where
  pub changes : (directory : ℕ)
      → (log_of after directory).changes
      ≡ (if directory == trimmed then filter (is_from below) (log_of logs directory).changes else (log_of logs directory).changes)
  pub marks : (directory : ℕ)
      → (log_of after directory).mark ≡ (if directory == trimmed then max (log_of logs directory).mark below else (log_of logs directory).mark)
  pub room : (directory : ℕ) → (log_of logs directory).room ≤ (log_of after directory).room

-- The same of a part, which has as many entries as before.
pub record IsTrimmed (part : CoreLog) (trimmed below : ℕ) (after : CoreLog) : Type 0 where
  pub logs : AreTrimmed part.logs trimmed below after.logs
  pub entries : after.entries ≡ part.entries

-- A directory is trimmed, or it had no changes and all is as before.
abbrev pub IsTrimmedOrBlank : CoreLog → ℕ → ℕ → CoreLog → Type 0
IsTrimmedOrBlank part directory below after = IsTrimmed part directory below after ⊎ ((after ≡ part) × (changes_kept part directory ≡ []))

-- whether a directory comes after another one; each comes after none
abbrev pub is_after : Option NodeId → ℕ → Bool
is_after None directory = true
is_after (Some node) directory = nat_lt node.0 directory

-- where the directories after another one begin
abbrev pub bound_after : Option NodeId → Bound ℕ
bound_after None = Unbounded
bound_after (Some node) = Excluded node.0

-- A directory is the least after another one of which a part keeps changes.
pub record IsLeastAfter (part : CoreLog) (node : Option NodeId) (next : ℕ) : Type 0 where
  pub comes_after : is_after node next ≡ true
  pub has_changes : 0 < length (changes_kept part next)
  pub is_least : (directory : ℕ) → is_after node directory ≡ true → directory < next → changes_kept part directory ≡ []

-- The next directory after another one of which a part keeps changes; none where it keeps none of any after it.
abbrev pub IsNextDirectory : CoreLog → Option NodeId → Option NodeId → Type 0
IsNextDirectory part node None = (directory : ℕ) → is_after node directory ≡ true → changes_kept part directory ≡ []
IsNextDirectory part node (Some next) = IsLeastAfter part node next.0
