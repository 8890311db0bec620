-- How many of the kept changes name a node, and what a part keeps to tell it.
use Rattle.std.specs.Prelude.{◌≡◌, ◌⊎◌, ℕ, ◌+◌, ◌-◌, ◌≤◌, ◌^◌, ◌==◌, Bool, false, List, [], ◌∷◌, ◌++◌, length, filter, slice_get, max, Some, nat_eq}
use Rattle.std.specs.BTreeMap.{is_at}
use Rattle.std.specs.HashMap.{HashMap, get}
use Rattle.std.specs.List.{sum_by, count_by}
use Rattle.std.specs.Map.{lookup, set_value, values_of, count_at}
use Rattle.std.specs.Ordering.{nat_cmp}
use Rattle.sfs_base.specs.Listed.{is_listed}
use Rattle.tree_laws.specs.declared.changes.Change.{Change}
use Rattle.mem_cells.specs.Log.{Log, is_from}
use Rattle.mem_cells.specs.Part.{CoreLog, log_of, changes_kept, AscendByDirectory}

-- whether a change names a node, as the child of its row
abbrev pub names_node : ℕ → Change → Bool
names_node node change = change.child.0 == node

-- how many of some changes name a node
abbrev pub namings_of : List Change → ℕ → ℕ
namings_of changes node = count_by (names_node node) changes

-- how many of the changes in some logs do
abbrev pub namings_in : List (ℕ × Log) → ℕ → ℕ
namings_in logs node = sum_by (λ log. namings_of log.changes node) (values_of logs)

-- how many of the changes that a part keeps do
abbrev pub namings_kept : CoreLog → ℕ → ℕ
namings_kept part node = namings_in part.logs node

-- how many of those that it keeps of some directories do
abbrev pub namings_within : CoreLog → List ℕ → ℕ → ℕ
namings_within part directories node = sum_by (λ directory. namings_of (changes_kept part directory) node) directories

-- A change names a node that a part keeps of a directory which is none of some.
pub record IsNamedOutside (part : CoreLog) (directories : List ℕ) (node : ℕ) : Type 0 where
  pub directory : ℕ
  pub is_outside : is_listed directories directory ≡ false
  pub place : ℕ
  pub change : Change
  pub is_kept : slice_get (changes_kept part directory) place ≡ Some change
  pub child : change.child.0 ≡ node

-- how many changes there are in some logs
abbrev pub changes_count : List (ℕ × Log) → ℕ
changes_count logs = sum_by (λ log. length log.changes) (values_of logs)

-- for how many more there is room in them
abbrev pub room_count : List (ℕ × Log) → ℕ
room_count logs = sum_by (λ log. log.room) (values_of logs)

-- a node's count among counts by node, 0 where it has none
abbrev pub naming_count : {S : Type 0} → HashMap ℕ ℕ S → ℕ → ℕ
naming_count counts node = count_at (get nat_eq counts) node

-- Logs stand by directory; of each node it is counted how many of their changes name it, and there is room to count those that they
-- have room for.
pub record CountsNamings (logs : List (ℕ × Log)) (count : ℕ → ℕ) (spare kept rooms : ℕ) : Type 0 where
  pub ascend : AscendByDirectory logs
  pub counted : (node : ℕ) → count node ≡ namings_in logs node
  pub kept_are : changes_count logs ≡ kept
  pub rooms_are : room_count logs ≡ rooms
  pub room : rooms ≤ spare
  pub few : kept + rooms ≤ 2 ^ 63

-- The log of one directory, which has one, is another log, and nothing else is changed.
pub record IsReplaced (logs : List (ℕ × Log)) (directory : ℕ) (log next : Log) (after : List (ℕ × Log)) : Type 0 where
  pub was : lookup (is_at (nat_cmp directory)) logs ≡ Some log
  pub is : after ≡ set_value (is_at (nat_cmp directory)) logs next

-- a log with one change more, in room that it had
abbrev pub pushed_log : Log → Change → Log
pushed_log log change = record log { changes = log.changes ++ change ∷ []; room = log.room - 1 }

-- a log with room for so many changes at least
abbrev pub roomy_log : Log → ℕ → Log
roomy_log log count = record log { room = max log.room count }

-- a log without its changes below a stamp, and with this stamp as its mark at least
abbrev pub trimmed_log : Log → ℕ → Log
trimmed_log log below = record log { mark = max log.mark below; changes = filter (is_from below) log.changes }

-- A directory's log is trimmed, or it had no changes and all is as before.
abbrev pub TrimsLog : List (ℕ × Log) → ℕ → ℕ → List (ℕ × Log) → Type 0
TrimsLog logs directory below after =
    IsReplaced logs directory (log_of logs directory) (trimmed_log (log_of logs directory) below) after
    ⊎ ((after ≡ logs) × ((log_of logs directory).changes ≡ []))

-- Each directory has the log that it had, logs stand by directory as they did, and have as many changes, as many of each node, and as much room.
pub record AreEqualLogs (logs after : List (ℕ × Log)) : Type 0 where
  pub ascend : AscendByDirectory logs → AscendByDirectory after
  pub each : (directory : ℕ) → log_of after directory ≡ log_of logs directory
  pub named : (node : ℕ) → namings_in after node ≡ namings_in logs node
  pub changes : changes_count after ≡ changes_count logs
  pub room : room_count after ≡ room_count logs
