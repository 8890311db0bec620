-- What the value of each cell stands for.
use Rattle.std.specs.Prelude.{◌≡◌, ◌⊎◌, ◌<◌, ◌≤◌, if◌then◌else◌, ℕ, List, length, filter, Option, Some, None, option_map, All}
use Rattle.std.specs.FinMap.{get}
use Rattle.mem_files.specs.File.{mark_of}
use Rattle.tree_laws.specs.declared.history.Entry.{Entry}
use Rattle.tree_laws.specs.Tree.{TreeState, is_directory, count_of, bytes_of, made_by, bucket_rows}
use Rattle.tree_laws.specs.Lock.{stands_of}
use Rattle.tree_laws.specs.History.{tree_after}
use Rattle.tree_laws.specs.Merged.{is_core}
use Rattle.tree_laws.specs.NameRow.{number_of}
use Rattle.tree_laws.specs.declared.changes.Change.{Change}
use Rattle.mem_cells.specs.Laws.{IsLeftOf}
use Rattle.mem_cells.specs.Part.{CoreLog, changes_kept, mark_kept}
use Rattle.disk_nodes.specs.OldKept.{OldKept}
use Rattle.cut_laws.specs.Rules.{IsOneOf}
use Rattle.stamp_table.specs.declared.event.Event.{Event}
use Rattle.mem_values.specs.declared.fact.Fact.{Fact}
use Rattle.mem_values.specs.declared.fact.HeldNode.{HeldNode}
use Rattle.mem_values.specs.declared.cell.Cell.{Cell}
use Rattle.mem_values.specs.declared.cell.Cell.TheVariants as cell
use Rattle.mem_values.specs.declared.cell.FileCell.{FileCell}
use Rattle.mem_values.specs.declared.cell.Pending.{Pending}
use Rattle.mem_values.specs.declared.cell.PartCell.{PartCell}
use Rattle.mem_values.specs.declared.cell_id.CellId.{CellId}
use Rattle.mem_values.specs.declared.cell_id.CellId.TheVariants as id
use Rattle.mem_values.specs.declared.bucket.Bucket.{Bucket}
use Rattle.mem_values.specs.Places.{node_count, cell_place, IsCell}
use Rattle.mem_values.specs.Account.{Account, Commitment, account_of, held_by, last_writer}
use Rattle.mem_values.specs.Logs.{own_logged, last_move, last_touch, birthplace}

-- the child of a row, where it is a directory
abbrev pub if_directory : TreeState → Option ℕ → Option ℕ
if_directory tree None = None
if_directory tree (Some child) = if is_directory tree child then Some child else None

-- A bucket shows its rows of a directory of the tree, which of them name directories, and where the directory stands.
pub record ShowsBucket (tree : TreeState) (directory number : ℕ) (bucket : Bucket) : Type 0 where
  pub rows : bucket.rows ≡ bucket_rows directory number tree.rows
  pub directories : (name : List ℕ) → get bucket.directories name ≡ if_directory tree (get (bucket_rows directory number tree.rows) name)
  pub stands : number_of bucket.stands ≡ stands_of tree directory

-- how many rows name a file, and 0 for a directory
abbrev pub file_links : TreeState → ℕ → ℕ
file_links tree node = if is_directory tree node then 0 else count_of tree.rows node

-- A file's value has its links and its bytes, and of each block the stamp of the last call that touched it as its mark.
pub record StandsFile (first : TreeState) (calls : List Entry) (node : ℕ) (file : FileCell) : Type 0 where
  pub links : file.links ≡ file_links (tree_after first calls) node
  pub bytes : file.file.bytes ≡ bytes_of (tree_after first calls) node
  pub marks : (block : ℕ) → mark_of file.file block ≡ last_touch first None calls node block

-- what was flushed of a node: its cut, the number of its last commit, and what the disk has of it
pub record Flushed : Type 0 where
  pub cut : ℕ
  pub last : ℕ
  pub old : Option OldKept

-- what the last writer left; where there is none, the disk has what was given at the table's begin
abbrev pub flushed_by : (ℕ → Option OldKept) → ℕ → Option (Commitment × HeldNode) → Flushed
flushed_by given node None = record { cut = 0; last = 0; old = given node }
flushed_by given node (Some writer) = record { cut = writer.1.new_cut.0; last = writer.0.number; old = writer.1.new }

-- the core of a commit has trimmed a part for it
abbrev pub IsTrimmedFor : Account → Commitment → ℕ → Type 0
IsTrimmedFor account commit part = IsOneOf account.trimmings (record { core = commit.core; number = commit.number; part = part })

-- what was flushed of a node, after all commits so far
abbrev pub flushed_in : (ℕ → Option OldKept) → Account → ℕ → Flushed
flushed_in given account node = flushed_by given node (last_writer node account.commits)

-- Every part is trimmed for the last commit that holds a node, where that commit has a member.
abbrev pub AreTrimmedFor : TreeState → Account → ℕ → Type 0
AreTrimmedFor first account node =
    (writer : Commitment × HeldNode) (member : ℕ) → last_writer node account.commits ≡ Some writer → IsOneOf writer.0.members member → (part : ℕ)
    → part < length first.made → IsTrimmedFor account writer.0 part

-- What was flushed of a node stands for what its last commit wrote: at once where that has no member, else once every part is trimmed for it.
pub record StandsPending (given : ℕ → Option OldKept) (first : TreeState) (account : Account) (node : ℕ) (pending : Pending) : Type 0 where
  pub flushed : ◌≡◌ {A = Flushed} (record { cut = pending.cut.0; last = pending.last; old = pending.old })
      (flushed_in given account node)
  pub made_in : number_of pending.made_in ≡ birthplace first account.calls node
  pub trimmed : AreTrimmedFor first account node

-- A mark of a directory is 0, or at most a cut that a commit wrote for it.
abbrev pub IsCapped : Account → ℕ → ℕ → Type 0
IsCapped account directory mark =
    (mark ≡ 0) ⊎ ((commit : Commitment) × (held : HeldNode) × IsOneOf account.commits commit × (held_by commit directory ≡ Some held) × (mark ≤ held.new_cut.0))

-- Changes have a stamp at least.
abbrev pub KeepFrom : ℕ → List Change → Type 0
KeepFrom stamp changes = All (λ change. stamp ≤ change.stamp.0) changes

-- What a log keeps, as commits trimmed it: no mark is above a cut that was written for its directory, and of a member of a commit for which
-- the part is trimmed it keeps no change below the commit's stamp.
pub record IsKeptFor (account : Account) (part : ℕ) (log : CoreLog) : Type 0 where
  pub capped : (directory : ℕ) → IsCapped account directory (mark_kept log directory)
  pub trimmed : (commit : Commitment) (directory : ℕ) → IsOneOf account.commits commit → IsTrimmedFor account commit part → IsOneOf commit.members directory
      → KeepFrom commit.stamp (changes_kept log directory)

-- A part has what is left of its core's changes, their count, and how many nodes the core has made.
pub record StandsPart (first : TreeState) (account : Account) (core : ℕ) (part : PartCell) : Type 0 where
  pub left : IsLeftOf (own_logged first core account.calls) (length (filter (is_core core) account.calls)) part.log
  pub made : part.made ≡ made_by (tree_after first account.calls) core
  pub kept : IsKeptFor account core part.log

-- A value stands for what a log leaves of a cell.
abbrev pub StandsForCell : (ℕ → Option OldKept) → TreeState → Account → CellId → Cell → Type 0
StandsForCell given first account id.Lock (cell.Lock lock) = option_map (λ stamp. stamp.0) lock.moved ≡ last_move first None account.calls
StandsForCell given first account (id.Bucket node number) (cell.Bucket bucket) = ShowsBucket (tree_after first account.calls) node.0 number bucket.value
StandsForCell given first account (id.File node) (cell.File file) = StandsFile first account.calls node.0 file.value
StandsForCell given first account (id.Pending node) (cell.Pending pending) = StandsPending given first account node.0 pending.value
StandsForCell given first account (id.Part core) (cell.Part part) = StandsPart first account core.0 part.value
StandsForCell given first account _ _ = ⊥

-- a value stands for what a log leaves of the cell that lies at a place; where none does it is any value
abbrev pub StandsAt : (ℕ → Option OldKept) → TreeState → List (Event Fact) → ℕ → Cell → Type 0
StandsAt given first log place value =
    (id : CellId) → IsCell (node_count first) (length first.made) id → cell_place (node_count first) id ≡ place
    → StandsForCell given first (account_of log) id value
