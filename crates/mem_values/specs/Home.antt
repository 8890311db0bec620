-- What the values stand for with which cells go home, by what their core did; each law is proved by a function of the module laws.
use Rattle.std.specs.Prelude.{◌≡◌, ◌≢◌, ◌<◌, ◌∷◌, ◌++◌, ℕ, true, List, [], length, Option, Some, None, Vec}
use Rattle.std.specs.declared.alloc.Global.{Global}
use Rattle.sfs_base.specs.declared.numbers.NodeId.{NodeId}
use Rattle.sfs_base.specs.declared.numbers.Stamp.{Stamp}
use Rattle.sfs_base.specs.declared.numbers.CoreId.{CoreId}
use Rattle.mem_files.specs.File.{mark_of}
use Rattle.tree_laws.specs.declared.history.Entry.{Entry}
use Rattle.tree_laws.specs.Tree.{TreeState, bytes_of, made_by}
use Rattle.tree_laws.specs.Lock.{needs_lock}
use Rattle.tree_laws.specs.History.{tree_after, IsLegal}
use Rattle.tree_laws.specs.NameRow.{number_of}
use Rattle.mem_cells.specs.Part.{IsAddedTo, IsTrimmed, changes_kept}
use Rattle.disk_nodes.specs.OldKept.{OldKept}
use Rattle.cut_laws.specs.Rules.{IsOneOf}
use Rattle.stamp_table.specs.declared.event.Event.{Event}
use Rattle.stamp_table.specs.declared.event.Event.TheVariants.{Called, Told}
use Rattle.stamp_table.specs.Events.{calls_in}
use Rattle.mem_values.specs.declared.fact.Fact.{Fact}
use Rattle.mem_values.specs.declared.fact.Fact.TheVariants.{Committed, Trimmed}
use Rattle.mem_values.specs.declared.fact.HeldNode.{HeldNode}
use Rattle.mem_values.specs.declared.cell.Cell.{Cell}
use Rattle.mem_values.specs.declared.cell.Cell.TheVariants as cell
use Rattle.mem_values.specs.declared.cell.TreeLock.{TreeLock}
use Rattle.mem_values.specs.declared.cell.Pending.{Pending}
use Rattle.mem_values.specs.declared.cell.PartCell.{PartCell}
use Rattle.mem_values.specs.declared.cell_id.CellId.{CellId}
use Rattle.mem_values.specs.declared.cell_id.CellId.TheVariants as id
use Rattle.mem_values.specs.Account.{Commitment, account_of, held_by}
use Rattle.mem_values.specs.Logs.{entry_logged, birthplace}
use Rattle.mem_values.specs.Stands.{Flushed, ShowsBucket, file_links, IsTrimmedFor, KeepFrom, StandsPart, StandsPending, StandsForCell}
use Rattle.mem_values.specs.Facts.{IsLawfulLog}
use Rattle.mem_values.specs.Telling.{commit_by}

-- The lock goes home with the stamp of a call that moved a directory to another one.
abbrev pub MovedLocksStand : Type 0
MovedLocksStand = (given : ℕ → Option OldKept) (first : TreeState) (log : List (Event Fact)) (entry : Entry) (lock : TreeLock)
    → needs_lock (tree_after first (calls_in log)) entry.core.0 entry.call ≡ true → lock.moved ≡ Some entry.stamp
    → StandsForCell given first (account_of (log ++ Called entry ∷ [])) id.Lock (cell.Lock lock)

-- A log goes home with what the core's entry logs behind what it had.
abbrev pub PartsTakeEntries : Type 0
PartsTakeEntries = (given : ℕ → Option OldKept) (first : TreeState) (log : List (Event Fact)) (entry : Entry) (part after : PartCell)
    → IsLegal first (calls_in (log ++ Called entry ∷ [])) → IsLawfulLog given first log → StandsPart first (account_of log) entry.core.0 part
    → IsAddedTo part.log (entry_logged (tree_after first (calls_in log)) entry) after.log
    → after.made ≡ made_by (tree_after first (calls_in (log ++ Called entry ∷ []))) entry.core.0
    → StandsPart first (account_of (log ++ Called entry ∷ [])) entry.core.0 after

-- A log that is trimmed below a commit of a member of that stands as before.
abbrev pub TrimmedPartsStand : Type 0
TrimmedPartsStand =
    (given : ℕ → Option OldKept) (first : TreeState) (log : List (Event Fact)) (core : ℕ) (commit : Commitment) (directory : ℕ) (part after : PartCell)
    → IsLawfulLog given first log → IsOneOf (account_of log).commits commit → IsOneOf commit.members directory → StandsPart first (account_of log) core part
    → IsTrimmed part.log directory commit.stamp after.log → after.made ≡ part.made → StandsPart first (account_of log) core after

-- Once it is told that it is trimmed for a commit, a log goes home that keeps no change of a member below the commit's stamp.
abbrev pub ToldPartsStand : Type 0
ToldPartsStand = (given : ℕ → Option OldKept) (first : TreeState) (log : List (Event Fact)) (commit : Commitment) (by part : CoreId) (value : PartCell)
    → IsLawfulLog given first log → IsOneOf (account_of log).commits commit → commit.core ≡ by.0 → StandsPart first (account_of log) part.0 value
    → ((directory : ℕ) → IsOneOf commit.members directory → KeepFrom commit.stamp (changes_kept value.log directory))
    → StandsPart first (account_of (log ++ Told by (Trimmed commit.number part) ∷ [])) part.0 value

-- What a commit with a member wrote of a node goes home once the last part is trimmed for the commit.
abbrev pub WrittenNodesStand : Type 0
WrittenNodesStand =
    (given : ℕ → Option OldKept) (first : TreeState) (before after : List (Event Fact)) (core part : CoreId) (number : ℕ) (node : NodeId) (stamp : Stamp)
    (members : Vec NodeId Global) (held : Vec HeldNode Global) (of member : ℕ) (what : HeldNode) (pending : Pending)
    → let commit = commit_by core.0 number node stamp members held in let log = before ++ Told core (Committed number node stamp members held) ∷ after in
    IsLawfulLog given first log → part.0 < length first.made → IsOneOf commit.members member → (IsTrimmedFor (account_of log) commit part.0 → ⊥)
    → ((other : ℕ) → other < length first.made → other ≢ part.0 → IsTrimmedFor (account_of log) commit other) → held_by commit of ≡ Some what
    → ◌≡◌ {A = Flushed} (record { cut = pending.cut.0; last = pending.last; old = pending.old })
    (record { cut = what.new_cut.0; last = number; old = what.new })
    → number_of pending.made_in ≡ birthplace first (calls_in log) of
    → StandsPending given first (account_of (log ++ Told core (Trimmed number part) ∷ [])) of pending

-- What a commit without a member wrote of a node goes home as soon as the commit is told.
abbrev pub OwnNodesStand : Type 0
OwnNodesStand =
    (given : ℕ → Option OldKept) (first : TreeState) (log : List (Event Fact)) (core : CoreId) (number : ℕ) (node : NodeId) (stamp : Stamp)
    (members : Vec NodeId Global) (held : Vec HeldNode Global) (of : ℕ) (what : HeldNode) (pending : Pending)
    → let commit = commit_by core.0 number node stamp members held in
    members.items ≡ [] → held_by commit of ≡ Some what
    → ◌≡◌ {A = Flushed} (record { cut = pending.cut.0; last = pending.last; old = pending.old })
    (record { cut = what.new_cut.0; last = number; old = what.new })
    → number_of pending.made_in ≡ birthplace first (calls_in log) of
    → StandsPending given first (account_of (log ++ Told core (Committed number node stamp members held) ∷ [])) of pending

-- What a cell begins with: no move; the rows, links and bytes of the first tree; what was given; and an empty log.
abbrev pub BeginsAs : (ℕ → Option OldKept) → TreeState → CellId → Cell → Type 0
BeginsAs given first id.Lock (cell.Lock lock) = lock.moved ≡ None
BeginsAs given first (id.Bucket node number) (cell.Bucket bucket) = ShowsBucket first node.0 number bucket.value
BeginsAs given first (id.File node) (cell.File file) =
    (file.value.links ≡ file_links first node.0) × (file.value.file.bytes ≡ bytes_of first node.0) × ((block : ℕ) → mark_of file.value.file block ≡ None)
BeginsAs given first (id.Pending node) (cell.Pending pending) =
    (◌≡◌ {A = Flushed} (record { cut = pending.value.cut.0; last = pending.value.last; old = pending.value.old })
    (record { cut = 0; last = 0; old = given node.0 }))
    × (pending.value.made_in ≡ None)
BeginsAs given first (id.Part core) (cell.Part part) = (part.value.log ≡ record { logs = []; entries = 0 }) × (part.value.made ≡ made_by first core.0)
BeginsAs given first _ _ = ⊥

-- Such a value stands for what no event leaves of its cell.
abbrev pub CellsBegin : Type 0
CellsBegin =
    (given : ℕ → Option OldKept) (first : TreeState) (which : CellId) (value : Cell) → BeginsAs given first which value
    → StandsForCell given first (account_of []) which value
