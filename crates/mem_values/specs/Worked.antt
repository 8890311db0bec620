-- A worked table of two cores with a commit each. Both make an fsync of a directory of their own. The first core's commit has as members its
-- directory and a third one, and the core tells of both logs that they are trimmed for it; the second core's, which follows the first one in
-- the third directory, has its own directory and that one.
use Rattle.std.specs.Prelude.{◌≡◌, ◌≢◌, ℕ, ◌<◌, true, List, [], ◌∷◌, length, Option, None, Vec}
use Rattle.std.specs.declared.alloc.Global.{Global}
use Rattle.sfs_base.specs.declared.numbers.NodeId.{NodeId}
use Rattle.tree_laws.specs.declared.call.Call.TheVariants as call
use Rattle.tree_laws.specs.declared.reply.Reply.TheVariants as reply
use Rattle.tree_laws.specs.declared.history.Entry.{Entry}
use Rattle.tree_laws.specs.Tree.{TreeState, is_alive, is_directory, made_by}
use Rattle.tree_laws.specs.Logged.{numbered_node}
use Rattle.mem_cells.specs.Part.{changes_kept, mark_kept}
use Rattle.disk_nodes.specs.OldKept.{OldKept}
use Rattle.stamp_table.specs.declared.event.Event.{Event}
use Rattle.stamp_table.specs.declared.event.Event.TheVariants.{Called, Told}
use Rattle.stamp_table.specs.Events.{IsLawful}
use Rattle.mem_values.specs.declared.fact.Fact.{Fact}
use Rattle.mem_values.specs.declared.fact.Fact.TheVariants.{Committed, Trimmed}
use Rattle.mem_values.specs.declared.fact.HeldNode.{HeldNode}
use Rattle.mem_values.specs.declared.cell.Pending.{Pending}
use Rattle.mem_values.specs.declared.cell.PartCell.{PartCell}
use Rattle.mem_values.specs.Account.{account_of}
use Rattle.mem_values.specs.Stands.{StandsPending, StandsPart}
use Rattle.mem_values.specs.Facts.{IsBelowInodes, KeepsRoot, IsLawfulLog}

-- an fsync that a core stamps
abbrev pub worked_fsync : ℕ → ℕ → ℕ → Entry
worked_fsync stamp core node =
    record { stamp = record { 0 = stamp }; core = record { 0 = core }; call = call.Fsync (numbered_node node); reply = reply.NoMemory; ack = None }

-- What a commit of the table tells: its directory, its members, what it holds, and what the disk has then of its directory and of the third one.
pub record WorkedCommit : Type 0 where
  pub own : ℕ
  pub members : Vec NodeId Global
  pub held : Vec HeldNode Global
  pub new : Option OldKept
  pub new_third : Option OldKept

-- The members are the commit's directory and the third one, and it holds both, each with this cut and one of the inodes or none, the root with one.
pub record IsWorkedCommit (inodes third cut : ℕ) (commit : WorkedCommit) : Type 0 where
  pub members_are : commit.members.items ≡ numbered_node commit.own ∷ numbered_node third ∷ []
  pub held_are : commit.held.items
      ≡ record { node = numbered_node commit.own; new_cut = record { 0 = cut }; new = commit.new }
      ∷ record { node = numbered_node third; new_cut = record { 0 = cut }; new = commit.new_third }
      ∷ []
  pub inode_is : IsBelowInodes inodes commit.new
  pub third_inode_is : IsBelowInodes inodes commit.new_third
  pub root : KeepsRoot commit.own commit.new
  pub third_root : KeepsRoot third commit.new_third

-- what a core tells of its commit: its number, and its stamp
abbrev pub worked_commit : ℕ → ℕ → WorkedCommit → Fact
worked_commit number stamp commit = Committed number (numbered_node commit.own) (record { 0 = stamp }) commit.members commit.held

-- the log of the table, by both commits
abbrev pub worked_log : WorkedCommit → WorkedCommit → List (Event Fact)
worked_log one two =
    Called (worked_fsync 0 0 one.own)
    ∷ Called (worked_fsync 1 1 two.own)
    ∷ Told (record { 0 = 0 }) (worked_commit 1 0 one)
    ∷ Told (record { 0 = 0 }) (Trimmed 1 (record { 0 = 0 }))
    ∷ Told (record { 0 = 0 }) (Trimmed 1 (record { 0 = 1 }))
    ∷ Told (record { 0 = 1 }) (worked_commit 2 1 two)
    ∷ Told (record { 0 = 1 }) (Trimmed 2 (record { 0 = 0 }))
    ∷ Told (record { 0 = 1 }) (Trimmed 2 (record { 0 = 1 }))
    ∷ []

-- a log that has no changes, a mark of the third directory, and one entry, of a core that made no node
pub record IsWorkedPart (first : TreeState) (core third : ℕ) (part : PartCell) : Type 0 where
  pub changes : (directory : ℕ) → changes_kept part.log directory ≡ []
  pub third_mark : mark_kept part.log third ≡ 1
  pub other_marks : (directory : ℕ) → (directory ≡ third → ⊥) → mark_kept part.log directory ≡ 0
  pub entries : part.log.entries ≡ 1
  pub made : part.made ≡ made_by first core

-- what a commit of this number wrote of a directory, with the number as its cut
pub record IsWorkedPending (pending : Pending) (number : ℕ) (new : Option OldKept) : Type 0 where
  pub cut : pending.cut.0 ≡ number
  pub last : pending.last ≡ number
  pub made_in : pending.made_in ≡ None
  pub old : pending.old ≡ new

-- Three directories of a tree of two cores, two of which are alive.
pub record AreWorkedNodes (first : TreeState) (one two third : ℕ) : Type 0 where
  pub cores : length first.made ≡ 2
  pub one_lives : is_alive first one ≡ true
  pub two_lives : is_alive first two ≡ true
  pub one_is : is_directory first one ≡ true
  pub two_is : is_directory first two ≡ true
  pub third_is : is_directory first third ≡ true
  pub apart : (one ≢ two) × ((one ≢ third) × (two ≢ third))

-- What the worked table comes to: its log is lawful; what the first commit wrote of its directory goes home, what the second one wrote of its
-- own and of the third one does, and so do both logs.
pub record IsWorkedTable (given : ℕ → Option OldKept) (first : TreeState) (third : ℕ) (one two : WorkedCommit) (log : List (Event Fact)) : Type 0 where
  pub lawful : IsLawful (IsLawfulLog given) first log
  pub one_home : (pending : Pending) → IsWorkedPending pending 1 one.new → StandsPending given first (account_of log) one.own pending
  pub two_home : (pending : Pending) → IsWorkedPending pending 2 two.new → StandsPending given first (account_of log) two.own pending
  pub third_home : (pending : Pending) → IsWorkedPending pending 2 two.new_third → StandsPending given first (account_of log) third pending
  pub parts_home : (core : ℕ) (part : PartCell) → core < 2 → IsWorkedPart first core third part → StandsPart first (account_of log) core part

-- In each tree with two cores and three directories the worked table can be met.
abbrev pub TablesCanBeMet : Type 0
TablesCanBeMet =
    (given : ℕ → Option OldKept) (first : TreeState) (third : ℕ) (one two : WorkedCommit) → AreWorkedNodes first one.own two.own third
    → IsWorkedCommit first.first third 1 one → IsWorkedCommit first.first third 2 two → IsWorkedTable given first third one two (worked_log one two)
