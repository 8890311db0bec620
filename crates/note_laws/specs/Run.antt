-- What a table's run had and told, and what a core saw of one node.
use Rattle.std.specs.Prelude.{◌≡◌, ◌↔◌, ℕ, ◌∷◌, ◌++◌, true, false, List, Option, Some, is_some, IsSome}
use Rattle.std.specs.FinMap.{get}
use Rattle.tree_laws.specs.declared.history.Entry.{Entry}
use Rattle.tree_laws.specs.History.{tree_after, IsLegal}
use Rattle.tree_laws.specs.Laws.{IsSoundTree}
use Rattle.tree_laws.specs.Tree.{TreeState, is_directory}
use Rattle.cut_laws.specs.Rules.{IsOneOf}
use Rattle.beside_laws.specs.Box.{KnewLast}
use Rattle.beside_laws.specs.Commits.{CoreCommit, commit_fsync, has_inode_behind}
use Rattle.beside_laws.specs.Progress.{IsLastOf, HasLeft}
use Rattle.disk_nodes.specs.OldKept.{OldKept}
use Rattle.stamp_table.specs.Events.{calls_in}
use Rattle.stamp_table.specs.declared.event.Event.{Event}
use Rattle.mem_values.specs.Account.{Account, Commitment, account_of, commit_told, held_by}
use Rattle.mem_values.specs.Facts.{IsLawfulLog}
use Rattle.mem_values.specs.Stands.{Flushed, flushed_in}
use Rattle.mem_values.specs.declared.fact.Fact.{Fact}
use Rattle.mem_values.specs.declared.fact.HeldNode.{HeldNode}

-- A run of a table over a file tree: what its disk had of each node, the first tree, and its log, at whose end all is known.
pub record TableRun : Type 0 where
  pub given : ℕ → Option OldKept
  pub first : TreeState
  pub log : List (Event Fact)

-- its calls
abbrev pub calls_of : TableRun → List Entry
calls_of run = calls_in run.log

-- The run is one of a table: from a sound tree, with legal calls, what was told may stand where it does, and the disk had something of exactly the nodes
-- of the first tree.
pub record IsTableRun (run : TableRun) : Type 0 where
  pub sound : IsSoundTree run.first
  pub legal : IsLegal run.first (calls_of run)
  pub lawful : IsLawfulLog run.given run.first run.log
  pub disk : (node : ℕ) → is_some (run.given node) ≡ is_some (get run.first.nodes node)

-- An event of a log tells a commit: what stood before it, the event, and what came behind it.
pub record IsToldIn (log : List (Event Fact)) (told : Commitment) : Type 0 where
  pub before : List (Event Fact)
  pub event : Event Fact
  pub rest : List (Event Fact)
  pub whole : before ++ event ∷ rest ≡ log
  pub tells : commit_told event ≡ Some told

-- What a commit wrote of a node is what its core made of what the last commit before it had left: from its cut to the lifted one, with an inode where it
-- has one then.
pub record WroteNode (given : ℕ → Option OldKept) (before : Account) (commit : CoreCommit) (node : ℕ) (held : HeldNode) : Type 0 where
  pub saw : (flushed_in given before node).cut ≡ commit.look.cut node
  pub lifted : held.new_cut.0 ≡ commit.makes.lifted node
  pub inode : is_some held.new ≡ has_inode_behind commit node

-- The run tells a commit of a core: its number, its stamp, those of its members that are directories, exactly the nodes that it holds, and what it wrote of
-- each.
pub record TellsCommit (run : TableRun) (commit : CoreCommit) (told : Commitment) : Type 0 where
  pub there : IsToldIn run.log told
  pub number : told.number ≡ commit.number
  pub stamp : told.stamp ≡ (commit_fsync commit).stamp
  pub members : (node : ℕ) → IsOneOf commit.members node → is_directory (tree_after run.first (calls_of run)) node ≡ true → IsOneOf told.members node
  pub holds : (node : ℕ) → (commit.holds node ≡ true) ↔ IsSome (held_by told node)
  pub wrote : (node : ℕ) (held : HeldNode) → held_by told node ≡ Some held → WroteNode run.given (account_of there.before) commit node held

-- It tells each of some commits.
abbrev pub AreToldIn : TableRun → List CoreCommit → Type 0
AreToldIn run commits = (commit : CoreCommit) → IsOneOf commits commit → (told : Commitment) × TellsCommit run commit told

-- What a core saw of a node is what some commits left of it: where none holds it, what the disk had at first; else what the last that does wrote.
pub data LeftSeen (run : TableRun) (done : List CoreCommit) (node : ℕ) (seen : Flushed) : Type 0 where
  nobody : ((other : CoreCommit) → IsOneOf done other → other.holds node ≡ false) → seen.cut ≡ 0 → seen.old ≡ run.given node → LeftSeen run done node seen
  somebody : (commit : CoreCommit) (told : Commitment) (held : HeldNode) → IsLastOf done node commit → TellsCommit run commit told
      → held_by told node ≡ Some held → seen.cut ≡ held.new_cut.0 → seen.old ≡ held.new → LeftSeen run done node seen

-- A core saw of a node what was flushed of it at some moment of the run, and the box found that it knew the last commit's number of those that are done,
-- each of which the run tells.
pub record SawNode (run : TableRun) (done : List CoreCommit) (node : ℕ) (seen : Flushed) : Type 0 where
  pub at : List (Event Fact)
  pub rest : List (Event Fact)
  pub whole : at ++ rest ≡ run.log
  pub saw : seen ≡ flushed_in run.given (account_of at) node
  pub told : AreToldIn run done
  pub knew : KnewLast done node seen.last

-- Then that is what those that are done have left, in the table's words and in those of commits beside commits.
abbrev pub SawsAreLeft : Type 0
SawsAreLeft = (run : TableRun) (done : List CoreCommit) (node : ℕ) (seen : Flushed) → IsTableRun run → SawNode run done node seen
    → LeftSeen run done node seen
    × HasLeft done node (is_some (get run.first.nodes node)) (record { stamp = seen.cut; inode = is_some seen.old })
