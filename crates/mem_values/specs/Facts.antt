-- When what a core tells may stand in a log, by what the log has before it.
use Rattle.std.specs.Prelude.{◌≡◌, ◌<◌, ◌≤◌, ◌∷◌, ◌++◌, ℕ, List, [], length, map, true, Option, Some, IsSome, is_some}
use Rattle.std.specs.FinMap.{get}
use Rattle.tree_laws.specs.declared.call.Call.TheVariants as call
use Rattle.tree_laws.specs.declared.reply.Reply.TheVariants as reply
use Rattle.tree_laws.specs.declared.history.Entry.{Entry}
use Rattle.tree_laws.specs.Tree.{TreeState, is_directory}
use Rattle.tree_laws.specs.History.{tree_after}
use Rattle.tree_laws.specs.NameRow.{node_number}
use Rattle.disk_nodes.specs.OldKept.{OldKept}
use Rattle.cut_laws.specs.Rules.{IsOneOf}
use Rattle.stamp_table.specs.declared.event.Event.{Event}
use Rattle.stamp_table.specs.declared.event.Event.TheVariants.{Called, Told}
use Rattle.mem_values.specs.declared.fact.Fact.{Fact}
use Rattle.mem_values.specs.declared.fact.Fact.TheVariants.{Committed, Trimmed}
use Rattle.mem_values.specs.declared.fact.HeldNode.{HeldNode}
use Rattle.mem_values.specs.Account.{Account, Commitment, account_of, held_by}
use Rattle.mem_values.specs.Stands.{flushed_in, AreTrimmedFor}

-- A core has an fsync of a live node with this stamp among some calls, as it was stamped: it waits for its answer.
pub record HasFsync (calls : List Entry) (core node stamp : ℕ) : Type 0 where
  pub entry : Entry
  pub among : IsOneOf calls entry
  pub own : entry.core.0 ≡ core
  pub stamped : entry.stamp.0 ≡ stamp
  pub fsync : entry.call ≡ call.Fsync (record { 0 = node })
  pub waits : entry.reply ≡ reply.NoMemory

-- what the disk has of a node, if anything, is the inode of a number below these
abbrev pub IsBelowInodes : ℕ → Option OldKept → Type 0
IsBelowInodes inodes old = (kept : OldKept) → old ≡ Some kept → kept.number < inodes

-- Of the root the disk goes on to have something.
abbrev pub KeepsRoot : ℕ → Option OldKept → Type 0
KeepsRoot node new = node ≡ 0 → is_some new ≡ true

-- A commit may hold a node of the tree: every part was trimmed for the last commit before it where it had to be, its number is greater than
-- that one's, and the cut that it writes is not below that one's, nor above the calls so far; of a directory that is no member it stays. What the
-- disk has of the node then is one of the inodes, which are as many as the first tree has numbers, and of the root it is one.
pub record MayHoldNode (given : ℕ → Option OldKept) (first : TreeState) (account : Account) (commit : Commitment) (held : HeldNode) : Type 0 where
  pub node : IsSome (get (tree_after first account.calls).nodes held.node.0)
  pub trimmed : AreTrimmedFor first account held.node.0
  pub later : (flushed_in given account held.node.0).last < commit.number
  pub rises : (flushed_in given account held.node.0).cut ≤ held.new_cut.0
  pub within : held.new_cut.0 ≤ length account.calls
  pub stays : is_directory (tree_after first account.calls) held.node.0 ≡ true → (IsOneOf commit.members held.node.0 → ⊥)
      → held.new_cut.0 ≡ (flushed_in given account held.node.0).cut
  pub below : IsBelowInodes first.first held.new
  pub root : KeepsRoot held.node.0 held.new

-- a commit holds a directory, and writes a cut for it that is not below the stamp
abbrev pub RaisesMember : Commitment → ℕ → Type 0
RaisesMember commit directory = (held : HeldNode) × (held_by commit directory ≡ Some held) × (commit.stamp ≤ held.new_cut.0)

-- A commit may come: it is for an fsync of its core that waits, and the core has no commit of this number yet; it may hold each of its nodes;
-- and its members are directories that it holds, whose cuts it raises to its stamp at least.
pub record MayBeCommitted (given : ℕ → Option OldKept) (first : TreeState) (account : Account) (commit : Commitment) : Type 0 where
  pub own : HasFsync account.calls commit.core commit.node commit.stamp
  pub fresh : (other : Commitment) → IsOneOf account.commits other → other.core ≡ commit.core → other.number ≡ commit.number → ⊥
  pub holds : (held : HeldNode) → IsOneOf commit.held held → MayHoldNode given first account commit held
  pub raises : (directory : ℕ) → IsOneOf commit.members directory → RaisesMember commit directory
  pub directories : (directory : ℕ) → IsOneOf commit.members directory → is_directory (tree_after first account.calls) directory ≡ true

-- A part may be trimmed for a commit that the core has told.
pub record MayBeTrimmed (account : Account) (core number : ℕ) : Type 0 where
  pub commit : Commitment
  pub among : IsOneOf account.commits commit
  pub own : commit.core ≡ core
  pub numbered : commit.number ≡ number

-- what a core tells may stand behind a log
abbrev pub MayBeToldAfter : (ℕ → Option OldKept) → TreeState → Account → ℕ → Fact → Type 0
MayBeToldAfter given first account core (Committed number node stamp members held) =
    MayBeCommitted given first account (record {
      core = core;
      number = number;
      node = node.0;
      stamp = stamp.0;
      members = map node_number members.items;
      held = held.items;
    })
MayBeToldAfter given first account core (Trimmed number part) = MayBeTrimmed account core number

-- an event may stand behind a log: a call always
abbrev pub MayStandAfter : (ℕ → Option OldKept) → TreeState → Account → Event Fact → Type 0
MayStandAfter given first account (Called entry) = Unit {0}
MayStandAfter given first account (Told core fact) = MayBeToldAfter given first account core.0 fact

-- each event of a log may stand behind those before it, and behind these others
abbrev pub AreLawfulBehind : (ℕ → Option OldKept) → TreeState → List (Event Fact) → List (Event Fact) → Type 0
AreLawfulBehind given first before [] = Unit {0}
AreLawfulBehind given first before (event ∷ log) = MayStandAfter given first (account_of before) event × AreLawfulBehind given first (before ++ event ∷ []) log

-- What was told in a log may stand where it does.
abbrev pub IsLawfulLog : (ℕ → Option OldKept) → TreeState → List (Event Fact) → Type 0
IsLawfulLog given first log = AreLawfulBehind given first [] log
