-- The commits of a lawful log that hold one node, as they came; each law is proved by a function of the module laws.
use Rattle.std.specs.Prelude.{◌≡◌, ◌⊎◌, ℕ, ◌<◌, ◌≤◌, true, List, length, Option, Some, is_some}
use Rattle.tree_laws.specs.Tree.{TreeState}
use Rattle.cut_laws.specs.Rules.{IsOneOf}
use Rattle.disk_nodes.specs.OldKept.{OldKept}
use Rattle.stamp_table.specs.declared.event.Event.{Event}
use Rattle.mem_values.specs.declared.fact.Fact.{Fact}
use Rattle.mem_values.specs.declared.fact.HeldNode.{HeldNode}
use Rattle.mem_values.specs.Account.{Account, Commitment, account_of, held_by, last_writer}
use Rattle.mem_values.specs.Stands.{flushed_in, IsTrimmedFor}
use Rattle.mem_values.specs.Facts.{HasFsync, IsBelowInodes, IsLawfulLog}

-- A commit is one of an account, and this is what it holds of a node.
pub record Writes (account : Account) (node : ℕ) (commit : Commitment) (held : HeldNode) : Type 0 where
  pub among : IsOneOf account.commits commit
  pub holds : held_by commit node ≡ Some held

-- No commit has written a node under a greater number, or with a greater cut, than the last one that holds it: numbers rise across cores, and
-- cuts never fall.
abbrev pub WritersRise : Type 0
WritersRise =
    (given : ℕ → Option OldKept) (first : TreeState) (log : List (Event Fact)) (node : ℕ) (commit : Commitment) (held : HeldNode)
    → IsLawfulLog given first log → Writes (account_of log) node commit held
    → (commit.number ≤ (flushed_in given (account_of log) node).last) × (held.new_cut.0 ≤ (flushed_in given (account_of log) node).cut)

-- Two commits that hold a node under one number are one, whosever they are.
abbrev pub NumbersNameWriters : Type 0
NumbersNameWriters =
    (given : ℕ → Option OldKept) (first : TreeState) (log : List (Event Fact)) (node : ℕ) (commit other : Commitment) (held theirs : HeldNode)
    → IsLawfulLog given first log → Writes (account_of log) node commit held → Writes (account_of log) node other theirs → commit.number ≡ other.number
    → commit ≡ other

-- A commit that holds a node is the last one that does, or every part was trimmed for it where it has a member.
abbrev pub EarlierWritersAreTrimmed : Type 0
EarlierWritersAreTrimmed =
    (given : ℕ → Option OldKept) (first : TreeState) (log : List (Event Fact)) (node : ℕ) (commit : Commitment) (held : HeldNode)
    → IsLawfulLog given first log → Writes (account_of log) node commit held
    → (last_writer node (account_of log).commits ≡ Some (commit, held))
    ⊎ ((member part : ℕ) → IsOneOf commit.members member → part < length first.made → IsTrimmedFor (account_of log) commit part)

-- A commit that was told is for an fsync of its core among the calls.
abbrev pub CommitsHaveFsyncs : Type 0
CommitsHaveFsyncs =
    (given : ℕ → Option OldKept) (first : TreeState) (log : List (Event Fact)) (commit : Commitment) → IsLawfulLog given first log
    → IsOneOf (account_of log).commits commit → HasFsync (account_of log).calls commit.core commit.node commit.stamp

-- Where what was given has inodes of numbers below the first tree's, so has what was flushed of each node.
abbrev pub InodesStayBelow : Type 0
InodesStayBelow =
    (given : ℕ → Option OldKept) (first : TreeState) (log : List (Event Fact)) (node : ℕ) → ((of : ℕ) → IsBelowInodes first.first (given of))
    → IsLawfulLog given first log → IsBelowInodes first.first (flushed_in given (account_of log) node).old

-- Where something was given of the root, there is something of what was flushed of it.
abbrev pub RootIsKept : Type 0
RootIsKept = (given : ℕ → Option OldKept) (first : TreeState) (log : List (Event Fact)) → is_some (given 0) ≡ true → IsLawfulLog given first log
    → is_some (flushed_in given (account_of log) 0).old ≡ true
