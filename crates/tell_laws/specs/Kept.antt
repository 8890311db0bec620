-- That what a core saw of a node is what those that are done left of it in a volume's words.
use Rattle.std.specs.Prelude.{◌≡◌, ℕ, Some, map}
use Rattle.disk_change.specs.AllBuilt.{after_commit}
use Rattle.commit_laws.specs.CommitOfPlan.{change_planned}
use Rattle.cut_laws.specs.Rules.{IsOneOf}
use Rattle.book_laws.specs.Pairs.{commit_under, bringing_under}
use Rattle.reserve_laws.specs.Olds.{DoneBeside, IsKeptIn, SawLeftOf}
use Rattle.mem_values.specs.Account.{Commitment, held_by}
use Rattle.mem_values.specs.Stands.{Flushed}
use Rattle.mem_values.specs.declared.fact.HeldNode.{HeldNode}
use Rattle.note_laws.specs.Run.{TableRun, IsTableRun, TellsCommit, SawNode}

-- What a run tells is what a volume's disk has: at first of each node what memory kept of it; and a told commit of one that is done wrote of each node what
-- its plan leaves of it with its grant.
pub record TellsDisk (run : TableRun) (beside : DoneBeside) : Type 0 where
  pub first : (node : ℕ) → IsKeptIn beside.entries node (run.given node)
  pub wrote : (stamp : ℕ) (told : Commitment) (node : ℕ) (held : HeldNode) → IsOneOf beside.done stamp → TellsCommit run (commit_under beside.pairs stamp) told
      → held_by told node ≡ Some held
      → IsKeptIn (after_commit (change_planned (bringing_under beside.pairs stamp).plan) (bringing_under beside.pairs stamp).grant) node held.new

-- Then what a core saw of a node is what those that are done left of it.
abbrev pub SawsAreKept : Type 0
SawsAreKept = (run : TableRun) (beside : DoneBeside) (node : ℕ) (seen : Flushed) → IsTableRun run → TellsDisk run beside
    → SawNode run (map (commit_under beside.pairs) beside.done) node seen → SawLeftOf beside node seen.old
