-- The laws of what an fsync has gathered, each of which a function of the module laws proves.
use Rattle.std.specs.Prelude.{◌≡◌, ◌↔◌, ℕ, Bool, true, List}
use Rattle.sfs_base.specs.declared.numbers.NodeId.{NodeId}
use Rattle.sfs_base.specs.declared.numbers.Stamp.{Stamp}
use Rattle.sfs_base.specs.Listed.{is_listed}
use Rattle.tree_laws.specs.declared.history.Entry.{Entry}
use Rattle.tree_laws.specs.Tree.{TreeState}
use Rattle.tree_laws.specs.History.{IsLegal}
use Rattle.tree_laws.specs.Laws.{IsSoundTree}
use Rattle.cut_laws.specs.Cut.{Cut}
use Rattle.cut_laws.specs.Rules.{IsOneOf}
use Rattle.cut_laws.specs.Closure.{Counts, Closure}
use Rattle.look_laws.specs.Look.{Noted, Gathers}
use Rattle.look_laws.specs.Fit.{IsTrue, KnowsEnough}
use Rattle.dep_closure.specs.declared.gathered.DirectoryChanges.{DirectoryChanges}
use Rattle.dep_closure.specs.declared.gathered.Gathered.{Gathered}
use Rattle.dep_closure.specs.Gathered.{look_of}
use Rattle.dep_closure.specs.History.{IsLogOf, HasUnflushed}

-- What was gathered of a legal history is so in it: where each log has what the history logs at stamps that count, each gathered change
-- is one of the history, with the directories above its own recorded exactly where it places a directory by a rename between two.
abbrev pub LogsAreTrue : Type 0
LogsAreTrue =
    (first : TreeState) (history : List Entry) (counts : Counts) (gathered : Gathered) (start : NodeId) (below : Stamp) → IsSoundTree first
    → IsLegal first history
    → ((log : DirectoryChanges) → IsOneOf gathered.logs.items log → IsLogOf first history counts log)
    → (noted : Noted) → IsOneOf (look_of start below gathered).noted noted → IsTrue first history counts noted

-- What has all of a legal history that counts and is not flushed is enough of it.
abbrev pub UnflushedIsEnough : Type 0
UnflushedIsEnough =
    (first : TreeState) (history : List Entry) (counts : Counts) (cut : Cut) (inodes : ℕ → Bool) (gathered : Gathered) (start : NodeId) (below : Stamp)
    → IsSoundTree first → IsLegal first history
    → HasUnflushed first history counts cut inodes gathered → KnowsEnough first history counts cut inodes (look_of start below gathered)

-- Where what was gathered is enough of a history, a list of what it gathers is the closure of the fsync in that history.
abbrev pub ListsAreClosures : Type 0
ListsAreClosures =
    (first : TreeState) (history : List Entry) (counts : Counts) (cut : Cut) (inodes : ℕ → Bool) (gathered : Gathered) (start : NodeId) (below : Stamp)
    (nodes : List ℕ)
    → KnowsEnough first history counts cut inodes (look_of start below gathered)
    → ((node : ℕ) → (is_listed nodes node ≡ true) ↔ Gathers (look_of start below gathered) node)
    → (node : ℕ) → (is_listed nodes node ≡ true) ↔ Closure first history counts cut inodes (record { node = start.0; stamp = below.0 }) node
