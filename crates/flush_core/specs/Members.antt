-- The members of an fsync as sets.
use Rattle.std.specs.Prelude.{◌≡◌, ℕ, ◌↔◌, true, List}
use Rattle.tree_laws.specs.declared.history.Entry.{Entry}
use Rattle.tree_laws.specs.Tree.{TreeState}
use Rattle.flush_core.specs.declared.sets.NodeSet.{NodeSet}
use Rattle.cut_laws.specs.Cut.{Cut}
use Rattle.flush_core.specs.NodeSets.{has_node}
use Rattle.cut_laws.specs.Closure.{every_entry, Flush, Closure, IsConcerned}

-- A set is the closure of an fsync.
abbrev pub AreMembers : TreeState → List Entry → Cut → NodeSet → Flush → NodeSet → Type 0
AreMembers first history cut inodes flush members =
    (node : ℕ) → (has_node members node ≡ true) ↔ Closure first history every_entry cut (has_node inodes) flush node

-- A set is the nodes that an fsync concerns.
abbrev pub AreConcerned : TreeState → List Entry → Cut → NodeSet → Flush → NodeSet → Type 0
AreConcerned first history cut inodes flush concerned =
    (node : ℕ) → (has_node concerned node ≡ true) ↔ IsConcerned first history every_entry cut (has_node inodes) flush node
