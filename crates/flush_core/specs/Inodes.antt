-- Which nodes have an inode after an fsync, by what is found at its raised cut.
use Rattle.std.specs.Prelude.{◌≡◌, ◌≢◌, ◌⊎◌, ℕ, ◌↔◌, Bool, true, false}
use Rattle.tree_laws.specs.Tree.{is_directory}
use Rattle.flush_core.specs.declared.past.Past.{Past}
use Rattle.flush_core.specs.declared.sets.NodeSet.{NodeSet}
use Rattle.cut_laws.specs.Cut.{Cut}
use Rattle.flush_core.specs.Engine.{IsNaming}
use Rattle.flush_core.specs.NodeSets.{has_node}

-- A node without an inode gets one: a row names it, or it is the fsync's own file and has a naming that is not flushed.
abbrev pub GetsInode : Past → Cut → NodeSet → ℕ → ℕ → Type 0
GetsInode past raised named own node =
    (has_node named node ≡ true) ⊎ ((node ≡ own) × (is_directory past.tree node ≡ false) × IsNaming past.changes.items raised node)

-- A node with an inode loses it: it is not the root, no row names it, and it has no naming that is not flushed.
pub record LosesInode (past : Past) (raised : Cut) (named : NodeSet) (node : ℕ) : Type 0 where
  pub no_root : node ≢ 0
  pub unnamed : has_node named node ≡ false
  pub flushed : IsNaming past.changes.items raised node → ⊥

-- Whether a concerned node has an inode after an fsync.
pub record Settles (past : Past) (raised : Cut) (inodes named : NodeSet) (own node : ℕ) (after : Bool) : Type 0 where
  pub enters : has_node inodes node ≡ false → (after ≡ true) ↔ GetsInode past raised named own node
  pub leaves : has_node inodes node ≡ true → (after ≡ false) ↔ LosesInode past raised named node
