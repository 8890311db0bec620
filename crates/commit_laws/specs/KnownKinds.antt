-- That a commit knows which of its nodes are directories.
use Rattle.std.specs.Prelude.{◌≡◌, ◌⊎◌, ℕ, true, List, Option, Some, Contains}
use Rattle.tree_laws.specs.NameRow.{number_of}
use Rattle.tree_laws.specs.Tree.{TreeState, is_directory}
use Rattle.absorb.specs.declared.nets.NetRow.{NetRow}
use Rattle.disk_change.specs.Directory.{is_among}
use Rattle.disk_change.specs.declared.directory_net.DirectoryNet.{DirectoryNet}

-- A row of a net names a node, before the net or after it.
pub record IsNetChild (net : List NetRow) (node : ℕ) : Type 0 where
  pub row : NetRow
  pub one : Contains net row
  pub names : (number_of row.before ≡ Some node) ⊎ (number_of row.after ≡ Some node)

-- These are directories exactly where a tree has them as such, of the children that a net names.
abbrev pub KnowsChildren : List ℕ → TreeState → List NetRow → Type 0
KnowsChildren directories tree net = (node : ℕ) → IsNetChild net node → is_among directories node ≡ is_directory tree node

-- These are directories exactly where a tree has them as such, of the children that nets name; and each net is that of a directory.
pub record KnowsDirectories (directories : List ℕ) (tree : TreeState) (nets : List DirectoryNet) : Type 0 where
  pub children : (one : DirectoryNet) → Contains nets one → KnowsChildren directories tree one.net.items
  pub holders : (one : DirectoryNet) → Contains nets one → is_directory tree one.node.0 ≡ true

-- Two numberings agree on the children that a net names.
abbrev pub NumbersChildren : (ℕ → Option ℕ) → (ℕ → Option ℕ) → List NetRow → Type 0
NumbersChildren numbers num net = (node : ℕ) → IsNetChild net node → numbers node ≡ num node
