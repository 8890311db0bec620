-- Which of the touched nodes get an inode, and which lose theirs.
use Rattle.std.specs.Prelude.{◌≡◌, ◌↔◌, ℕ, ◌==◌, ◌&&◌, ◌||◌, not, Bool, true, List, map, if◌then◌else◌}
use Rattle.std.specs.BTreeMap.{get}
use Rattle.std.specs.BTreeSet.{contains}
use Rattle.std.specs.Option.{unwrap_or}
use Rattle.std.specs.Ordering.{nat_cmp}
use Rattle.sfs_base.specs.declared.numbers.Kind.{Kind}
use Rattle.sfs_base.specs.declared.numbers.Kind.TheVariants.{File, Directory}
use Rattle.sfs_base.specs.declared.numbers.NodeId.{NodeId}
use Rattle.sfs_base.specs.declared.numbers.Stamp.{Stamp}
use Rattle.sfs_base.specs.Listed.{is_listed}
use Rattle.tree_laws.specs.NameRow.{node_number}
use Rattle.tree_laws.specs.declared.changes.Change.{Change}
use Rattle.look_laws.specs.Look.{SeesNaming}
use Rattle.look_laws.specs.Made.{Found}
use Rattle.dep_closure.specs.declared.gathered.Gathered.{Gathered}
use Rattle.dep_closure.specs.Gathered.{look_of, lifted_cut}
use Rattle.disk_change.specs.declared.directory_net.DirectoryNet.{DirectoryNet}
use Rattle.disk_change.specs.declared.enter.Enter.{Enter}
use Rattle.disk_nodes.specs.declared.old.OldEntry.{OldEntry}
use Rattle.flush_plan.specs.declared.concern.Concern.{Concern}
use Rattle.flush_plan.specs.declared.facts.Facts.{Facts}
use Rattle.flush_plan.specs.Kinds.{kind_told, spans_in}
use Rattle.flush_plan.specs.Names.{is_named_after}

-- the stamps that the fsync leaves: those of the members are its own at least
abbrev pub cuts_after : Stamp → Gathered → Concern → ℕ → ℕ
cuts_after below gathered concern = lifted_cut gathered.cuts.items (map node_number concern.members.items) below.0

-- what is found of nodes: whether they are named at the new cuts, and whether the fsync's own node is a directory
abbrev pub found_by : List OldEntry → List DirectoryNet → Bool → Found
found_by old nets is_file = record { named = is_named_after old nets; directory = not is_file }

-- the kind of the fsync's own node, by whether it is a file
abbrev pub kind_of_own_node : Bool → Kind
kind_of_own_node is_file = if is_file then File else Directory

-- the kind of a node that gets an inode: the fsync's own, or what the changes in the spans of members tell, a directory's where they tell nothing
abbrev pub kind_entering : NodeId → Bool → List Change → ℕ → Kind
kind_entering start is_file changes node = if node == start.0 then kind_of_own_node is_file else unwrap_or (kind_told changes node) Directory

-- What is known of the nodes that an fsync touches once its members' cuts are lifted: which are named, which have a naming that is not
-- flushed, and which kinds the changes tell.
pub record AreFacts (below : Stamp) (gathered : Gathered) (concern : Concern) (old : List OldEntry) (facts : Facts) : Type 0 where
  pub named : (node : ℕ) → is_listed (map node_number concern.nodes.items) node ≡ true
      → contains nat_cmp facts.named node ≡ is_named_after old concern.nets.items node
  pub unflushed : (start : NodeId) (late : Stamp) (node : ℕ)
      → (contains nat_cmp facts.unflushed node ≡ true) ↔ SeesNaming (look_of start late gathered) (cuts_after below gathered concern) node
  pub kinds : (node : ℕ) → get nat_cmp facts.kinds node ≡ kind_told (spans_in gathered below concern.members.items) node

-- whether a node gets an inode, by the facts: it has none, and is named, or it is the fsync's own file and has a naming that is not flushed
abbrev pub gets_inode : NodeId → Bool → Gathered → Facts → ℕ → Bool
gets_inode start is_file gathered facts node =
    not (is_listed (map node_number gathered.inodes.items) node)
    && (contains nat_cmp facts.named node || (node == start.0 && is_file && contains nat_cmp facts.unflushed node))

-- whether a node loses its inode: it has one, is not the root, is not named, and has no naming that is not flushed
abbrev pub loses_inode : Gathered → Facts → ℕ → Bool
loses_inode gathered facts node =
    is_listed (map node_number gathered.inodes.items) node
    && not (node == 0) && not (contains nat_cmp facts.named node) && not (contains nat_cmp facts.unflushed node)

-- a node that gets an inode, with its kind by the facts
abbrev pub enter_by : NodeId → Bool → Facts → NodeId → Enter
enter_by start is_file facts node =
    record { node = node; kind = if node.0 == start.0 then kind_of_own_node is_file else unwrap_or (get nat_cmp facts.kinds node.0) Directory }
