-- What an fsync goes by, made of what it has gathered.
use Rattle.std.specs.Prelude.{◌≡◌, ℕ, ◌≤◌, ◌==◌, List, [], map, filter, flat_map, option_map, max, All, if◌then◌else◌}
use Rattle.std.specs.Option.{unwrap_or, option_map_or}
use Rattle.std.specs.List.{find}
use Rattle.std.specs.List.Sorted.{IsStrictlyIncreasing}
use Rattle.sfs_base.specs.declared.numbers.NodeId.{NodeId}
use Rattle.sfs_base.specs.declared.numbers.Stamp.{Stamp}
use Rattle.sfs_base.specs.Listed.{is_listed}
use Rattle.tree_laws.specs.declared.changes.Change.{Change}
use Rattle.tree_laws.specs.Logged.{erased}
use Rattle.tree_laws.specs.NameRow.{node_number}
use Rattle.mem_cells.specs.Log.{IsInOrder}
use Rattle.cut_laws.specs.Rules.{IsOneOf}
use Rattle.look_laws.specs.Look.{Noted, Born, Look}
use Rattle.dep_closure.specs.declared.gathered.DirectoryChanges.{DirectoryChanges}
use Rattle.dep_closure.specs.declared.gathered.NodeCut.{NodeCut}
use Rattle.dep_closure.specs.declared.gathered.NodeBirth.{NodeBirth}
use Rattle.dep_closure.specs.declared.gathered.Gathered.{Gathered}
use Rattle.dep_closure.specs.Spans.{is_of_stamp, is_in_span}

-- the directory of a log
abbrev pub log_directory : DirectoryChanges → ℕ
log_directory log = log.dir.0

-- the node of a cut
abbrev pub cut_node : NodeCut → ℕ
cut_node one = one.node.0

-- the node of a birth
abbrev pub birth_node : NodeBirth → ℕ
birth_node birth = birth.node.0

-- the stamp in a node's cut, 0 for a node that is not in the list
abbrev pub cut_in : List NodeCut → ℕ → ℕ
cut_in cuts node = unwrap_or (option_map (λ one. one.cut.0) (find (λ one. cut_node one == node) cuts)) 0

-- the same, where the cuts of some nodes are lifted to a stamp at least
abbrev pub lifted_cut : List NodeCut → List ℕ → ℕ → ℕ → ℕ
lifted_cut cuts lifted to node = if is_listed lifted node then max (cut_in cuts node) to else cut_in cuts node

-- the changes that were gathered of a directory, none where it has no log
abbrev pub logged_changes : List DirectoryChanges → ℕ → List Change
logged_changes logs node = option_map_or (λ log. log.changes.items) (find (λ log. log_directory log == node) logs) []

-- the changes in a node's span: those of its log from its cut to below a stamp
abbrev pub span_in : Gathered → Stamp → ℕ → List Change
span_in gathered below node = filter (is_in_span (cut_in gathered.cuts.items node) below.0) (logged_changes gathered.logs.items node)

-- A directory's change as it was gathered: as a change of a row, by the changes that the directory has at its stamp, and with the
-- directories that are recorded with it.
abbrev pub noted_as : List Change → Change → Noted
noted_as changes change = record { change = erased (filter (is_of_stamp change.stamp.0) changes) change; above = change.above }

-- the changes of a log as they were gathered
abbrev pub noted_in : DirectoryChanges → List Noted
noted_in log = map (noted_as log.changes.items) log.changes.items

-- a birth as it was gathered
abbrev pub born_as : NodeBirth → Born
born_as birth = record { node = birth.node.0; directory = birth.dir.0 }

-- what an fsync of a node at a stamp goes by
abbrev pub look_of : NodeId → Stamp → Gathered → Look
look_of start below gathered = record {
  flush = record { node = start.0; stamp = below.0 };
  cut = cut_in gathered.cuts.items;
  inodes = is_listed (map node_number gathered.inodes.items);
  born = map born_as gathered.births.items;
  noted = flat_map noted_in gathered.logs.items;
}

-- A change of a log names a node and does not lie below the directory's stamp in a cut.
pub record IsNamedByLog (cut : ℕ → ℕ) (log : DirectoryChanges) (node : ℕ) : Type 0 where
  pub change : Change
  pub is_logged : IsOneOf log.changes.items change
  pub child : change.child.0 ≡ node
  pub unflushed : cut log.dir.0 ≤ change.stamp.0

-- A log has changes of its own directory alone, by their stamps, and within one stamp removals before additions.
pub record IsOwnLog (log : DirectoryChanges) : Type 0 where
  pub own : All (λ change. change.dir.0 ≡ log.dir.0) log.changes.items
  pub in_order : IsInOrder log.changes.items

-- What was gathered stands in order: each list ascends by node, and each log is one of its directory.
pub record IsOrderly (gathered : Gathered) : Type 0 where
  pub logs : IsStrictlyIncreasing (map log_directory gathered.logs.items)
  pub cuts : IsStrictlyIncreasing (map cut_node gathered.cuts.items)
  pub births : IsStrictlyIncreasing (map birth_node gathered.births.items)
  pub inodes : IsStrictlyIncreasing (map node_number gathered.inodes.items)
  pub own_logs : All IsOwnLog gathered.logs.items
