-- How such a copy grows, directory by directory.
use Rattle.std.specs.Prelude.{◌≡◌, ℕ, ◌+◌, ◌≤◌, ◌==◌, Bool, false, List, [], length, map, All, if◌then◌else◌}
use Rattle.sfs_base.specs.declared.numbers.NodeId.{NodeId}
use Rattle.sfs_base.specs.Listed.{is_listed}
use Rattle.tree_laws.specs.NameRow.{node_number}
use Rattle.mem_cells.specs.Part.{CoreLog, changes_kept, AscendByDirectory}
use Rattle.mem_cells.specs.Named.{namings_kept}
use Rattle.log_copy.specs.Copies.{is_one_of}

-- A copy gets the changes that a log keeps of a directory, and of all others it has what it had; it counts one entry more at most.
pub record GetsDirectory (log : CoreLog) (directory : ℕ) (before after : CoreLog) : Type 0 where
  pub changes : (other : ℕ) → changes_kept after other ≡ (if other == directory then changes_kept log other else changes_kept before other)
  pub entries : after.entries ≤ before.entries + 1

-- A copy has the changes that a log keeps of some directories, and no others; it counts no more entries than these.
pub record HasDirectories (log : CoreLog) (directories : List NodeId) (copy : CoreLog) : Type 0 where
  pub changes : (directory : ℕ) → changes_kept copy directory ≡ (if is_one_of directories directory then changes_kept log directory else [])
  pub entries : copy.entries ≤ length directories

-- A log keeps no more changes that name a node than a copy has of them.
pub record IsCounted (log copy : CoreLog) (node : NodeId) : Type 0 where
  pub no_more : namings_kept log node.0 ≤ namings_kept copy node.0
  pub log_ascends : AscendByDirectory log.logs
  pub copy_ascends : AscendByDirectory copy.logs

-- None of the changes that a log keeps of a directory names one of some nodes.
abbrev pub NamesNone : List NodeId → CoreLog → ℕ → Type 0
NamesNone nodes log directory = All (λ change. is_one_of nodes change.child.0 ≡ false) (changes_kept log directory)
