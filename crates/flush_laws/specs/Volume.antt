-- What there is to say of a volume between two calls, and of one fsync of it.
use Rattle.std.specs.Prelude.{ℕ, Bool, List, [], ◌∷◌, ◌++◌}
use Rattle.sfs_image.specs.Part.{Part}
use Rattle.sfs_image.specs.Super.{Layout}
use Rattle.tree_laws.specs.declared.history.Entry.{Entry}
use Rattle.tree_laws.specs.Tree.{TreeState}
use Rattle.image_laws.specs.Renamed.{Numbering}
use Rattle.space_map.specs.Space.{GrantedNumbers}
use Rattle.disk_nodes.specs.declared.old.OldEntry.{OldEntry}
use Rattle.commit_laws.specs.CommitOfPlan.{CommitPlan, numbers_planned}
use Rattle.commit_laws.specs.PartsStand.{part_next}
use Rattle.cut_laws.specs.Closure.{Flush}
use Rattle.cut_laws.specs.Cut.{Cut, tree_at_cut}

-- A volume between two calls: the tree of its mount and the history since, the fsyncs that are on the disk with the cut and the inodes that
-- they left, the numbers of its nodes, and the layout of its disk with the blocks and the parts on it.
pub record Volume : Type 0 where
  pub first : TreeState
  pub history : List Entry
  pub flushes : List Flush
  pub cut : Cut
  pub inodes : ℕ → Bool
  pub num : Numbering
  pub layout : Layout
  pub store : ℕ → List ℕ
  pub parts : ℕ → Part

-- the tree that its disk holds
abbrev pub tree_held : Volume → TreeState
tree_held volume = tree_at_cut volume.first volume.history volume.cut

-- An fsync of a volume: where it raises the cut to, which nodes then have an inode, the nodes that it concerns, what memory keeps of the
-- disk, and the plan with its grant.
pub record OneFsync : Type 0 where
  pub flush : Flush
  pub raised : Cut
  pub after : ℕ → Bool
  pub nodes : List ℕ
  pub entries : List OldEntry
  pub plan : CommitPlan
  pub grant : GrantedNumbers

-- the tree that the disk holds once it is made
abbrev pub tree_raised : Volume → OneFsync → TreeState
tree_raised volume one = tree_at_cut volume.first volume.history one.raised

-- the parts of a volume once an fsync is on its disk
abbrev pub parts_left : Volume → OneFsync → ℕ → Part
parts_left volume one = part_next volume.store volume.parts one.plan one.grant

-- a volume once an fsync is on its disk
abbrev pub volume_left : Volume → OneFsync → (ℕ → List ℕ) → Volume
volume_left volume one later = record {
  first = volume.first;
  history = volume.history;
  flushes = volume.flushes ++ one.flush ∷ [];
  cut = one.raised;
  inodes = one.after;
  num = numbers_planned volume.num one.plan one.grant.inodes;
  layout = volume.layout;
  store = later;
  parts = parts_left volume one;
}
