-- The plan of one fsync, and that it leads from the tree at the cut to the tree at the raised cut.
use Rattle.std.specs.Prelude.{◌≡◌, ◌↔◌, ℕ, ◌*◌, ◌<◌, ◌≤◌, Bool, true, false, List, length, map, None, Contains, Option}
use Rattle.std.specs.List.Sorted.{IsStrictlySortedBy}
use Rattle.std.specs.Ordering.{nat_cmp}
use Rattle.sfs_image.specs.Part.{Part}
use Rattle.sfs_image.specs.Seen.{FILE_BLOCKS}
use Rattle.sfs_image.specs.Slot.{Row}
use Rattle.sfs_image.specs.SlotBlock.{AreSlots}
use Rattle.sfs_image.specs.Super.{Layout, data_start}
use Rattle.tree_laws.specs.declared.history.Entry.{Entry}
use Rattle.tree_laws.specs.Tree.{TreeState, names_of, bytes_of, kind_of, is_directory}
use Rattle.absorb.specs.Net.{IsNet}
use Rattle.image_laws.specs.Image.{inodes_shown}
use Rattle.image_laws.specs.Stands.{BLOCK_BYTES}
use Rattle.space_map.specs.Space.{GrantedNumbers}
use Rattle.disk_change.specs.AllBuilt.{nodes_with_grant}
use Rattle.disk_change.specs.Built.{Built}
use Rattle.disk_change.specs.Directory.{is_among}
use Rattle.keyed_list.specs.Ascending.{AscendBy, item_with}
use Rattle.disk_change.specs.Nodes.{net_node, file_node, enter_node}
use Rattle.disk_nodes.specs.Nodes.{entry_node}
use Rattle.disk_change.specs.Pages.{page_block}
use Rattle.disk_change.specs.Seated.{net_of_node}
use Rattle.disk_change.specs.declared.directory_net.DirectoryNet.{DirectoryNet}
use Rattle.disk_change.specs.declared.enter.Enter.{Enter}
use Rattle.disk_change.specs.declared.files.FileChange.{FileChange}
use Rattle.disk_nodes.specs.declared.old.OldEntry.{OldEntry}
use Rattle.commit_laws.specs.BytesKept.{CutsOffEnds}
use Rattle.commit_laws.specs.CommitOfPlan.{CommitPlan, change_planned, has_inode_then, ServesPlan}
use Rattle.commit_laws.specs.NumbersGiven.{node_leaves}
use Rattle.commit_laws.specs.Rewritten.{has_page, bytes_in_block, HasPages}
use Rattle.cut_laws.specs.Closure.{every_entry, Flush, IsConcerned, IsRaised, AreInodesAfter}
use Rattle.cut_laws.specs.Cut.{Cut, tree_at_cut}
use Rattle.flush_laws.specs.Ready.{IsBetweenCommits, KeepsEntries}
use Rattle.flush_laws.specs.Volume.{Volume, OneFsync}

-- Of the entries that memory keeps a plan has those of the nodes that it concerns.
pub record HasOldEntries (nodes : List ℕ) (entries old : List OldEntry) : Type 0 where
  pub ascend : AscendBy entry_node old
  pub own : (entry : OldEntry) → Contains old entry → Contains entries entry × (is_among nodes entry.node.0 ≡ true)
  pub all : (entry : OldEntry) → Contains entries entry → is_among nodes entry.node.0 ≡ true → Contains old entry

-- A plan has the nets of the directories whose rows differ.
pub record HasNets (old new : TreeState) (nets : List DirectoryNet) : Type 0 where
  pub ascend : AscendBy net_node nets
  pub sorted : IsStrictlySortedBy nat_cmp (map net_node nets)
  pub each : (directory : ℕ) → IsNet (names_of directory old.rows) (names_of directory new.rows) (net_of_node nets directory)
  pub holders : (one : DirectoryNet) → Contains nets one → is_directory new one.node.0 ≡ true

-- A plan has the nodes that get an inode, as what they are, and those that lose it.
pub record HasMoves (new : TreeState) (inodes after : ℕ → Bool) (plan : CommitPlan) : Type 0 where
  pub ascend : AscendBy enter_node plan.enter
  pub entering : (one : Enter) → Contains plan.enter one → (inodes one.node.0 ≡ false) × (after one.node.0 ≡ true) × (one.kind ≡ kind_of new one.node.0)
  pub all_entering : (node : ℕ) → inodes node ≡ false → after node ≡ true → (one : Enter) × Contains plan.enter one × (one.node.0 ≡ node)
  pub leaving : (node : ℕ) → (node_leaves plan.leave node ≡ true) ↔ ((inodes node ≡ true) × (after node ≡ false))

-- A plan has what becomes of files: the sizes and the blocks that changes touch, of which those behind an end are all that had bytes. Of a file
-- that has no inode afterwards it says nothing.
pub record HasFiles (nodes : List ℕ) (old new : TreeState) (plan : CommitPlan) : Type 0 where
  pub sizes : (one : FileChange) → Contains plan.files one → one.size ≡ length (bytes_of new one.node.0)
  pub others : (node : ℕ) → has_inode_then plan node ≡ true → item_with file_node node plan.files ≡ None → bytes_of new node ≡ bytes_of old node
  pub ascend : (one : FileChange) → Contains plan.files one → AscendBy page_block one.pages.items
  pub pages : HasPages new plan
  pub untouched : (node n : ℕ) → is_among nodes node ≡ true → has_inode_then plan node ≡ true → has_page plan.files node n ≡ false
      → bytes_in_block n (bytes_of new node) ≡ bytes_in_block n (bytes_of old node)
  pub ends : CutsOffEnds nodes old new plan
  pub short : (node : ℕ) → length (bytes_of new node) ≤ BLOCK_BYTES * FILE_BLOCKS

-- The plan of an fsync that concerns these nodes.
pub record IsPlanAt (first : TreeState) (history : List Entry) (cut : Cut) (inodes : ℕ → Bool) (flush : Flush) (raised : Cut) (after : ℕ → Bool)
    (nodes : List ℕ) (entries : List OldEntry) (plan : CommitPlan) : Type 0 where
  pub concerns : (node : ℕ) → (is_among nodes node ≡ true) ↔ IsConcerned first history every_entry cut inodes flush node
  pub old : HasOldEntries nodes entries plan.old
  pub nets : HasNets (tree_at_cut first history cut) (tree_at_cut first history raised) plan.nets
  pub moves : HasMoves (tree_at_cut first history raised) inodes after plan
  pub files : HasFiles nodes (tree_at_cut first history cut) (tree_at_cut first history raised) plan

-- A grant serves a plan: it has free inodes and free blocks of the data area, as many as the plan needs; and what is built of directories with
-- it can stand in slots.
pub record GrantsPlan (layout : Layout) (parts : ℕ → Part) (plan : CommitPlan) (grant : GrantedNumbers) : Type 0 where
  pub serves : ServesPlan (inodes_shown layout parts) plan grant
  pub lies : (block : ℕ) → Contains grant.blocks block → (data_start layout ≤ block) × (block < layout.blocks)
  pub slots : (one : Built) → Contains (nodes_with_grant (change_planned plan) grant) one → (block : List (Option Row)) → Contains one.slots block
      → AreSlots block

-- What is known where one fsync more of a volume has a plan and a grant.
pub record IsPlannedFsync (volume : Volume) (one : OneFsync) : Type 0 where
  pub ready : IsBetweenCommits volume
  pub keeps : KeepsEntries volume.num volume.parts one.entries
  pub raises : IsRaised volume.first volume.history every_entry volume.cut volume.inodes one.flush one.raised
  pub inodes_after : AreInodesAfter volume.first volume.history every_entry volume.cut volume.inodes one.flush one.raised one.after
  pub plans : IsPlanAt volume.first volume.history volume.cut volume.inodes one.flush one.raised one.after one.nodes one.entries one.plan
  pub grants : GrantsPlan volume.layout volume.parts one.plan one.grant
