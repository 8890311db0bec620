-- An fsync of a volume that has a plan, beside what turns say of it.
use Rattle.std.specs.Prelude.{◌≡◌, ℕ, ◌<◌, ◌≤◌, ◌^◌, Bool, true, false, List, [], ◌∷◌, sum_by, count_by}
use Rattle.sfs_image.specs.Seen.{FILE_BLOCKS}
use Rattle.tree_laws.specs.History.{tree_after}
use Rattle.tree_laws.specs.Tree.{is_directory}
use Rattle.mem_files.specs.File.{File}
use Rattle.space_map.specs.Space.{Space}
use Rattle.space_map.specs.declared.grant.Need.{Need}
use Rattle.disk_change.specs.Directory.{is_among}
use Rattle.disk_change.specs.Planned.{as_u32, blocks_taken, enters}
use Rattle.disk_change.specs.Seated.{net_of_node}
use Rattle.disk_change.specs.declared.files.FileChange.{FileChange}
use Rattle.disk_nodes.specs.declared.old.OldEntry.{OldEntry}
use Rattle.commit_laws.specs.CommitOfPlan.{CommitPlan, change_planned, has_inode_then, numbers_planned}
use Rattle.commit_laws.specs.Rewritten.{has_page}
use Rattle.cut_laws.specs.Closure.{every_entry, Flush, IsRaised, AreInodesAfter}
use Rattle.cut_laws.specs.Cut.{Cut, cut_of, tree_at_cut}
use Rattle.cut_laws.specs.Machine.{MachineState}
use Rattle.flush_laws.specs.Planned.{IsPlanAt}
use Rattle.flush_laws.specs.Ready.{KeepsEntries}
use Rattle.turn_laws.specs.Books.{Books}
use Rattle.turn_laws.specs.Need.{ImageState, Amount, Made}
use Rattle.turn_laws.specs.OneThread.{Resting, machine_at, books_at, need_at, granted_at}
use Rattle.turn_laws.specs.Touched.{is_touched_between}
use Rattle.flush_plan.specs.Touched.{IsFileChange}
use Rattle.mark_laws.specs.FileAt.{IsFileAt}
use Rattle.space_laws.specs.Laws.{HasNoneGranted, state_of_parts}
use Rattle.space_laws.specs.Map.{IsMapOf}
use Rattle.flush_laws.specs.Volume.{parts_left}
use Rattle.volume_laws.specs.Volume.{IsVolumeStanding}
use Rattle.flush_laws.specs.Volume.{Volume, OneFsync}

-- what the image of a volume's disk has to tell
abbrev pub image_held : Volume → ImageState
image_held volume = state_of_parts volume.num volume.layout volume.parts

-- what the image has to tell once an fsync is on the disk
abbrev pub image_once_left : Volume → OneFsync → ImageState
image_once_left volume one = state_of_parts (numbers_planned volume.num one.plan one.grant.inodes) volume.layout (parts_left volume one)

-- what there is between two fsyncs of a volume, behind commits with these numbers
abbrev pub rest_of : Volume → List ℕ → Resting
rest_of volume used = record { cut = volume.cut; inodes = volume.inodes; used = used; image = image_held volume }

-- the machine then
abbrev pub machine_of_rest : Volume → List ℕ → MachineState
machine_of_rest volume used = machine_at volume.first volume.history (rest_of volume used)

-- the books then
abbrev pub books_of_rest : Volume → List ℕ → Books
books_of_rest volume used = books_at volume.first volume.history (rest_of volume used)

-- What an fsync of a volume comes to before it has a grant: where it raises the cut to, which nodes then have an inode, the nodes that it
-- concerns, what memory keeps of the disk, and the plan.
pub record Planning : Type 0 where
  pub flush : Flush
  pub raised : Cut
  pub after : ℕ → Bool
  pub nodes : List ℕ
  pub entries : List OldEntry
  pub plan : CommitPlan

-- that of an fsync which has a grant
abbrev pub planning_of : OneFsync → Planning
planning_of one = record {
  flush = one.flush;
  raised = one.raised;
  after = one.after;
  nodes = one.nodes;
  entries = one.entries;
  plan = one.plan;
}

-- what an fsync makes that concerns these nodes, raises this cut, leaves these nodes with an inode, and has this plan
abbrev pub made_with : List ℕ → Cut → (ℕ → Bool) → CommitPlan → Made
made_with nodes raised after plan = record { concerns = is_among nodes; raised = raised; after = after; nets = net_of_node plan.nets }

-- what it makes
abbrev pub made_of : Planning → Made
made_of planning = made_with planning.nodes planning.raised planning.after planning.plan

-- how much the books say that it needs
abbrev pub need_of_planning : Volume → List ℕ → Planning → Amount
need_of_planning volume used planning = need_at volume.first volume.history (rest_of volume used) (made_of planning)

-- the inodes that the books say that are then reserved for it
abbrev pub granted_of_planning : Volume → List ℕ → Planning → List ℕ
granted_of_planning volume used planning = granted_at volume.first volume.history (rest_of volume used) (made_of planning)

-- An fsync of a volume has its plan.
pub record HasPlan (volume : Volume) (planning : Planning) : Type 0 where
  pub stands : IsVolumeStanding volume
  pub keeps : KeepsEntries volume.num volume.parts planning.entries
  pub raises : IsRaised volume.first volume.history every_entry volume.cut volume.inodes planning.flush planning.raised
  pub inodes_after : AreInodesAfter volume.first volume.history every_entry volume.cut volume.inodes planning.flush planning.raised planning.after
  pub plans : IsPlanAt volume.first volume.history volume.cut volume.inodes planning.flush planning.raised planning.after planning.nodes planning.entries
      planning.plan

-- of each file that then has an inode its plan has a page of each block that a change touches between the two cuts, and of no other
abbrev pub HasTouchedPages : Volume → Planning → Type 0
HasTouchedPages volume planning = (node n : ℕ) → is_among planning.nodes node ≡ true → has_inode_then planning.plan node ≡ true
    → is_directory (tree_at_cut volume.first volume.history planning.raised) node ≡ false → n < FILE_BLOCKS
    → has_page planning.plan.files node n
    ≡ is_touched_between volume.first volume.history node (cut_of volume.cut node) (cut_of planning.raised node) n

-- Of files a plan changes none where the fsync's node is a directory, and of a file that alone: what is written of it is by the marks that it
-- has in memory at the fsync's stamp, from its cut on; or nothing is, and its stamp stays where it then has an inode.
pub data ChangesOwnFile (volume : Volume) (planning : Planning) : Type 0 where
  no_file : is_directory (tree_after volume.first volume.history) planning.flush.node ≡ true → planning.plan.files ≡ [] → ChangesOwnFile volume planning
  own_file : (file : File) (change : FileChange) → planning.plan.files ≡ change ∷ []
      → IsFileAt volume.first volume.history planning.flush.node planning.flush.stamp file
      → IsFileChange (record { 0 = planning.flush.node }) (cut_of volume.cut planning.flush.node) file change
      → cut_of volume.cut planning.flush.node ≤ planning.flush.stamp → ChangesOwnFile volume planning
  unwritten : is_directory (tree_after volume.first volume.history) planning.flush.node ≡ false → planning.plan.files ≡ []
      → (has_inode_then planning.plan planning.flush.node ≡ true → cut_of planning.raised planning.flush.node ≡ cut_of volume.cut planning.flush.node)
      → ChangesOwnFile volume planning

-- how much a plan needs
abbrev pub amount_planned : CommitPlan → Amount
amount_planned plan = record {
  inodes = count_by enters (change_planned plan).seats;
  blocks = sum_by blocks_taken (change_planned plan).seats;
}

-- the same, as far as 32 bits have room for it
abbrev pub need_planned : CommitPlan → Need
need_planned plan = record {
  inodes = as_u32 (count_by enters (change_planned plan).seats);
  blocks = as_u32 (sum_by blocks_taken (change_planned plan).seats);
}

-- so many nodes enter by a plan that 32 bits have room for their number
abbrev pub EntersFit : CommitPlan → Type 0
EntersFit plan = count_by enters (change_planned plan).seats < 2 ^ 32

-- A map of free space is right beside what memory keeps, and nothing in it is granted.
pub record IsRestingMap (volume : Volume) (entries : List OldEntry) (space : Space) : Type 0 where
  pub right : IsMapOf volume.layout entries space
  pub none : HasNoneGranted space
