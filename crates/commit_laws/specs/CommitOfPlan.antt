-- The commit that a plan makes with a grant, and that it is a commit.
use Rattle.std.specs.Prelude.{◌≡◌, ℕ, ◌&&◌, ◌||◌, not, Bool, true, false, List, map, Some, Contains}
use Rattle.sfs_base.specs.declared.numbers.NodeId.{NodeId}
use Rattle.sfs_image.specs.Seen.{SeenInodes}
use Rattle.tree_laws.specs.Sound.{IsSound}
use Rattle.tree_laws.specs.Tree.{TreeState, kind_of, is_directory}
use Rattle.image_laws.specs.Commit.{Commit, IsAside, MayFollow}
use Rattle.image_laws.specs.ImageTree.{Making}
use Rattle.image_laws.specs.Laws.{LeavesTree}
use Rattle.image_laws.specs.LinkChanges.{AreAllNets}
use Rattle.image_laws.specs.Made.{image_made}
use Rattle.image_laws.specs.Need.{GrantServes}
use Rattle.image_laws.specs.Numbers.{numbers_after, InodeGrantServes}
use Rattle.image_laws.specs.Renamed.{Numbering}
use Rattle.image_laws.specs.Stands.{StandsForTree, IsStorable}
use Rattle.space_map.specs.Space.{GrantedNumbers}
use Rattle.disk_change.specs.Directory.{is_among}
use Rattle.keyed_list.specs.Ascending.{AscendBy}
use Rattle.disk_change.specs.Nodes.{net_node, enter_node}
use Rattle.disk_nodes.specs.Nodes.{entry_node}
use Rattle.disk_change.specs.Planned.{Planned, planned}
use Rattle.disk_change.specs.Seated.{net_of_node}
use Rattle.disk_change.specs.declared.directory_net.DirectoryNet.{DirectoryNet}
use Rattle.disk_change.specs.declared.enter.Enter.{Enter}
use Rattle.disk_change.specs.declared.files.FileChange.{FileChange}
use Rattle.disk_nodes.specs.declared.old.OldEntry.{OldEntry}
use Rattle.commit_laws.specs.CommitMade.{IsCommitOf, rewrites_seated, rewrites_of_change, takes_of_change, fresh_of_change}
use Rattle.commit_laws.specs.Counting.{LeadTo}
use Rattle.commit_laws.specs.KeptShown.{KeepsSeen}
use Rattle.commit_laws.specs.NumbersGiven.{AreNumbered, node_leaves}

-- A commit's plan: what the disk has of the nodes that it concerns and that have an inode, the nets of directories, the changes of
-- files, and the nodes that get and lose an inode.
pub record CommitPlan : Type 0 where
  pub old : List OldEntry
  pub nets : List DirectoryNet
  pub files : List FileChange
  pub enter : List Enter
  pub leave : List NodeId

-- what a plan changes
abbrev pub change_planned : CommitPlan → Planned
change_planned plan = planned plan.old plan.nets plan.files plan.enter plan.leave

-- whether a node of a plan has an inode after its commit: it has one before and does not leave, or it enters
abbrev pub has_inode_then : CommitPlan → ℕ → Bool
has_inode_then plan node = (is_among (map entry_node plan.old) node && not (node_leaves plan.leave node)) || is_among (map enter_node plan.enter) node

-- the numbers after the commit of a plan, where a grant has these inodes
abbrev pub numbers_planned : Numbering → CommitPlan → List ℕ → Numbering
numbers_planned num plan inodes = numbers_after num (node_leaves plan.leave) (map enter_node plan.enter) inodes

-- the commit that a plan makes with a grant, where nodes have these numbers before, and it concerns these nodes
abbrev pub commit_of : Numbering → List ℕ → CommitPlan → GrantedNumbers → Commit
commit_of num concerned plan grant = record {
  before = num;
  after = numbers_planned num plan grant.inodes;
  concerns = is_among concerned;
  nets = net_of_node plan.nets;
  takes = takes_of_change (change_planned plan) grant;
  fresh = fresh_of_change (change_planned plan) grant;
}

-- A plan has what an image has of the nodes that it concerns: exactly those of them that have an inode, each with what this shows; and only
-- nodes that it concerns enter and leave.
pub record PlansFrom (num : Numbering) (concerned : List ℕ) (image : SeenInodes) (plan : CommitPlan) : Type 0 where
  pub numbered : AreNumbered num plan.old plan.enter
  pub complete : (node i : ℕ) → is_among concerned node ≡ true → num node ≡ Some i → (entry : OldEntry) × Contains plan.old entry × (entry.node.0 ≡ node)
  pub own : (entry : OldEntry) → Contains plan.old entry → is_among concerned entry.node.0 ≡ true
  pub shown : (entry : OldEntry) → Contains plan.old entry → KeepsSeen entry.old.kept (image.seen entry.old.number)
  pub entering : (one : Enter) → Contains plan.enter one → is_among concerned one.node.0 ≡ true
  pub leaving : (node : ℕ) → node_leaves plan.leave node ≡ true → is_among concerned node ≡ true

-- A plan leads from a tree to another one: its nets are those between the two, and of directories; nodes enter as what they are; and
-- nodes that it does not concern are left as they are.
pub record PlansTo (concerned : List ℕ) (old new : TreeState) (plan : CommitPlan) : Type 0 where
  pub between : AreAllNets old new (net_of_node plan.nets) (map net_node plan.nets)
  pub ascend : AscendBy net_node plan.nets
  pub holders : (one : DirectoryNet) → Contains plan.nets one → is_directory new one.node.0 ≡ true
  pub kinds : (one : Enter) → Contains plan.enter one → one.kind ≡ kind_of new one.node.0
  pub others : (node : ℕ) → is_among concerned node ≡ false → IsAside old new node

-- A grant serves a plan: it has a free inode for each node that enters, and a free block for each place that takes one.
pub record ServesPlan (image : SeenInodes) (plan : CommitPlan) (grant : GrantedNumbers) : Type 0 where
  pub inodes : InodeGrantServes image (map enter_node plan.enter) grant.inodes
  pub blocks : GrantServes image (rewrites_seated (change_planned plan)) grant.blocks

-- A plan is made over an image that stands for a tree, with a grant that serves it, and leads to another tree.
pub record IsCommitPlan (num : Numbering) (concerned : List ℕ) (old new : TreeState) (image : SeenInodes) (plan : CommitPlan)
    (grant : GrantedNumbers) : Type 0 where
  pub stands : StandsForTree num old image
  pub from : PlansFrom num concerned image plan
  pub to : PlansTo concerned old new plan
  pub serves : ServesPlan image plan grant
  pub follows : MayFollow (numbers_planned num plan grant.inodes) old new

-- What a plan makes is a commit of its change, whose nets lead to the new tree.
pub record CommitsPlan (num : Numbering) (concerned : List ℕ) (old new : TreeState) (image : SeenInodes) (plan : CommitPlan)
    (grant : GrantedNumbers) : Type 0 where
  pub is : IsCommitOf (commit_of num concerned plan grant) (change_planned plan) grant old new image concerned
  pub leads : LeadTo old new (change_planned plan).changes.directories plan.nets

-- So it does.
abbrev pub PlansMakeCommits : Type 0
PlansMakeCommits = (num : Numbering) (concerned : List ℕ) (old new : TreeState) (image : SeenInodes) (plan : CommitPlan) (grant : GrantedNumbers)
    → IsCommitPlan num concerned old new image plan grant → CommitsPlan num concerned old new image plan grant

-- the image that the commit of a plan makes
abbrev pub image_planned : Numbering → List ℕ → TreeState → SeenInodes → CommitPlan → GrantedNumbers → SeenInodes
image_planned num concerned new image plan grant =
    let commit = commit_of num concerned plan grant in
    image_made commit new image (rewrites_of_change commit (change_planned plan) image) concerned

-- A plan leads from a sound tree to a sound one, which is such that an image may stand for it.
pub record IsSoundPlan (num : Numbering) (concerned : List ℕ) (old new : TreeState) (image : SeenInodes) (plan : CommitPlan)
    (grant : GrantedNumbers) : Type 0 where
  pub whole : IsCommitPlan num concerned old new image plan grant
  pub sound : IsSound old
  pub next_sound : IsSound new
  pub storable : IsStorable (numbers_planned num plan grant.inodes) new

-- The image that the commit of such a plan makes stands for the new tree, and shows it.
abbrev pub PlansLeaveTrees : Type 0
PlansLeaveTrees =
    (num : Numbering) (concerned : List ℕ) (old new : TreeState) (image : SeenInodes) (plan : CommitPlan) (grant : GrantedNumbers) (making : Making)
    → IsSoundPlan num concerned old new image plan grant
    → LeavesTree (commit_of num concerned plan grant) new (image_planned num concerned new image plan grant) making
