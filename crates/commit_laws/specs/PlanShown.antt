-- That what a plan builds is what the image that its commit makes shows, so that the next plan can begin with it.
use Rattle.std.specs.Prelude.{◌≡◌, ℕ, ◌<◌, ◌^◌, true, List, [], length, None, Some, Contains}
use Rattle.sfs_image.specs.Seen.{SeenInodes}
use Rattle.tree_laws.specs.Tree.{TreeState, bytes_of, links_of}
use Rattle.image_laws.specs.Renamed.{Numbering}
use Rattle.image_laws.specs.Sizes.{DirectoriesFit}
use Rattle.space_map.specs.Space.{GrantedNumbers}
use Rattle.disk_change.specs.AllBuilt.{nodes_with_grant, after_commit}
use Rattle.disk_change.specs.Built.{Built}
use Rattle.keyed_list.specs.Ascending.{item_with}
use Rattle.disk_change.specs.Nodes.{file_node}
use Rattle.disk_change.specs.declared.enter.Enter.{Enter}
use Rattle.disk_change.specs.declared.files.FileChange.{FileChange}
use Rattle.disk_nodes.specs.declared.old.OldEntry.{OldEntry}
use Rattle.commit_laws.specs.CommitOfPlan.{CommitPlan, change_planned, has_inode_then, numbers_planned, image_planned, IsSoundPlan}
use Rattle.commit_laws.specs.KeptShown.{KeepsSeen}
use Rattle.commit_laws.specs.Whole.{ShowsInode}

-- A plan has the sizes of files: a file that it changes has as many bytes as the change says, any other that then has an inode keeps its
-- bytes, and one that enters had none.
pub record HasFileSizes (old new : TreeState) (plan : CommitPlan) : Type 0 where
  pub changed : (one : FileChange) → Contains plan.files one → one.size ≡ length (bytes_of new one.node.0)
  pub others : (node : ℕ) → has_inode_then plan node ≡ true → item_with file_node node plan.files ≡ None → bytes_of new node ≡ bytes_of old node
  pub entering : (one : Enter) → Contains plan.enter one → bytes_of old one.node.0 ≡ []

-- Records have room for the link counts of a tree, and no directory of an image has more blocks than one may have.
pub record HaveRoom (new : TreeState) (image : SeenInodes) : Type 0 where
  pub links : (node : ℕ) → links_of new node < 2 ^ 32
  pub directories : DirectoriesFit image

-- A plan says all that its nodes show afterwards.
pub record IsFullPlan (num : Numbering) (concerned : List ℕ) (old new : TreeState) (image : SeenInodes) (plan : CommitPlan)
    (grant : GrantedNumbers) : Type 0 where
  pub sound : IsSoundPlan num concerned old new image plan grant
  pub sizes : HasFileSizes old new plan
  pub room : HaveRoom new image

-- What is built of each node of such a plan shows what its inode shows in the image that the commit makes.
abbrev pub PlansShowInodes : Type 0
PlansShowInodes = (num : Numbering) (concerned : List ℕ) (old new : TreeState) (image : SeenInodes) (plan : CommitPlan) (grant : GrantedNumbers)
    → IsFullPlan num concerned old new image plan grant → (one : Built) → Contains (nodes_with_grant (change_planned plan) grant) one
    → ShowsInode one ((image_planned num concerned new image plan grant).seen one.number)

-- What the disk has of a node after the commit of a plan: the number that the commit gives it, and what its inode then shows.
pub record IsKeptAfter (num : Numbering) (concerned : List ℕ) (new : TreeState) (image : SeenInodes) (plan : CommitPlan) (grant : GrantedNumbers)
    (entry : OldEntry) : Type 0 where
  pub number : numbers_planned num plan grant.inodes entry.node.0 ≡ Some entry.old.number
  pub shown : KeepsSeen entry.old.kept ((image_planned num concerned new image plan grant).seen entry.old.number)

-- So it is of each node of such a plan.
abbrev pub PlansKeepShown : Type 0
PlansKeepShown = (num : Numbering) (concerned : List ℕ) (old new : TreeState) (image : SeenInodes) (plan : CommitPlan) (grant : GrantedNumbers)
    → IsFullPlan num concerned old new image plan grant → (entry : OldEntry) → Contains (after_commit (change_planned plan) grant) entry
    → IsKeptAfter num concerned new image plan grant entry
