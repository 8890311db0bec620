-- That what is built shows the image that the commit makes, and that this image stands for the new tree.
use Rattle.std.specs.Prelude.{◌≡◌, ℕ, ◌<◌, List, slice_get, Some}
use Rattle.tree_laws.specs.Sound.{IsSound}
use Rattle.tree_laws.specs.Tree.{TreeState}
use Rattle.sfs_image.specs.Seen.{Seen, SeenInodes, PLACES}
use Rattle.image_laws.specs.Commit.{Commit, MayFollow, seen_before}
use Rattle.image_laws.specs.ImageTree.{Making}
use Rattle.image_laws.specs.Laws.{LeavesTree}
use Rattle.image_laws.specs.Made.{image_made, seen_built}
use Rattle.image_laws.specs.Need.{GrantServes}
use Rattle.image_laws.specs.Stands.{StandsForTree, IsStorable}
use Rattle.block_map.specs.Kept.{pointer_kept}
use Rattle.space_map.specs.Space.{GrantedNumbers}
use Rattle.disk_change.specs.AllBuilt.{numbers_with, nodes_with_grant}
use Rattle.disk_change.specs.Built.{Built}
use Rattle.disk_change.specs.Planned.{Planned}
use Rattle.disk_change.specs.Seated.{Begun, seated, net_of_node}
use Rattle.commit_laws.specs.CommitMade.{IsCommitOf, inodes_built, rewrites_seated, rewrites_of_change}
use Rattle.commit_laws.specs.Counting.{LeadTo}
use Rattle.commit_laws.specs.KnownKinds.{NumbersChildren}
use Rattle.commit_laws.specs.Shown.{BeginsWith, LeadNode}
use Rattle.commit_laws.specs.SlotsKept.{slots_joined}

-- What is built of a node shows what an inode shows, besides a file's bytes, which are on the disk.
pub record ShowsInode (one : Built) (seen : Seen) : Type 0 where
  pub kind : one.meta.kind ≡ seen.kind
  pub links : one.meta.links ≡ seen.links
  pub size : one.meta.size ≡ seen.size
  pub slots : slots_joined one.slots ≡ seen.slots
  pub blocks : (place : ℕ) → place < PLACES → pointer_kept one.meta one.tables place ≡ seen.blocks place

-- A node is built at a place of a commit's nodes with a number, from what its inode shows before, and the change leads it to the new tree.
pub record IsBuiltAt (commit : Commit) (change : Planned) (grant : GrantedNumbers) (old new : TreeState) (image : SeenInodes) (i m : ℕ)
    (begun : Begun) : Type 0 where
  pub seat : slice_get change.seats m ≡ Some (seated change.changes begun)
  pub inode : slice_get (inodes_built change grant) m ≡ Some i
  pub begins : BeginsWith old (seen_before commit image begun.node) begun
  pub leads : LeadNode old new commit.after (seen_before commit image begun.node) change.changes begun
  pub numbers : NumbersChildren (numbers_with change grant.inodes) commit.after (net_of_node change.changes.nets begun.node)

-- What is built of a node shows exactly the inode that the commit makes for it.
abbrev pub BuiltNodesShowTheirInodes : Type 0
BuiltNodesShowTheirInodes =
    (commit : Commit) (change : Planned) (grant : GrantedNumbers) (old new : TreeState) (image : SeenInodes) (concerned : List ℕ) (i m : ℕ) (begun : Begun)
    → IsCommitOf commit change grant old new image concerned → IsBuiltAt commit change grant old new image i m begun
    → (one : Built) × (slice_get (nodes_with_grant change grant) m ≡ Some one)
    × ShowsInode one (seen_built commit new image (rewrites_of_change commit change image) i begun.node)

-- The image that a change makes stands for the new tree, and shows it.
abbrev pub ChangesLeaveTrees : Type 0
ChangesLeaveTrees =
    (commit : Commit) (change : Planned) (grant : GrantedNumbers) (old new : TreeState) (image : SeenInodes) (concerned : List ℕ) (making : Making)
    → StandsForTree commit.before old image → IsSound old → IsCommitOf commit change grant old new image concerned
    → LeadTo old new change.changes.directories change.changes.nets → GrantServes image (rewrites_seated change) grant.blocks
    → IsSound new → MayFollow commit.after old new → IsStorable commit.after new
    → LeavesTree commit new (image_made commit new image (rewrites_of_change commit change image) concerned) making
