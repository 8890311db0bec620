-- That a change with a grant is a commit.
use Rattle.std.specs.Prelude.{◌≡◌, ℕ, ◌<◌, ◌==◌, ◌&&◌, nat_lt, Bool, true, false, List, [], ◌∷◌, map, suc, slice_get, Option, None, Some, option_map, if◌then◌else◌}
use Rattle.std.specs.List.{list_any}
use Rattle.std.specs.Option.{option_map_or, unwrap_or}
use Rattle.tree_laws.specs.Tree.{TreeState}
use Rattle.sfs_image.specs.Seen.{SeenInodes, PLACES}
use Rattle.image_laws.specs.Commit.{Commit, IsAside, GivesNumbers, IsCommit, seen_before}
use Rattle.image_laws.specs.Made.{image_made}
use Rattle.image_laws.specs.Need.{Rewrite, takes_in_row, place_in_row, granted_block, GrantServes}
use Rattle.image_laws.specs.Stands.{StandsForTree}
use Rattle.space_map.specs.Space.{GrantedNumbers}
use Rattle.disk_change.specs.AllBuilt.{nodes_with_grant}
use Rattle.disk_change.specs.Built.{Built, rewrite_in}
use Rattle.disk_change.specs.Planned.{Planned}
use Rattle.disk_change.specs.Seated.{Seated, net_of_node}
use Rattle.commit_laws.specs.Counting.{LeadTo}

-- the place of a number in a list, where it is there
abbrev pub place_among : List ℕ → ℕ → Option ℕ
place_among [] i = None
place_among (j ∷ numbers) i = if j == i then Some 0 else option_map suc (place_among numbers i)

-- each number stands once in a list
abbrev pub StandOnce : List ℕ → Type 0
StandOnce numbers = (m l i : ℕ) → slice_get numbers m ≡ Some i → slice_get numbers l ≡ Some i → m ≡ l

-- the inodes of the nodes that a commit builds, in their order
abbrev pub inodes_built : Planned → GrantedNumbers → List ℕ
inodes_built change grant = map (λ (one : Built). one.number) (nodes_with_grant change grant)

-- the nodes that a commit builds, in their order
abbrev pub seated_nodes : Planned → List ℕ
seated_nodes change = map (λ (seat : Seated). seat.node) change.seats

-- what is rewritten of the nodes that a commit builds, in their order
abbrev pub rewrites_seated : Planned → List Rewrite
rewrites_seated change = map rewrite_in change.seats

-- whether a place of an inode takes a block of the grant
abbrev pub takes_of_change : Planned → GrantedNumbers → ℕ → ℕ → Bool
takes_of_change change grant i place =
    nat_lt place PLACES && option_map_or (λ m. takes_in_row (rewrites_seated change) (place_in_row m place)) (place_among (inodes_built change grant) i) false

-- the block that the grant has for a place of an inode
abbrev pub fresh_of_change : Planned → GrantedNumbers → ℕ → ℕ → ℕ
fresh_of_change change grant i place =
    option_map_or (λ m. granted_block (rewrites_seated change) grant.blocks (place_in_row m place)) (place_among (inodes_built change grant) i) 0

-- what is rewritten of a node with these pointers where nothing is
abbrev pub rewrite_still : (ℕ → ℕ) → Rewrite
rewrite_still pointers = record { blocks = 0; is_rewritten = λ _. false; is_zero = λ _. false; pointers = pointers }

-- what is rewritten of a node of a commit: of one that is built what is planned, and of another nothing
abbrev pub rewrites_of_change : Commit → Planned → SeenInodes → ℕ → Rewrite
rewrites_of_change commit change image node =
    let still = rewrite_still (seen_before commit image node).blocks in
    option_map_or (λ m. unwrap_or (slice_get (rewrites_seated change) m) still) (place_among (seated_nodes change) node) still

-- A node is built with a number, at this place of the commit's nodes.
pub record IsSeatedAt (change : Planned) (grant : GrantedNumbers) (node i m : ℕ) : Type 0 where
  pub node_there : slice_get (seated_nodes change) m ≡ Some node
  pub inode_there : slice_get (inodes_built change grant) m ≡ Some i

-- A commit is that of a change with a grant: it concerns these nodes, has the change's nets, takes the grant's blocks by ranks, and gives
-- numbers. Each concerned node that has a number afterwards is built with it, each once, from what the image has of it. All others are
-- left as they are.
pub record IsCommitOf (commit : Commit) (change : Planned) (grant : GrantedNumbers) (old new : TreeState) (image : SeenInodes)
    (concerned : List ℕ) : Type 0 where
  pub concerns : (node : ℕ) → commit.concerns node ≡ list_any (λ other. other == node) concerned
  pub nets : (node : ℕ) → commit.nets node ≡ net_of_node change.changes.nets node
  pub takes : (i place : ℕ) → commit.takes i place ≡ takes_of_change change grant i place
  pub fresh : (i place : ℕ) → commit.fresh i place ≡ fresh_of_change change grant i place
  pub numbers : GivesNumbers commit image
  pub others : (node : ℕ) → commit.concerns node ≡ false → (commit.after node ≡ commit.before node) × IsAside old new node
  pub seated : (node i : ℕ) → commit.after node ≡ Some i → commit.concerns node ≡ true → (m : ℕ) × IsSeatedAt change grant node i m
  pub own : (node i m : ℕ) → commit.after node ≡ Some i → slice_get (inodes_built change grant) m ≡ Some i → slice_get (seated_nodes change) m ≡ Some node
  pub inodes_once : StandOnce (inodes_built change grant)
  pub nodes_once : StandOnce (seated_nodes change)
  pub pointers : (m place : ℕ) (seat : Seated) → slice_get change.seats m ≡ Some seat → place < PLACES
      → (rewrite_in seat).pointers place ≡ (seen_before commit image seat.node).blocks place

-- A change with a grant that serves is a commit: it makes of an image that stands for the old tree the one that is made from it.
abbrev pub ChangesMakeCommits : Type 0
ChangesMakeCommits = (commit : Commit) (change : Planned) (grant : GrantedNumbers) (old new : TreeState) (image : SeenInodes) (concerned : List ℕ)
    → StandsForTree commit.before old image → IsCommitOf commit change grant old new image concerned
    → LeadTo old new change.changes.directories change.changes.nets → GrantServes image (rewrites_seated change) grant.blocks
    → IsCommit commit old new image (image_made commit new image (rewrites_of_change commit change image) concerned)
