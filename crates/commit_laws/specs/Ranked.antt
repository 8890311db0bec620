-- That the nodes of a commit take their fresh blocks from the grant by the ranks of their places.
use Rattle.std.specs.Prelude.{◌≡◌, ℕ, ◌<◌, true, List, map, take, drop, sum_by, slice_get, Some}
use Rattle.sfs_image.specs.Seen.{PLACES}
use Rattle.image_laws.specs.Need.{takes_place, place_in_row, granted_block, blocks_needed}
use Rattle.block_map.specs.Remap.{fresh_for}
use Rattle.space_map.specs.Space.{GrantedNumbers}
use Rattle.disk_change.specs.AllBuilt.{numbers_with, built_by, nodes_with_grant}
use Rattle.disk_change.specs.Built.{rewrite_in}
use Rattle.disk_change.specs.Planned.{Planned, blocks_taken}
use Rattle.disk_change.specs.Seated.{Seated}

-- the fresh blocks that a node has of a grant: as many as it takes, behind those of the nodes before it
abbrev pub fresh_cut : List Seated → List ℕ → ℕ → Seated → List ℕ
fresh_cut seats grant m seat = take (blocks_taken seat) (drop (sum_by blocks_taken (take m seats)) grant)

-- A node is built with the blocks that the grant has for its places by their ranks, in the row of all places of the commit's nodes.
pub record IsBuiltByRank (change : Planned) (grant : GrantedNumbers) (m : ℕ) (seat : Seated) : Type 0 where
  pub built : slice_get (nodes_with_grant change grant) m
      ≡ Some (built_by change.changes (numbers_with change grant.inodes) (fresh_cut change.seats grant.blocks m seat) seat)
  pub fresh : (place : ℕ) → place < PLACES → takes_place (rewrite_in seat) place ≡ true
      → fresh_for (rewrite_in seat) (fresh_cut change.seats grant.blocks m seat) place
      ≡ granted_block (map rewrite_in change.seats) grant.blocks (place_in_row m place)

-- Each node of a commit is built so.
abbrev pub NodesAreBuiltByRank : Type 0
NodesAreBuiltByRank =
    (change : Planned) (grant : GrantedNumbers) (m : ℕ) (seat : Seated) → slice_get change.seats m ≡ Some seat → IsBuiltByRank change grant m seat

-- The fresh blocks that a commit needs are those of its rewritten nodes.
abbrev pub NeedsAreThose : Type 0
NeedsAreThose = (seats : List Seated) → blocks_needed (map rewrite_in seats) ≡ sum_by blocks_taken seats
