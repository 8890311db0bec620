-- What a commit makes of an image, inode by inode.
use Rattle.std.specs.Prelude.{◌≡◌, ◌≢◌, ℕ, ◌<◌, ◌==◌, Bool, true, false, List, Some, if◌then◌else◌}
use Rattle.std.specs.List.{list_any, find}
use Rattle.std.specs.Option.{option_map_or}
use Rattle.tree_laws.specs.Tree.{TreeState, kind_of, bytes_of, links_of, names_of}
use Rattle.absorb.specs.Net.{IsNet}
use Rattle.sfs_image.specs.Slot.{kind_byte}
use Rattle.sfs_image.specs.Seen.{Seen, SeenInodes, PLACES}
use Rattle.image_laws.specs.Slots.{in_blocks}
use Rattle.image_laws.specs.Renamed.{Numbering}
use Rattle.image_laws.specs.Stands.{own_size}
use Rattle.image_laws.specs.Commit.{Commit, slots_after, blank, seen_before, IsAside, GivesNumbers}
use Rattle.image_laws.specs.Need.{Rewrite, takes_place, pointer_after}

-- whether a node has this number
abbrev pub has_number : Numbering → ℕ → ℕ → Bool
has_number num i node = option_map_or (λ j. j == i) (num node) false

-- what an inode shows, with the size of what it has
abbrev pub with_own_size : Seen → Seen
with_own_size seen = record seen { size = own_size seen }

-- the inode of a concerned node after a commit
abbrev pub seen_built : Commit → TreeState → SeenInodes → (ℕ → Rewrite) → ℕ → ℕ → Seen
seen_built commit new image rewrites i node = with_own_size (record {
  kind = kind_byte (kind_of new node);
  links = links_of new node;
  size = 0;
  slots = in_blocks (slots_after commit.after new (commit.nets node) (seen_before commit image node).slots);
  bytes = bytes_of new node;
  blocks = pointer_after (rewrites node) (commit.fresh i);
})

-- an inode after a commit that concerns these nodes: that of the one that has it then; free where one had it and has it no more; and
-- any other as it was
abbrev pub seen_made : Commit → TreeState → SeenInodes → (ℕ → Rewrite) → List ℕ → ℕ → Seen
seen_made commit new image rewrites concerned i =
    option_map_or (seen_built commit new image rewrites i) (find (has_number commit.after i) concerned)
    (if list_any (has_number commit.before i) concerned then blank else image.seen i)

-- the image that a commit makes
abbrev pub image_made : Commit → TreeState → SeenInodes → (ℕ → Rewrite) → List ℕ → SeenInodes
image_made commit new image rewrites concerned = record { count = image.count; seen = seen_made commit new image rewrites concerned }

-- What a commit is made from: the list of the nodes that it concerns, their nets, the numbers that it gives, what it rewrites of each,
-- and free blocks for what takes one. It leaves all other nodes as they are.
pub record IsMadeFrom (commit : Commit) (old new : TreeState) (image : SeenInodes) (rewrites : ℕ → Rewrite) (concerned : List ℕ) : Type 0 where
  pub concerns : (node : ℕ) → commit.concerns node ≡ list_any (λ other. other == node) concerned
  pub nets : (node : ℕ) → IsNet (names_of node old.rows) (names_of node new.rows) (commit.nets node)
  pub numbers : GivesNumbers commit image
  pub others : (node : ℕ) → commit.concerns node ≡ false → (commit.after node ≡ commit.before node) × IsAside old new node
  pub takes : (node i place : ℕ) → commit.after node ≡ Some i → commit.concerns node ≡ true → place < PLACES
      → commit.takes i place ≡ takes_place (rewrites node) place
  pub pointers : (node place : ℕ) → commit.concerns node ≡ true → place < PLACES → (rewrites node).pointers place ≡ (seen_before commit image node).blocks place
  pub unheld : (i place j other : ℕ) → commit.takes i place ≡ true → j < image.count → other < PLACES → (image.seen j).blocks other ≢ commit.fresh i place
  pub once : (i place j other : ℕ) → commit.takes i place ≡ true → commit.takes j other ≡ true → commit.fresh i place ≡ commit.fresh j other
      → (i ≡ j) × (place ≡ other)
