-- A commit: what it makes of the inodes of an image, so that they stand for another tree.
use Rattle.std.specs.Prelude.{◌≡◌, ◌≢◌, ◌⊎◌, ◌↔◌, ℕ, ◌<◌, Bool, true, false, is_none, List, [], ◌∷◌, map, Option, Some, None, option_map, filter_map, bytes_eq, if◌then◌else◌, slice_get}
use Rattle.std.specs.List.{find}
use Rattle.std.specs.Option.{option_map_or}
use Rattle.tree_laws.specs.NameRow.{number_of}
use Rattle.tree_laws.specs.Tree.{TreeState, row_of, kind_of, bytes_of, links_of, names_of}
use Rattle.tree_laws.specs.Sound.{IsSound}
use Rattle.absorb.specs.declared.nets.NetRow.{NetRow}
use Rattle.absorb.specs.Net.{IsNet}
use Rattle.sfs_image.specs.Slot.{Row, kind_byte}
use Rattle.sfs_image.specs.Seen.{Seen, SeenInodes, PLACES}
use Rattle.image_laws.specs.Slots.{in_blocks}
use Rattle.image_laws.specs.Renamed.{Numbering, HasNumber}
use Rattle.image_laws.specs.Stands.{StandsForTree, IsStorable, row_on, own_size, IsUnused}

-- the row of a net that has this name, where there is one
abbrev pub row_in_net : List ℕ → List NetRow → Option NetRow
row_in_net name net = find (λ row. bytes_eq name row.name) net

-- the row that a name has on the disk after a net
abbrev pub brought_row : Numbering → TreeState → NetRow → Option Row
brought_row num tree row = option_map (row_on num tree row.name) (number_of row.after)

-- a slot after a net: a name that is gone empties it, a name with another child keeps it, and any other stays
abbrev pub slot_after : Numbering → TreeState → List NetRow → Option Row → Option Row
slot_after num tree net None = None
slot_after num tree net (Some row) = option_map_or (brought_row num tree) (row_in_net row.name net) (Some row)

-- the rows of the names that are new in a net, in its order
abbrev pub new_rows : Numbering → TreeState → List NetRow → List Row
new_rows num tree net = filter_map (λ row. if is_none row.before then brought_row num tree row else None) net

-- slots with further rows, each in the lowest empty slot, and the last ones behind all slots
abbrev pub filled : List (Option Row) → List Row → List (Option Row)
filled [] rows = map Some rows
filled (slot ∷ slots) [] = slot ∷ slots
filled (None ∷ slots) (row ∷ rows) = Some row ∷ filled slots rows
filled (Some held ∷ slots) (row ∷ rows) = Some held ∷ filled slots (row ∷ rows)

-- the slots of a directory after a net: changed names first, then the new ones in the lowest empty slots
abbrev pub slots_after : Numbering → TreeState → List NetRow → List (Option Row) → List (Option Row)
slots_after num tree net slots = filled (map (slot_after num tree net) slots) (new_rows num tree net)

-- Where a net leaves each row: a row whose name the net has not stays in its slot, one whose name gets another child is changed in its
-- slot, and no slot before that of a further row stays empty.
pub record KeepsPlaces (num : Numbering) (tree : TreeState) (net : List NetRow) (slots : List (Option Row)) : Type 0 where
  pub stays : (place : ℕ) (row : Row) → slice_get slots place ≡ Some (Some row) → row_in_net row.name net ≡ None
      → slice_get (slots_after num tree net slots) place ≡ Some (Some row)
  pub changes : (place : ℕ) (row brought : Row) (change : NetRow) → slice_get slots place ≡ Some (Some row) → row_in_net row.name net ≡ Some change
      → brought_row num tree change ≡ Some brought → slice_get (slots_after num tree net slots) place ≡ Some (Some brought)
  pub lowest : (place later : ℕ) → slice_get (slots_after num tree net slots) place ≡ Some None → place < later
      → slice_get (slots_after num tree net slots) later ≡ slice_get (map (slot_after num tree net) slots) later

-- A commit of some nodes: the numbering before and after, the nodes that it concerns, the net of each directory, and the fresh
-- blocks by inode and place, with the places that take one.
pub record Commit : Type 0 where
  pub before : Numbering
  pub after : Numbering
  pub concerns : ℕ → Bool
  pub nets : ℕ → List NetRow
  pub takes : ℕ → ℕ → Bool
  pub fresh : ℕ → ℕ → ℕ

-- what an inode shows that has nothing: a free one, and what a node without an inode begins with
abbrev pub blank : Seen
blank = record { kind = 0; links = 0; size = 0; slots = []; bytes = []; blocks = λ _. 0 }

-- what the inode of a node shows before a commit
abbrev pub seen_before : Commit → SeenInodes → ℕ → Seen
seen_before commit image node = option_map_or image.seen (commit.before node) blank

-- The inode of a concerned node after a commit: kind, link count and bytes are those of the new tree; the slots are the old ones
-- after the node's net, in the blocks up to the last one that has a row; and the size is that of what it then has.
pub record IsBuiltAnew (commit : Commit) (new : TreeState) (node : ℕ) (old_seen new_seen : Seen) : Type 0 where
  pub kind : new_seen.kind ≡ kind_byte (kind_of new node)
  pub links : new_seen.links ≡ links_of new node
  pub size : new_seen.size ≡ own_size new_seen
  pub bytes : new_seen.bytes ≡ bytes_of new node
  pub slots : new_seen.slots ≡ in_blocks (slots_after commit.after new (commit.nets node) old_seen.slots)

-- What a commit leaves of a node that it does not concern: its rows, its bytes, and the rows that name it.
pub record IsAside (old new : TreeState) (node : ℕ) : Type 0 where
  pub rows : (name : List ℕ) → row_of new node name ≡ row_of old node name
  pub bytes : bytes_of new node ≡ bytes_of old node
  pub naming : (directory : ℕ) (name : List ℕ) → (row_of new directory name ≡ Some node) ↔ (row_of old directory name ≡ Some node)

-- A place of an inode after a commit: a hole, the block that was there, or a fresh one where the place takes one.
pub data HasBlock (commit : Commit) (i place : ℕ) (old_seen new_seen : Seen) : Type 0 where
  hole : new_seen.blocks place ≡ 0 → HasBlock commit i place old_seen new_seen
  kept : new_seen.blocks place ≡ old_seen.blocks place → HasBlock commit i place old_seen new_seen
  fresh : commit.takes i place ≡ true → new_seen.blocks place ≡ commit.fresh i place → HasBlock commit i place old_seen new_seen

-- A node's number after a commit: the one that it had, or, where it had none, that of a free inode.
pub data ComesBy (commit : Commit) (image : SeenInodes) (node i : ℕ) : Type 0 where
  had : commit.before node ≡ Some i → ComesBy commit image node i
  enters : commit.before node ≡ None → i < image.count → IsUnused (image.seen i) → ComesBy commit image node i

-- The numbers that a commit gives: a node keeps its own, and those that enter get free ones, each its own.
pub record GivesNumbers (commit : Commit) (image : SeenInodes) : Type 0 where
  pub comes : (node i : ℕ) → commit.after node ≡ Some i → ComesBy commit image node i
  pub once : (node twin i : ℕ) → commit.before node ≡ None → commit.before twin ≡ None → commit.after node ≡ Some i → commit.after twin ≡ Some i → node ≡ twin

-- The blocks that a commit takes: each place of a concerned node has one of the three, and a fresh block is held by no inode before and taken once.
pub record TakesBlocks (commit : Commit) (image next : SeenInodes) : Type 0 where
  pub has : (node i place : ℕ) → place < PLACES → commit.after node ≡ Some i → commit.concerns node ≡ true
      → HasBlock commit i place (seen_before commit image node) (next.seen i)
  pub unheld : (i place j other : ℕ) → commit.takes i place ≡ true → j < image.count → other < PLACES → (image.seen j).blocks other ≢ commit.fresh i place
  pub once : (i place j other : ℕ) → commit.takes i place ≡ true → commit.takes j other ≡ true → commit.fresh i place ≡ commit.fresh j other
      → (i ≡ j) × (place ≡ other)

-- A commit changes the inodes of an image from those of an old tree to those of a new one.
pub record IsCommit (commit : Commit) (old new : TreeState) (image next : SeenInodes) : Type 0 where
  pub count : next.count ≡ image.count
  -- each net is that of its directory's rows in the two trees
  pub nets : (node : ℕ) → IsNet (names_of node old.rows) (names_of node new.rows) (commit.nets node)
  pub numbers : GivesNumbers commit image
  -- a concerned node is built anew, another one stays as it is, and what is no node's is free
  pub built : (node i : ℕ) → commit.after node ≡ Some i → commit.concerns node ≡ true
      → IsBuiltAnew commit new node (seen_before commit image node) (next.seen i)
  pub stays : (node i : ℕ) → commit.after node ≡ Some i → commit.concerns node ≡ false
      → (commit.before node ≡ Some i) × (next.seen i ≡ image.seen i) × IsAside old new node
  pub rest : (i : ℕ) → i < next.count → ((node : ℕ) × (commit.after node ≡ Some i)) ⊎ IsUnused (next.seen i)
  pub blocks : TakesBlocks commit image next

-- A tree may follow another under a numbering: nodes keep their kinds, the root keeps its number, and each child has one.
pub record MayFollow (num : Numbering) (old new : TreeState) : Type 0 where
  pub kinds : (node : ℕ) → kind_of new node ≡ kind_of old node
  pub root : num 0 ≡ Some 0
  pub named : (directory : ℕ) (name : List ℕ) (child : ℕ) → row_of new directory name ≡ Some child → HasNumber num child

-- A place holds a block after a commit: the one that stood there before, or a fresh one that it takes.
pub data HeldAfter (commit : Commit) (image next : SeenInodes) (i place : ℕ) : Type 0 where
  before : i < image.count → (image.seen i).blocks place ≡ (next.seen i).blocks place → HeldAfter commit image next i place
  taken : commit.takes i place ≡ true → (next.seen i).blocks place ≡ commit.fresh i place → HeldAfter commit image next i place

-- A commit's step: an image stands for a sound tree, and the commit changes its inodes to those of a next tree, which is sound, may
-- follow the first, and is such that an image may stand for it.
pub record IsCommitStep (commit : Commit) (old new : TreeState) (image next : SeenInodes) : Type 0 where
  pub stands : StandsForTree commit.before old image
  pub sound : IsSound old
  pub commits : IsCommit commit old new image next
  pub next_sound : IsSound new
  pub follows : MayFollow commit.after old new
  pub storable : IsStorable commit.after new
