-- What is free in an image, and what a commit needs.
use Rattle.std.specs.Prelude.{◌≡◌, ◌↔◌, ℕ, ◌+◌, ◌-◌, ◌*◌, ◌/◌, ◌%◌, ◌==◌, ◌&&◌, Bool, true, not, List, length, Option, Some, if◌then◌else◌}
use Rattle.std.specs.Option.{option_map_or}
use Rattle.sfs_image.specs.Seen.{Seen, SeenInodes, PLACES}
use Rattle.tree_laws.specs.Tree.{TreeState, names_of, bytes_of, is_directory}
use Rattle.absorb.specs.declared.nets.NetRow.{NetRow}
use Rattle.absorb.specs.Net.{IsNet}
use Rattle.image_laws.specs.Commit.{blank, slots_after}
use Rattle.image_laws.specs.Need.{Rewrite, directory_rewrite, file_rewrite, takes_place, rank}
use Rattle.image_laws.specs.Renamed.{Numbering}
use Rattle.cut_laws.specs.Closure.{every_entry, Flush, IsConcerned, IsRaised, AreInodesAfter}
use Rattle.cut_laws.specs.Cut.{Cut, cut_of, tree_at_cut}
use Rattle.cut_laws.specs.Machine.{MachineState}
use Rattle.turn_laws.specs.Touched.{is_touched_between}

-- What an image has to tell: the numbers of nodes, what its inodes show, and the blocks of the data area, from the first to below the end.
pub record ImageState : Type 0 where
  pub num : Numbering
  pub image : SeenInodes
  pub first_block : ℕ
  pub end_block : ℕ

-- So many inodes and blocks.
pub record Amount : Type 0 where
  pub inodes : ℕ
  pub blocks : ℕ

-- nothing
abbrev pub nothing : Amount
nothing = record { inodes = 0; blocks = 0 }

-- whether an inode is free
abbrev pub is_unused : SeenInodes → ℕ → Bool
is_unused image i = (image.seen i).kind == 0

-- how many inodes are free
abbrev pub free_inodes : ImageState → ℕ
free_inodes state = rank (is_unused state.image) state.image.count

-- whether a place holds a block, in the row of the places of all inodes: its inode is in use, and has the block there
abbrev pub holds_in_row : SeenInodes → ℕ → ℕ → Bool
holds_in_row image block p = not (is_unused image (p / PLACES)) && (image.seen (p / PLACES)).blocks (p % PLACES) == block

-- whether some place holds a block
abbrev pub is_held_in : SeenInodes → ℕ → Bool
is_held_in image block = not (rank (holds_in_row image block) (PLACES * image.count) == 0)

-- how many blocks of the data area are free: no place holds them
abbrev pub free_blocks : ImageState → ℕ
free_blocks state = rank (λ n. not (is_held_in state.image (state.first_block + n))) (state.end_block - state.first_block)

-- What an fsync makes: the nodes that it concerns, the cut that it raises, the nodes that then have an inode, and the net of the rows of
-- each directory.
pub record Made : Type 0 where
  pub concerns : ℕ → Bool
  pub raised : Cut
  pub after : ℕ → Bool
  pub nets : ℕ → List NetRow

-- the tree at the cut of a state, and the tree at the cut that an fsync then raises
abbrev pub tree_before : MachineState → TreeState
tree_before state = tree_at_cut state.first state.history state.cut

abbrev pub tree_made : MachineState → Made → TreeState
tree_made state made = tree_at_cut state.first state.history made.raised

-- This is what an fsync makes of a state.
pub record IsMadeBy (state : MachineState) (flush : Flush) (made : Made) : Type 0 where
  pub concerned : (node : ℕ) → (made.concerns node ≡ true) ↔ IsConcerned state.first state.history every_entry state.cut state.inodes flush node
  pub raises : IsRaised state.first state.history every_entry state.cut state.inodes flush made.raised
  pub inodes_after : AreInodesAfter state.first state.history every_entry state.cut state.inodes flush made.raised made.after
  pub each_net : (node : ℕ) → IsNet (names_of node (tree_before state).rows) (names_of node (tree_made state made).rows) (made.nets node)

-- what the inode of a node shows, and nothing where it has none
abbrev pub seen_under : ImageState → ℕ → Seen
seen_under state node = option_map_or state.image.seen (state.num node) blank

-- numbers that stand in for those of nodes while a need is counted: no inode has one, and no two nodes have the same
abbrev pub stand_in : SeenInodes → Numbering
stand_in image node = Some (image.count + node)

-- what a commit rewrites of a node, whichever inodes it is granted
abbrev pub rewrite_needed : MachineState → ImageState → Made → ℕ → Rewrite
rewrite_needed state image made node =
    if is_directory (tree_made state made) node
    then directory_rewrite (seen_under image node) (slots_after (stand_in image.image) (tree_made state made) (made.nets node) (seen_under image node).slots)
    else file_rewrite (is_touched_between state.first state.history node (cut_of state.cut node) (cut_of made.raised node)) (seen_under image node)
    (bytes_of (tree_made state made) node)

-- a bound of the numbers of all nodes: those of the first tree, and behind them those that its cores may make
abbrev pub node_bound : TreeState → ℕ
node_bound first = first.first + length first.made * first.share

-- whether a node gets an inode
abbrev pub enters_by_made : MachineState → Made → ℕ → Bool
enters_by_made state made node = made.after node && not (state.inodes node)

-- whether a place takes a fresh block, in the row of the places of all nodes, where each node is rewritten so: its node is concerned and has
-- an inode afterwards
abbrev pub needs_place : Made → (ℕ → Rewrite) → ℕ → Bool
needs_place made rewrites p = (made.concerns (p / PLACES) && made.after (p / PLACES)) && takes_place (rewrites (p / PLACES)) (p % PLACES)

-- the same by what a commit rewrites
abbrev pub needs_in_row : MachineState → ImageState → Made → ℕ → Bool
needs_in_row state image made = needs_place made (rewrite_needed state image made)

-- what is needed for what an fsync makes: an inode for each node that gets one, and a block for each place that takes a fresh one
abbrev pub need_of : MachineState → ImageState → Made → Amount
need_of state image made = record {
  inodes = rank (enters_by_made state made) (node_bound state.first);
  blocks = rank (needs_in_row state image made) (PLACES * node_bound state.first);
}

-- An fsync needs so much in a state with an image.
pub record IsNeed (state : MachineState) (image : ImageState) (flush : Flush) (need : Amount) : Type 0 where
  pub made : Made
  pub is_made : IsMadeBy state flush made
  pub counted : need ≡ need_of state image made
