-- The laws of needs, each of which a function of the module laws proves.
use Rattle.std.specs.Prelude.{◌≡◌, ◌≢◌, ◌↔◌, ℕ, ◌<◌, ◌&&◌, Bool, true, false, List, [], ◌∷◌, length, map, IsSome}
use Rattle.std.specs.FinMap.{get}
use Rattle.sfs_base.specs.Listed.{is_listed}
use Rattle.sfs_image.specs.Seen.{SeenInodes, PLACES}
use Rattle.tree_laws.specs.declared.history.Entry.{Entry}
use Rattle.tree_laws.specs.History.{tree_after, IsLegal}
use Rattle.tree_laws.specs.Laws.{IsSoundTree}
use Rattle.tree_laws.specs.Tree.{TreeState, names_of}
use Rattle.absorb.specs.declared.nets.NetRow.{NetRow}
use Rattle.absorb.specs.Net.{IsNet}
use Rattle.image_laws.specs.Commit.{Commit, seen_before, slots_after, GivesNumbers, MayFollow}
use Rattle.image_laws.specs.Need.{directory_rewrite, blocks_needed}
use Rattle.image_laws.specs.Stands.{StandsForTree}
use Rattle.cut_laws.specs.Closure.{Flush}
use Rattle.cut_laws.specs.Machine.{MachineState}
use Rattle.turn_laws.specs.Need.{ImageState, Amount, is_unused, is_held_in, Made, stand_in, rewrite_needed, node_bound, enters_by_made, need_of, IsNeed}

-- A commit's numbers go on from an image that stands for the old tree to a tree that may follow it.
pub record NumbersGoOn (commit : Commit) (old new : TreeState) (image : SeenInodes) : Type 0 where
  pub stands : StandsForTree commit.before old image
  pub gives : GivesNumbers commit image
  pub follows : MayFollow commit.after old new

-- What is then rewritten of a directory is the same by the numbers that stand in and by those that the commit gives.
abbrev pub RewritesNeedNoNumbers : Type 0
RewritesNeedNoNumbers = (commit : Commit) (old new : TreeState) (image : SeenInodes) (node : ℕ) (net : List NetRow) → NumbersGoOn commit old new image
    → IsNet (names_of node old.rows) (names_of node new.rows) net
    → directory_rewrite (seen_before commit image node) (slots_after (stand_in image) new net (seen_before commit image node).slots)
    ≡ directory_rewrite (seen_before commit image node) (slots_after commit.after new net (seen_before commit image node).slots)

-- What an fsync needs in a state has one value.
abbrev pub NeedsOnce : Type 0
NeedsOnce =
    (state : MachineState) (image : ImageState) (flush : Flush) (need other : Amount) → IsNeed state image flush need → IsNeed state image flush other
    → need ≡ other

-- Each node of a history from a sound tree has a number below the bound up to which needs are counted.
abbrev pub NodesAreCounted : Type 0
NodesAreCounted =
    (first : TreeState) (history : List Entry) (node : ℕ) → IsSoundTree first → IsLegal first history → IsSome (get (tree_after first history).nodes node)
    → node < node_bound first

-- no number stands in a list twice
abbrev pub AreOnce : List ℕ → Type 0
AreOnce [] = Unit {0}
AreOnce (number ∷ numbers) = (is_listed numbers number ≡ false) × AreOnce numbers

-- A list has exactly the nodes that pass a test, each once, and each with a number below the bound.
pub record ListsNodes (first : TreeState) (test : ℕ → Bool) (nodes : List ℕ) : Type 0 where
  pub once : AreOnce nodes
  pub each : (node : ℕ) → is_listed nodes node ≡ test node
  pub below : (node : ℕ) → test node ≡ true → node < node_bound first

-- A commit needs as many blocks as the listed rewritings take of the nodes that it concerns and that have an inode after it.
abbrev pub BlocksAreListed : Type 0
BlocksAreListed =
    (state : MachineState) (image : ImageState) (made : Made) (nodes : List ℕ) → ListsNodes state.first (λ node. made.concerns node && made.after node) nodes
    → (need_of state image made).blocks ≡ blocks_needed (map (rewrite_needed state image made) nodes)

-- And as many inodes as nodes are listed that get one.
abbrev pub InodesAreListed : Type 0
InodesAreListed = (state : MachineState) (image : ImageState) (made : Made) (entering : List ℕ) → ListsNodes state.first (enters_by_made state made) entering
    → (need_of state image made).inodes ≡ length entering

-- An inode that is in use has a block at a place.
pub record IsHeldBy (image : SeenInodes) (block : ℕ) : Type 0 where
  pub inode : ℕ
  pub place : ℕ
  pub within : inode < image.count
  pub low : place < PLACES
  pub used : (image.seen inode).kind ≢ 0
  pub has : (image.seen inode).blocks place ≡ block

-- A block counts as held exactly where one has it.
abbrev pub HeldAreFound : Type 0
HeldAreFound = (image : SeenInodes) (block : ℕ) → (is_held_in image block ≡ true) ↔ IsHeldBy image block
