-- The laws of what a commit leaves of an image once it is durable, each of which a function of the module laws proves.
use Rattle.std.specs.Prelude.{◌≡◌, ◌⊎◌, ℕ, ◌+◌, ◌*◌, ◌<◌, Bool, true, false, List, slice_get, Some, None}
use Rattle.sfs_image.specs.Seen.{PLACES}
use Rattle.tree_laws.specs.Sound.{IsSound}
use Rattle.image_laws.specs.Commit.{MayFollow}
use Rattle.image_laws.specs.Need.{rank}
use Rattle.image_laws.specs.Stands.{StandsForTree, IsStorable}
use Rattle.cut_laws.specs.Machine.{MachineState}
use Rattle.turn_laws.specs.Need.{ImageState, Made, tree_before, tree_made, seen_under, enters_by_made, needs_in_row}
use Rattle.turn_laws.specs.Books.{GivesGranted, IsRewritten, Leaves}

-- The number of a node after a commit: one that stays keeps its own, one that leaves has none, and one that gets an inode has of those that were
-- granted the one behind as many as get one below it.
pub record IsNumberedAfter (state : MachineState) (made : Made) (granted : List ℕ) (old new : ImageState) (node : ℕ) : Type 0 where
  pub stays : (i : ℕ) → old.num node ≡ Some i → made.after node ≡ true → new.num node ≡ Some i
  pub leaves : (i : ℕ) → old.num node ≡ Some i → made.after node ≡ false → new.num node ≡ None
  pub enters : old.num node ≡ None → enters_by_made state made node ≡ true → new.num node ≡ slice_get granted (rank (enters_by_made state made) node)
  pub others : old.num node ≡ None → enters_by_made state made node ≡ false → new.num node ≡ None

-- What was granted is given in the order of the nodes.
abbrev pub GrantedAreGivenInOrder : Type 0
GrantedAreGivenInOrder = (state : MachineState) (made : Made) (granted : List ℕ) (old new : ImageState) (node : ℕ) → GivesGranted state made granted old new
    → IsNumberedAfter state made granted old new node

-- A place after a commit: it has its fresh block where it takes one, and otherwise none or the one that it had; and where its node has an inode
-- afterwards, it takes one exactly where that was counted.
pub record IsPlaceAfter (state : MachineState) (made : Made) (old new : ImageState) (takes : ℕ → ℕ → Bool) (fresh : ℕ → ℕ → ℕ) (node i place : ℕ)
    : Type 0 where
  pub fresh_is : takes i place ≡ true → (new.image.seen i).blocks place ≡ fresh i place
  pub left : takes i place ≡ false
      → ((new.image.seen i).blocks place ≡ 0) ⊎ ((new.image.seen i).blocks place ≡ (seen_under old node).blocks place)
  pub counted : made.concerns node ≡ true → made.after node ≡ true → takes i place ≡ needs_in_row state old made (PLACES * node + place)

-- What is rewritten has what it needs.
abbrev pub RewrittenHaveWhatTheyNeed : Type 0
RewrittenHaveWhatTheyNeed = (state : MachineState) (made : Made) (old new : ImageState) (takes : ℕ → ℕ → Bool) (fresh : ℕ → ℕ → ℕ) (node i place : ℕ)
    → place < PLACES → IsRewritten state made old new takes fresh node i place → IsPlaceAfter state made old new takes fresh node i place

-- A commit may leave its tree: the image stood for a sound tree before it, the next one is sound and may follow, and an image may stand for it.
pub record MayLeave (state : MachineState) (made : Made) (old new : ImageState) : Type 0 where
  pub stands : StandsForTree old.num (tree_before state) old.image
  pub sound : IsSound (tree_before state)
  pub next_sound : IsSound (tree_made state made)
  pub follows : MayFollow new.num (tree_before state) (tree_made state made)
  pub storable : IsStorable new.num (tree_made state made)

-- What it leaves stands for the next tree, and has the same data area.
pub record LeavesNext (state : MachineState) (made : Made) (old new : ImageState) : Type 0 where
  pub stands : StandsForTree new.num (tree_made state made) new.image
  pub first_block : new.first_block ≡ old.first_block
  pub end_block : new.end_block ≡ old.end_block

abbrev pub CommitsLeaveTheNextTree : Type 0
CommitsLeaveTheNextTree = (state : MachineState) (made : Made) (granted : List ℕ) (old new : ImageState) → Leaves state made granted old new
    → MayLeave state made old new → LeavesNext state made old new
