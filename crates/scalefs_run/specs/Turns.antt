-- What the turns at the disk tell of a run.
use Rattle.std.specs.Prelude.{◌≡◌, ◌≤◌, ℕ, Bool, true, false, List, [], is_some, Some}
use Rattle.std.specs.FinMap.{empty, get}
use Rattle.sfs_image.specs.ImageOf.{IsImageOf}
use Rattle.sfs_image.specs.Part.{Part}
use Rattle.sfs_image.specs.Settled.{layout_of, parts_of}
use Rattle.sfs_image.specs.Super.{Layout}
use Rattle.sfs_dev.specs.Disk.{View}
use Rattle.sfs_dev.specs.Steps.{IfTold}
use Rattle.commit_one.specs.Change.{nothing_open}
use Rattle.tree_laws.specs.declared.history.Entry.{Entry}
use Rattle.tree_laws.specs.declared.turns.Turn.{Turn}
use Rattle.tree_laws.specs.Tree.{TreeState}
use Rattle.image_laws.specs.Image.{inodes_shown}
use Rattle.image_laws.specs.Renamed.{Numbering}
use Rattle.image_laws.specs.Stands.{StandsForTree}
use Rattle.cut_laws.specs.Cut.{tree_at_cut}
use Rattle.turn_laws.specs.Need.{ImageState}
use Rattle.turn_laws.specs.Recorded.{IsRecorded}
use Rattle.turn_laws.specs.Ways.{EachGoes}
use Rattle.merge_laws.specs.LeftByTurns.{TellInTime}
use Rattle.space_laws.specs.Laws.{state_of_parts}
use Rattle.recovery.specs.Freed.{AreUnlinkedFree}
use Rattle.slot_image_laws.specs.Run.{RisesFrom}
use Rattle.scalefs_run.specs.Images.{IfToldAndCalm}

-- a layout and parts are an image's: its layout, and its settled parts but for orphans, which are freed
pub record AreOfImage (layout : Layout) (parts : ℕ → Part) (image : List ℕ) : Type 0 where
  pub layout_is : layout ≡ layout_of image
  pub freed : AreUnlinkedFree layout (parts_of layout image) parts

-- each node that has a number is one of a tree, and the number is its own
abbrev pub HaveOwnNumbers : Numbering → TreeState → Type 0
HaveOwnNumbers num tree = (node i : ℕ) → num node ≡ Some i → (i ≡ node) × (is_some (get tree.nodes node) ≡ true)

-- What an image has to tell at the begin of a run: parts that stand for its tree, in which each node has its own number. Where the disk told its
-- content, they are that image's; and where besides nothing was pending, at some moment of the call each image that a crash may leave stands for
-- these parts.
pub record IsImageAtFirst (old new : View) (first : TreeState) (image : ImageState) : Type 0 where
  pub num : Numbering
  pub layout : Layout
  pub parts : ℕ → Part
  pub is : image ≡ state_of_parts num layout parts
  pub stands : StandsForTree num (tree_at_cut first [] empty) (inodes_shown layout parts)
  pub own : HaveOwnNumbers num first
  pub of_image : IfTold old.content (AreOfImage layout parts)
  pub told : IfToldAndCalm old new (λ content. (moment : ℕ) × (old.now ≤ moment) × (moment ≤ new.now)
      × ((left : List ℕ) → new.crash_images moment left → IsImageOf layout nothing_open parts left))

-- The turns of a run are recorded, over an image that stands at its begin, and each fsync of a live node goes its way. Their moments do not fall, and
-- lie within the run; and each acknowledgement is a Durable turn, at its moment.
pub record HasTurns (old new : View) (first : TreeState) (history : List Entry) (turns : List Turn) : Type 0 where
  pub image : ImageState
  pub image_is : IsImageAtFirst old new first image
  pub recorded : IsRecorded first history image old.faults new.faults turns
  pub goes : EachGoes first history turns
  pub dated : RisesFrom old.now turns new.now
  pub tell : TellInTime history turns

-- the same by whether the image was mounted: where it was not, there are none
abbrev pub HasTurnsBy : Bool → View → View → TreeState → List Entry → List Turn → Type 0
HasTurnsBy true old new first history turns = HasTurns old new first history turns
HasTurnsBy false old new first history turns = turns ≡ []
