-- What the fronts of worked records show.
use Rattle.std.specs.Prelude.{◌<◌, ◌≡◌, ◌≤◌, ◌∷◌, ℕ, List, Option, []}
use Rattle.sfs_image.specs.Super.{Layout}
use Rattle.sfs_image.specs.Part.{Part}
use Rattle.sfs_image.specs.ImageOf.{Transaction, IsImageOf, with_opened}
use Rattle.tree_laws.specs.declared.turns.Turn.{Turn}
use Rattle.tree_laws.specs.declared.turns.TurnAct.TheVariants as act
use Rattle.slot_image_laws.specs.Images.{RunStart, ShowsFront}
use Rattle.slot_image_laws.specs.Commits.{parts_over}

-- An image has these parts, whatever slots are open in it.
pub record HasParts (layout : Layout) (parts : ℕ → Part) (image : List ℕ) : Type 0 where
  pub table : ℕ → Part
  pub opened : ℕ → Option Transaction
  pub stands : IsImageOf layout opened table image
  pub same : (i : ℕ) → i < layout.inodes → with_opened layout opened table i ≡ parts i

-- Before the first turn an image shows the parts that the run began with.
abbrev pub FirstImagesHaveTheParts : Type 0
FirstImagesHaveTheParts = (run : RunStart) (moment : ℕ) (image : List ℕ) → ShowsFront run [] moment image → HasParts run.layout run.parts image

-- A commit is opened, and is durable by a moment.
pub record IsDurableBy (opened durable : Turn) (moment : ℕ) : Type 0 where
  pub opened_is : opened.act ≡ act.Opened
  pub durable_is : durable.act ≡ act.Durable
  pub same : durable.commit ≡ opened.commit
  pub opened_by : opened.now ≤ moment
  pub durable_by : durable.now ≤ moment

-- What an image since that moment shows of a record of these two turns has the parts that the commit gives, and no others are moved.
abbrev pub DurableCommitsStand : Type 0
DurableCommitsStand = (run : RunStart) (opened durable : Turn) (moment : ℕ) (image : List ℕ) → IsDurableBy opened durable moment
    → ShowsFront run (opened ∷ durable ∷ []) moment image → HasParts run.layout (parts_over (run.gives opened.commit) run.parts) image
