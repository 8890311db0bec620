-- What a run has done when it ends.
use Rattle.std.specs.Prelude.{◌≡◌, ℕ, Bool, true, false, List, [], Option, Some}
use Rattle.sfs_base.specs.Ends.{HasRisen}
use Rattle.sfs_image.specs.Settled.{layout_of}
use Rattle.sfs_dev.specs.Disk.{View}
use Rattle.sfs_dev.specs.Run.{Unwritten}
use Rattle.sfs_dev.specs.Steps.{IfTold}
use Rattle.tree_laws.specs.declared.history.Entry.{Entry}
use Rattle.tree_laws.specs.declared.turns.Turn.{Turn}
use Rattle.tree_laws.specs.History.{IsLegal}
use Rattle.tree_laws.specs.Laws.{IsSoundTree}
use Rattle.tree_laws.specs.Tree.{TreeState}
use Rattle.image_laws.specs.Image.{tree_of}
use Rattle.mount_begin.specs.Mounted.{share_of_nodes}
use Rattle.script.specs.declared.commands.Line.{Line}
use Rattle.script.specs.Phases.{phases_of}
use Rattle.made_script.specs.Made.{made}
use Rattle.scalefs_run.specs.declared.outcome.Status.{Status}
use Rattle.scalefs_run.specs.declared.outcome.Status.TheVariants.{Done, WriteFault, NoMemory}
use Rattle.scalefs_run.specs.Due.{Judgement, IsJudged, due, judged_status, phases_in}
use Rattle.scalefs_run.specs.Image.{IsImageRefused}
use Rattle.scalefs_run.specs.Images.{IfToldAndCalm, HasImagesBy}
use Rattle.scalefs_run.specs.Outcome.{IsOf, HasStatus, HasHistory, HasText}
use Rattle.scalefs_run.specs.Turns.{HasTurnsBy}
use Rattle.scalefs_run.specs.Writing.{text_behind}
use Rattle.scalefs_run.specs.declared.writing.Writing.{Writing}
use Rattle.scalefs_run.specs.declared.writing.Writing.TheVariants.{History, Load}

-- Whether an image was mounted and the script begun, by the status of a run: memory may have been refused before, and then no call was made.
abbrev pub IsMountedBy : Status → List Entry → Bool → Type 0
IsMountedBy Done history mounted = mounted ≡ true
IsMountedBy WriteFault history mounted = mounted ≡ true
IsMountedBy NoMemory history mounted = mounted ≡ false → history ≡ []
IsMountedBy _ history mounted = mounted ≡ false

-- What was at the ends of a run: whether the count of faults of its source or of its sink rose, what was written to the sink before and after, and
-- the disk at the begin and at the end.
pub record RunEnds : Type 1 where
  pub Source : Type 0
  pub Sink : Type 0
  pub before : Option (List ℕ)
  pub after : Option (List ℕ)
  pub old : View
  pub new : View

abbrev pub run_ends : Type 0 → Type 0 → Option (List ℕ) → Option (List ℕ) → View → View → RunEnds
run_ends Source Sink before after old new = record { Source = Source; Sink = Sink; before = before; after = after; old = old; new = new }

-- What a run told: its status, its history and its turns at the disk.
pub record RunTold : Type 0 where
  pub status : Status
  pub history : List Entry
  pub turns : List Turn

abbrev pub run_told : Status → List Entry → List Turn → RunTold
run_told status history turns = record { status = status; history = history; turns = turns }

-- A status has its cause: it is the one due by what is to be said of the image, or tells what failed. A refused image was not written to.
pub record IsCaused (due_by : Judgement → Status) (ends : RunEnds) (status : Status) : Type 0 where
  pub judged : Judgement
  pub judged_told : IfTold ends.old.content (IsJudged judged)
  pub status_is : HasStatus (due_by judged) ends.Source ends.Sink (HasRisen ends.old.faults ends.new.faults) status
  pub refused : IsImageRefused status → Unwritten ends.old ends.new

-- The tree with which a run begins: it is sound, and where the disk told its content, it is the image's, with a share of so many new nodes for
-- each core.
pub record IsFirstTree (nodes : ℕ) (old : View) (first : TreeState) : Type 0 where
  pub sound : IsSoundTree first
  pub told : IfTold old.content (λ image. tree_of image (share_of_nodes nodes (layout_of image)) ≡ Some first)

-- A run over a script with these phases, in which so many nodes may be made, that writes this at its end had these ends and told this.
pub record Served (due_by : Judgement → Status) (nodes : ℕ) (phases : List (List Line)) (writing : Writing) (ends : RunEnds) (told : RunTold) : Type 0 where
  -- the status has its cause
  pub caused : IsCaused due_by ends told.status
  -- whether the image was mounted and the script begun
  pub mounted : Bool
  pub mounted_is : IsMountedBy told.status told.history mounted
  -- the tree of the image that was mounted
  pub first : TreeState
  pub first_is : mounted ≡ true → IsFirstTree nodes ends.old first
  -- the history is a legal run of a one-thread tree that begins with it
  pub legal : IsLegal first told.history
  -- it holds each worker's calls, each once, in their order, phase by phase
  pub calls : HasHistory phases told.history told.status
  -- its text was written
  pub text : HasText (text_behind writing first told.history) ends.before ends.after told.status
  -- its turns at the disk tell what each fsync did
  pub turns_are : HasTurnsBy mounted ends.old ends.new first told.history told.turns
  -- what a crash leaves at each moment, and what a read gives at the end
  pub images : IfToldAndCalm ends.old ends.new (HasImagesBy mounted nodes first ends.old ends.new told.history told.turns)

-- the same of the script that the source gave
abbrev pub ServedScript : ℕ → Option (List ℕ) → RunEnds → RunTold → Type 0
ServedScript nodes left ends told =
    (script : List ℕ) × IsOf left script × Served (λ judged. due judged script) nodes (phases_in (phases_of script)) History ends told

-- how many nodes `load` may make
abbrev pub LOAD_NODES : ℕ
LOAD_NODES = 65536

-- the same of a made script in place of the source's
abbrev pub ServedLoad : ℕ → ℕ → ℕ → RunEnds → RunTold → Type 0
ServedLoad seed count workers ends told =
    Served (λ judged. judged_status judged (made seed count workers)) LOAD_NODES (made seed count workers) (Load seed count workers) ends told
