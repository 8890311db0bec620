-- The status that is due to a run.
use Rattle.std.specs.Prelude.{◌≡◌, ℕ, List, [], length, nat_lt, Option, Some, None, Result, Ok, Err, if◌then◌else◌}
use Rattle.sfs_base.specs.declared.numbers.Measure.TheVariants.{Bytes, Lines}
use Rattle.sfs_image.specs.Settled.{layout_of}
use Rattle.image_laws.specs.Image.{ImageFault as Fault, fault_of}
use Rattle.script.specs.declared.commands.Line.{Line}
use Rattle.script.specs.Lines.{lines}
use Rattle.script.specs.Phases.{phases_of}
use Rattle.script.specs.Faults.{MOST_BYTES, MOST_LINES}
use Rattle.scalefs_run.specs.declared.outcome.Status.{Status}
use Rattle.scalefs_run.specs.declared.outcome.Status.TheVariants.{Done, BadScript, BadImage, TooManyWorkers, TooLong}
use Rattle.scalefs_run.specs.Image.{fault_named}
use Rattle.scalefs_run.specs.WithoutCore.{worker_without_core}

-- What is to be said of an image before it is mounted: its first fault, if it has one, and how many cores it has.
pub record Judgement : Type 0 where
  pub fault : Option Fault
  pub cores : ℕ

-- this is said of an image
pub record IsJudged (judged : Judgement) (image : List ℕ) : Type 0 where
  pub fault_is : judged.fault ≡ fault_of image
  pub cores_are : judged.cores ≡ (layout_of image).cores

-- the status that is due where there are so many cores: that of the first worker without one
abbrev pub workers_status : ℕ → Option ℕ → Status
workers_status cores None = Done
workers_status cores (Some asked) = TooManyWorkers asked cores

-- the status that is due to phases on an image: that of its first fault, and where it has none, that of their workers
abbrev pub mounted_status : Option Fault → ℕ → List (List Line) → Status
mounted_status (Some fault) cores phases = BadImage (fault_named fault)
mounted_status None cores phases = workers_status cores (worker_without_core cores phases)

abbrev pub judged_status : Judgement → List (List Line) → Status
judged_status judged phases = mounted_status judged.fault judged.cores phases

-- the status of a script that was read: that of its first bad line, if it has one
abbrev pub script_status : Judgement → Result (List (List Line)) ℕ → Status
script_status judged (Ok phases) = judged_status judged phases
script_status judged (Err line) = BadScript line

-- the status that is due to a script where nothing fails: its length comes first, then its lines, then the image, then the workers
abbrev pub due : Judgement → List ℕ → Status
due judged script =
    if nat_lt MOST_BYTES (length script) then TooLong Bytes else
    if nat_lt MOST_LINES (length (lines script)) then TooLong Lines else
    script_status judged (phases_of script)

-- the phases of a script, none where it has a bad line
abbrev pub phases_in : Result (List (List Line)) ℕ → List (List Line)
phases_in (Ok phases) = phases
phases_in (Err line) = []
