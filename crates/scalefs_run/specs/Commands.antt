-- What a call has done, by its words.
use Rattle.std.specs.Prelude.{◌≡◌, ◌⊎◌, ℕ, List, [], Option, Result, Ok, Err}
use Rattle.scalefs_run.specs.declared.outcome.Status.TheVariants.{BadWords, NoMemory}
use Rattle.sfs_dev.specs.Run.{Unwritten}
use Rattle.scalefs_run.specs.Checked.{ChecksHistory}
use Rattle.scalefs_run.specs.Image.{MakesImage, ShowsImage}
use Rattle.scalefs_run.specs.Served.{RunEnds, RunTold, ServedScript, ServedLoad}
use Rattle.scalefs_run.specs.Verified.{VerifiesImage}
use Rattle.words.specs.declared.command.Command.{Command}
use Rattle.words.specs.declared.command.Command.TheVariants.{Mkfs, Show, Run, Load, Check, Verify}
use Rattle.words.specs.Words.{layout_asked}

-- Words were refused for this place, or for want of memory: nothing was written, neither text nor to the disk, and no call made.
pub record RefusesWords (place : ℕ) (ends : RunEnds) (told : RunTold) : Type 0 where
  pub status_is : (told.status ≡ BadWords place) ⊎ (told.status ≡ NoMemory)
  pub text : ends.after ≡ ends.before
  pub disk : Unwritten ends.old ends.new
  pub none : told.history ≡ []
  pub no_turn : told.turns ≡ []

-- What a command has done: only `run` and `load` make calls.
abbrev pub ServedCommand : Command → Option (List ℕ) → RunEnds → RunTold → Type 0
ServedCommand (Mkfs blocks inodes cores slots) left ends told =
    MakesImage (layout_asked blocks inodes cores slots) ends.Sink ends.before ends.after ends.old ends.new told.status
    × (told.history ≡ []) × (told.turns ≡ [])
ServedCommand Show left ends told =
    ShowsImage ends.Sink ends.before ends.after ends.old ends.new told.status × (told.history ≡ []) × (told.turns ≡ [])
ServedCommand (Run nodes) left ends told = ServedScript nodes left ends told
ServedCommand (Load seed count workers) left ends told = ServedLoad seed count workers ends told
ServedCommand (Check nodes) left ends told = ChecksHistory nodes left ends told.status × (told.history ≡ []) × (told.turns ≡ [])
ServedCommand Verify left ends told =
    VerifiesImage ends.Sink ends.before ends.after ends.old ends.new told.status × (told.history ≡ []) × (told.turns ≡ [])

-- the same of words, which may be no command
abbrev pub ServedWords : Result Command ℕ → Option (List ℕ) → RunEnds → RunTold → Type 0
ServedWords (Ok command) left ends told = ServedCommand command left ends told
ServedWords (Err place) left ends told = RefusesWords place ends told
