-- Words were not read, or they were refused: nothing was done.
use Rattle.std.proofs.Common.{◌≡◌, inl, inr, ℕ, true, false, List, [], Option, Some, None, Result, Ok, Err, cond, nat_lt, refl, sym, ap, subst, arith}
use Rattle.sfs_base.specs.declared.transfer.ReadAllFault.TheVariants as source
use Rattle.sfs_base.proofs.BasicOptions.{none_some, some_same}
use Rattle.sfs_base.proofs.BasicTruth.{false_not_true}
use Rattle.sfs_image.specs.Super.{Layout}
use Rattle.sfs_dev.specs.Disk.{View}
use Rattle.sfs_dev.specs.Run.{Unwritten}
use Rattle.sfs_dev.specs.Steps.{IfTold}
use Rattle.image_laws.specs.Image.{ImageFault as Fault, fault_of}
use Rattle.image_verdict.specs.declared.judging.Verdict.TheVariants as verdict
use Rattle.scalefs_run.specs.declared.outcome.Status.{Status}
use Rattle.scalefs_run.specs.declared.outcome.Status.TheVariants.{Done, BadWords, NoMemory, TooSmall}
use Rattle.words.specs.declared.command.Command.{Command}
use Rattle.words.specs.declared.command.Command.TheVariants.{Mkfs, Show, Run, Load, Check, Verify}
use Rattle.words.specs.declared.command.WordsFault.{WordsFault}
use Rattle.words.specs.declared.command.WordsFault.TheVariants as words
use Rattle.words.specs.Read.{IsAnswer}
use Rattle.words.specs.Words.{layout_asked}
use Rattle.scalefs_run.specs.Commands.{ServedCommand, ServedWords}
use Rattle.scalefs_run.specs.Image.{blocks_wanted, making_due, showing_due}
use Rattle.scalefs_run.specs.Outcome.{IsOf, IsCommand, status_of_words}
use Rattle.made_script.specs.Made.{made}
use Rattle.scalefs_run.specs.declared.writing.Writing.TheVariants.{Load as Made}
use Rattle.scalefs_run.specs.Served.{LOAD_NODES, run_ends, run_told}
use Rattle.scalefs_run.proofs.Checking.{check_unread}
use Rattle.scalefs_run.proofs.Reading.{served_no_memory, served_unread}
use Rattle.scalefs_run.proofs.Serving.{shows_untouched}

-- a disk on which nothing was done was not written to
pub unwritten : (disk : View) → Unwritten disk disk
unwritten disk = record {
  content = refl;
  left = λ image. (λ there. there, λ there. there);
  at_each_moment = λ counts k image from to left. subst (λ n. disk.crash_images n image) (omega (arith, from, to)) left;
}

making_command : (layout : Layout) (size : ℕ) → IsCommand (making_due layout size)
making_command layout size =
    elim (nat_lt layout.blocks (blocks_wanted layout)) as (λ b. IsCommand (cond b (TooSmall (blocks_wanted layout) layout.blocks)
    (cond (nat_lt size layout.blocks) (TooSmall layout.blocks size) Done))) [
      | true ↦ tt
      | false ↦ elim (nat_lt size layout.blocks) as (λ b. IsCommand (cond b (TooSmall layout.blocks size) Done)) [
        | true ↦ tt
        | false ↦ tt
      ]
    ]

showing_command : (fault : Option Fault) → IsCommand (showing_due fault)
showing_command None = tt
showing_command (Some fault) = tt

-- the status that is due to `show` of what a disk tells
abbrev due_of : Option (List ℕ) → Status
due_of None = Done
due_of (Some image) = showing_due (fault_of image)

due_command : (told : Option (List ℕ)) → IsCommand (due_of told)
due_command None = tt
due_command (Some image) = showing_command (fault_of image)

due_told : (told : Option (List ℕ)) → IfTold told (λ image. due_of told ≡ showing_due (fault_of image))
due_told None image e = absurd (none_some e)
due_told (Some was) image e = ap (λ i. showing_due (fault_of i)) (some_same e)

-- what a source has left is the text of some script
some_script : (left : Option (List ℕ)) → (script : List ℕ) × IsOf left script
some_script None = ([], tt)
some_script (Some script) = (script, refl)

module _ (left : Option (List ℕ)) (Source Sink : Type 0) (written : Option (List ℕ)) (disk : View) where
  -- memory was refused before anything was done
  pub no_memory_yet : (command : Command) → ServedCommand command left (run_ends Source Sink written written disk disk) (run_told NoMemory [] [])
  no_memory_yet (Mkfs blocks inodes cores slots) = (
    record {
      status_is = making_command (layout_asked blocks inodes cores slots) disk.size;
      text = refl;
      made = λ has. absurd (false_not_true has);
      untouched = λ refused. unwritten disk;
    },
    refl,
    refl,
  )
  no_memory_yet Show = (
    record {
      due = due_of disk.content;
      due_told = due_told disk.content;
      status_is = due_command disk.content;
      tree = None;
      sound = λ read e. absurd (none_some e);
      tree_told = λ image told read e. absurd (none_some e);
      text = (refl, refl);
      moments = λ image told calm counts. shows_untouched disk image told calm counts;
      refused = λ refused. absurd refused;
      recovered = λ image told calm has. absurd (false_not_true has);
    },
    refl,
    refl,
  )
  no_memory_yet (Run nodes) =
      let script = some_script left in
      served_unread nodes left script.0 Source Sink written disk NoMemory script.1 tt
  no_memory_yet (Load seed count workers) =
      served_no_memory LOAD_NODES (made seed count workers) (Made seed count workers) Source Sink written disk
  no_memory_yet (Check nodes) =
      let text = some_script left in
      (check_unread nodes left text.0 Source Sink written disk source.NoMemory text.1 tt, refl, refl)
  no_memory_yet Verify = (
    record {
      verdict = verdict.NoMemory;
      status_is = refl;
      given = record {
        due = λ image told. tt;
        text = [];
        text_told = λ image told has. absurd (false_not_true has);
        written = refl;
        cause = tt;
        unwritten = unwritten disk;
      };
    },
    refl,
    refl,
  )

  -- words that were refused
  pub refused_words : (asked : Result Command ℕ) (fault : WordsFault) → IsAnswer asked (Err fault)
      → ServedWords asked left (run_ends Source Sink written written disk disk) (run_told (status_of_words fault) [] [])
  refused_words (Ok command) (words.BadWords place) is = absurd (ok_not_err is)
    where
      ok_not_err : {command : Command} {place : ℕ} → ◌≡◌ {A = Result Command ℕ} (Ok command) (Err place) → ⊥
      ok_not_err e = cc
  refused_words (Ok command) words.NoMemory is = no_memory_yet command
  refused_words (Err place) (words.BadWords at) is = record {
    status_is = inl (ap BadWords (sym (err_same is)));
    text = refl;
    disk = unwritten disk;
    none = refl;
    no_turn = refl;
  }
    where
      err_same : {at place : ℕ} → ◌≡◌ {A = Result Command ℕ} (Err place) (Err at) → place ≡ at
      err_same e = cc
  refused_words (Err place) words.NoMemory is = record { status_is = inr refl; text = refl; disk = unwritten disk; none = refl; no_turn = refl }
