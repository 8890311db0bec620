-- A script is read, or it is not.
use Rattle.std.specs.Io.KnownBytes.{Consumes}
use borrow.Author.Tests.{lt-ltb, le-ltb}
use Rattle.std.proofs.Common.{◌≡◌, ◌+◌, ◌<◌, ◌≤◌, ◌∙◌, ℕ, true, false, List, [], length, Option, Some, None, Result, Ok, Err, cond, nat_lt, refl, sym, ap, subst, arith}
use Rattle.std.proofs.lemmas.List.{length-append}
use Rattle.sfs_base.specs.Ends.{HasRisen}
use Rattle.sfs_base.specs.Transfer.{ReadsAll}
use Rattle.sfs_base.specs.declared.numbers.Measure.TheVariants.{Bytes, Lines}
use Rattle.sfs_base.specs.declared.transfer.ReadAllFault.{ReadAllFault}
use Rattle.sfs_base.specs.declared.transfer.ReadAllFault.TheVariants as source
use Rattle.sfs_dev.specs.Disk.{View, images}
use Rattle.sfs_dev.specs.Run.{Unwritten}
use Rattle.tree_laws.specs.declared.history.Entry.{Entry}
use Rattle.tree_laws.specs.declared.turns.Turn.{Turn}
use Rattle.image_laws.specs.Image.{ImageFault as Fault}
use Rattle.script.specs.declared.commands.Line.{Line}
use Rattle.script.specs.Faults.{IsShort}
use Rattle.script.specs.Lines.{lines}
use Rattle.script.specs.Phases.{phases_of}
use Rattle.scalefs_run.specs.declared.outcome.Status.{Status}
use Rattle.scalefs_run.specs.declared.outcome.Status.TheVariants.{Done, BadWords, BadScript, ReadFault, WriteFault, DiskFault, BadImage, NoMemory, TooManyWorkers, TooLong, TooSmall, WrongHistory, NotAccepted}
use Rattle.scalefs_run.specs.Due.{Judgement, due, judged_status, mounted_status, workers_status, script_status, phases_in}
use Rattle.scalefs_run.specs.Image.{IsImageRefused}
use Rattle.scalefs_run.specs.Outcome.{IsOf, HasStatus, HasHistory, HasText, HasReadFault, IsCommand, status_of_source}
use Rattle.scalefs_run.specs.WithoutCore.{worker_without_core}
use Rattle.scalefs_run.specs.Writing.{text_behind}
use Rattle.scalefs_run.specs.declared.writing.Writing.{Writing}
use Rattle.scalefs_run.specs.declared.writing.Writing.TheVariants.{History}
use Rattle.scalefs_run.specs.Served.{IsMountedBy, RunTold, Served, ServedScript, run_ends, run_told}
use Rattle.scalefs_run.proofs.Serving.{judged_of, judged_told, no_tree, none_so_far, served_no_call, served_unmounted, shows_untouched}

-- why the source could not be read, of the script that it gave
pub read_fault : (Source : Type 0) (left rest : Option (List ℕ)) (taken : List ℕ) (fault : ReadAllFault) → Consumes left rest taken
    → ReadsAll left taken 16777216 (Err fault) → (fault ≡ source.ReadFault → Source)
    → (script : List ℕ) × IsOf left script × HasReadFault script Source (status_of_source fault)
read_fault Source (Some whole) rest taken source.ReadFault takes reads cause = (whole, refl, cause refl)
read_fault Source (Some whole) None taken source.TooLong takes reads cause = absurd takes
read_fault Source (Some whole) (Some behind) taken source.TooLong takes reads cause =
    let long : length whole ≡ length taken + length behind = ap length takes ∙ length-append taken behind in
    let past = reads.0 in
    (whole, refl, omega arith)
read_fault Source (Some whole) rest taken source.NoMemory takes reads cause = (whole, refl, tt)
read_fault Source None rest taken source.ReadFault takes reads cause = (taken, tt, cause refl)
read_fault Source None rest taken source.TooLong takes reads cause = (taken, tt, reads.0)
read_fault Source None rest taken source.NoMemory takes reads cause = (taken, tt, tt)

-- where a script is read, what is due to it is what is due to its phases
module _ (judged : Judgement) (script : List ℕ) where
  abbrev lines_due : Status
  lines_due = cond (nat_lt 262144 (length (lines script))) (TooLong Lines) (script_status judged (phases_of script))

  script_command : (read : Result (List (List Line)) ℕ) → IsCommand (script_status judged read)
  script_command (Ok phases) = by judged.fault
    where
      workers : (asked : Option ℕ) → IsCommand (workers_status judged.cores asked)
      workers None = tt
      workers (Some asked) = tt

      by : (fault : Option Fault) → IsCommand (mounted_status fault judged.cores phases)
      by None = workers (worker_without_core judged.cores phases)
      by (Some fault) = tt
  script_command (Err line) = tt

  due_command : IsCommand (due judged script)
  due_command =
      elim (nat_lt 16777216 (length script)) as (λ b. IsCommand (cond b (TooLong Bytes) lines_due)) [
        | true ↦ tt
        | false ↦
            elim (nat_lt 262144 (length (lines script))) as (λ b. IsCommand (cond b (TooLong Lines) (script_status judged (phases_of script)))) [
              | true ↦
                  tt
              | false ↦ script_command (phases_of script)
            ]
      ]

  due_bytes : 16777216 < length script → due judged script ≡ TooLong Bytes
  due_bytes long = ap (λ b. cond b (TooLong Bytes) lines_due) (lt-ltb _ _ long)

  due_lines : length script ≤ 16777216 → 262144 < length (lines script) → due judged script ≡ TooLong Lines
  due_lines short long =
      ap (λ b. cond b (TooLong Bytes) lines_due) (le-ltb _ _ short)
      ∙ ap (λ b. cond b (TooLong Lines) (script_status judged (phases_of script))) (lt-ltb _ _ long)

  due_read : IsShort script → due judged script ≡ script_status judged (phases_of script)
  due_read short =
      ap (λ b. cond b (TooLong Bytes) lines_due) (le-ltb _ _ short.bytes)
      ∙ ap (λ b. cond b (TooLong Lines) (script_status judged (phases_of script))) (le-ltb _ _ short.lines)

-- the script could not be read
pub served_unread : (nodes : ℕ) (left : Option (List ℕ)) (script : List ℕ) (Source Sink : Type 0) (written : Option (List ℕ)) (disk : View) (status : Status)
    → IsOf left script → HasReadFault script Source status
    → ServedScript nodes left (run_ends Source Sink written written disk disk) (run_told status [] [])
served_unread nodes left script Source Sink written disk status is fault = (script, is, by status fault)
  where
    phases : List (List Line)
    phases = phases_in (phases_of script)

    judged : Judgement
    judged = judged_of disk.content

    ends : (status : Status) → HasStatus (due judged script) Source Sink (HasRisen disk.faults disk.faults) status
        → (IsImageRefused status → Unwritten disk disk) → HasHistory phases [] status → HasText (text_behind History no_tree []) written written status
        → IsMountedBy status [] false
        → Served (λ judged. due judged script) nodes phases History (run_ends Source Sink written written disk disk) (run_told status [] [])
    ends status status_is refused calls text not =
        served_unmounted (λ judged. due judged script) nodes phases History (run_ends Source Sink written written disk disk) status
        (record { judged = judged; judged_told = judged_told disk.content; status_is = status_is; refused = refused }) calls text not (shows_untouched disk)

    by : (status : Status) → HasReadFault script Source status
        → Served (λ judged. due judged script) nodes phases History (run_ends Source Sink written written disk disk) (run_told status [] [])
    by (BadScript line) fault =
        ends (BadScript line) (due_read judged script fault.0 ∙ ap (script_status judged) fault.1) (λ refused. absurd refused) refl refl refl
    by ReadFault fault = ends ReadFault (fault, due_command judged script) (λ refused. absurd refused) refl refl refl
    by NoMemory fault = ends NoMemory (due_command judged script) (λ refused. absurd refused) (none_so_far phases) refl (λ not. refl)
    by (TooLong Bytes) fault = ends (TooLong Bytes) (due_bytes judged script fault) (λ refused. absurd refused) refl refl refl
    by (TooLong Lines) fault = ends (TooLong Lines) (due_lines judged script fault.0 fault.1) (λ refused. absurd refused) refl refl refl
    by _ fault = absurd fault

-- a status that no failure of a source caused is one for each source
any_source : (Source Sink Disk : Type 0) (due : Status) (status : Status) → HasStatus due ⊥ Sink Disk status → HasStatus due Source Sink Disk status
any_source Source Sink Disk due ReadFault h = absurd h.0
any_source Source Sink Disk due Done h = h
any_source Source Sink Disk due (BadWords place) h = h
any_source Source Sink Disk due (BadScript line) h = h
any_source Source Sink Disk due WriteFault h = h
any_source Source Sink Disk due DiskFault h = h
any_source Source Sink Disk due (BadImage fault) h = h
any_source Source Sink Disk due NoMemory h = h
any_source Source Sink Disk due (TooManyWorkers asked have) h = h
any_source Source Sink Disk due (TooLong measure) h = h
any_source Source Sink Disk due (TooSmall need have) h = h
any_source Source Sink Disk due (WrongHistory line) h = h
any_source Source Sink Disk due NotAccepted h = h

-- a run of a made script, whatever source is there
pub served_made : (due_by : Judgement → Status) (nodes : ℕ) (phases : List (List Line)) (writing : Writing) (Source Sink : Type 0)
    (before after : Option (List ℕ)) (old new : View) (told : RunTold)
    → Served due_by nodes phases writing (run_ends ⊥ Sink before after old new) told
    → Served due_by nodes phases writing (run_ends Source Sink before after old new) told
served_made due_by nodes phases writing Source Sink before after old new told served = record {
  caused = record {
    judged = served.caused.judged;
    judged_told = served.caused.judged_told;
    status_is = any_source Source Sink (HasRisen old.faults new.faults) (due_by served.caused.judged) told.status served.caused.status_is;
    refused = served.caused.refused;
  };
  mounted = served.mounted;
  mounted_is = served.mounted_is;
  first = served.first;
  first_is = served.first_is;
  legal = served.legal;
  calls = served.calls;
  text = served.text;
  turns_are = served.turns_are;
  images = served.images;
}

-- memory was refused before a script was there
pub served_no_memory : (nodes : ℕ) (phases : List (List Line)) (writing : Writing) (Source Sink : Type 0) (written : Option (List ℕ)) (disk : View)
    → Served (λ judged. judged_status judged phases) nodes phases writing (run_ends Source Sink written written disk disk) (run_told NoMemory [] [])
served_no_memory nodes phases writing Source Sink written disk =
    served_made (λ judged. judged_status judged phases) nodes phases writing Source Sink written written disk disk (run_told NoMemory [] [])
    (served_no_call nodes phases writing Sink written disk disk (shows_untouched disk))

-- the script was read, and run
pub served_read : (nodes : ℕ) (left : Option (List ℕ)) (script : List ℕ) (phases : List (List Line)) (Source Sink : Type 0) (before after : Option (List ℕ))
    (old new : View) (status : Status) (history : List Entry) (turns : List Turn)
    → IsOf left script → IsShort script → phases_of script ≡ Ok phases
    → Served (λ judged. judged_status judged phases) nodes phases History (run_ends ⊥ Sink before after old new) (run_told status history turns)
    → ServedScript nodes left (run_ends Source Sink before after old new) (run_told status history turns)
served_read nodes left script phases Source Sink before after old new status history turns is short read served = (
  script,
  is,
  record {
    caused = record {
      judged = served.caused.judged;
      judged_told = served.caused.judged_told;
      status_is = any_source Source Sink (HasRisen old.faults new.faults) (due served.caused.judged script) status
          (subst (λ (d : Status). HasStatus d ⊥ Sink (HasRisen old.faults new.faults) status)
          (sym (due_read served.caused.judged script short ∙ ap (script_status served.caused.judged) read)) served.caused.status_is);
      refused = served.caused.refused;
    };
    mounted = served.mounted;
    mounted_is = served.mounted_is;
    first = served.first;
    first_is = served.first_is;
    legal = served.legal;
    calls = subst (λ (p : List (List Line)). HasHistory p history status) (sym (ap phases_in read)) served.calls;
    text = served.text;
    turns_are = served.turns_are;
    images = served.images;
  },
)
