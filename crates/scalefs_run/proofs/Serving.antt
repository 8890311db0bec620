-- A run ends.
use Rattle.std.specs.FinMap.{empty}
use Rattle.std.proofs.Common.{◌≡◌, ◌∙◌, ℕ, true, false, List, [], Option, Some, None, Err, refl, sym, ap, subst, arith}
use Rattle.std.proofs.lemmas.List.{append-nil}
use Rattle.sfs_base.specs.Ends.{HasRisen}
use Rattle.sfs_base.proofs.BasicOptions.{none_some, some_same}
use Rattle.sfs_base.proofs.BasicTruth.{false_not_true}
use Rattle.sfs_image.specs.Settled.{layout_of}
use Rattle.sfs_image.specs.Super.{Layout}
use Rattle.sfs_dev.specs.Disk.{View, OnlyTold, images}
use Rattle.sfs_dev.specs.Run.{EachMoment, HasReadCause, Unwritten}
use Rattle.sfs_dev.specs.Steps.{IfTold}
use Rattle.tree_laws.specs.declared.history.Entry.{Entry}
use Rattle.tree_laws.specs.Tree.{TreeState}
use Rattle.image_laws.specs.Image.{ImageFault as Fault, Super as SuperFault, Journal as JournalFault, Tree as TreeFault, fault_of, tree_of}
use Rattle.recovery.specs.Cause.{is_recover_disk_fault}
use Rattle.recovery.specs.Judging.{IsFaultOf}
use Rattle.recovery.specs.Recovered.{ShowsTheSame, LeavesRefused}
use Rattle.recovery.specs.declared.fault.RecoverFault.{RecoverFault}
use Rattle.recovery.specs.declared.fault.RecoverFault.TheVariants as recover
use Rattle.recovery.proofs.JudgedImage.{has_no_fault}
use Rattle.mount_begin.specs.Mounted.{share_of_nodes}
use Rattle.mount_begin.specs.declared.begin.Mounted.{Mounted}
use Rattle.volume_laws.specs.Mounting.{WasMounted}
use Rattle.script.specs.declared.commands.Line.{Line}
use Rattle.script.specs.Follows.{Follows, FollowsSoFar}
use Rattle.script.proofs.FollowLemmas.{FollowsSoFar-whole}
use Rattle.scalefs_run.specs.declared.outcome.Status.{Status}
use Rattle.scalefs_run.specs.declared.outcome.Status.TheVariants.{Done, BadWords, BadScript, ReadFault, WriteFault, DiskFault, BadImage, NoMemory, TooManyWorkers, TooLong, TooSmall, WrongHistory, NotAccepted}
use Rattle.scalefs_run.specs.Due.{Judgement, IsJudged, due, judged_status, mounted_status, workers_status}
use Rattle.scalefs_run.specs.Image.{IsImageRefused, status_of_recovery, fault_named}
use Rattle.scalefs_run.specs.Images.{IfToldAndCalm}
use Rattle.scalefs_run.specs.Outcome.{HasStatus, HasHistory, HasText, IsWriteStatus, IsCommand, ComesToDisk, reaches_disk}
use Rattle.scalefs_run.specs.WithoutCore.{worker_without_core}
use Rattle.scalefs_run.specs.Writing.{text_behind}
use Rattle.scalefs_run.specs.declared.writing.Writing.{Writing}
use Rattle.scalefs_run.specs.Served.{IsCaused, IsFirstTree, IsMountedBy, RunEnds, RunTold, Served, run_ends, run_told}
use Rattle.scalefs_run.specs.Ran.{LeavesRun}

-- each moment of a call shows what the image at its entry does
abbrev pub ShowsEntry : View → View → Type 0
ShowsEntry old new = IfToldAndCalm old new (λ image. EachMoment old new (λ _ now. ShowsTheSame now image))

-- a disk on which nothing was done
pub shows_untouched : (disk : View) → ShowsEntry disk disk
shows_untouched disk image told calm counts k now from to left =
    let here : k ≡ disk.now = omega arith in
    let same : now ≡ image = (subst (λ (o : Option (List ℕ)). OnlyTold o (images disk)) told calm) now (subst (λ n. disk.crash_images n now) here left) in
    record { fault = ap fault_of same; tree = λ share. ap (λ i. tree_of i share) same }

-- what is to be said of the image of a disk
abbrev pub judged_of : Option (List ℕ) → Judgement
judged_of (Some image) = record { fault = fault_of image; cores = (layout_of image).cores }
judged_of None = record { fault = None; cores = 0 }

pub judged_told : (told : Option (List ℕ)) → IfTold told (IsJudged (judged_of told))
judged_told (Some was) image e = let same = some_same e in record { fault_is = ap fault_of same; cores_are = ap (λ i. (layout_of i).cores) same }
judged_told None image e = absurd (none_some e)

-- the cores of an image whose first fault is known
judged_with : (fault : Fault) (told : Option (List ℕ)) → IfTold told (λ image. fault_of image ≡ Some fault)
    → IfTold told (IsJudged (record { fault = Some fault; cores = (judged_of told).cores }))
judged_with fault told is image there = record { fault_is = sym (is image there); cores_are = (judged_told told image there).cores_are }

-- a tree for a run that has none
pub no_tree : TreeState
no_tree = record { rows = empty; nodes = empty; first = 0; share = 0; made = [] }

-- no call of a script's was made yet
pub none_so_far : (phases : List (List Line)) → FollowsSoFar phases []
none_so_far phases = FollowsSoFar-whole [] phases [] refl

-- the status of writing is one of the run
pub write_status : (Sink Disk : Type 0) (status : Status) → IsWriteStatus Sink status → HasStatus Done ⊥ Sink Disk status
write_status Sink Disk Done h = refl
write_status Sink Disk (BadWords place) h = absurd h
write_status Sink Disk (BadScript line) h = absurd h
write_status Sink Disk ReadFault h = absurd h
write_status Sink Disk WriteFault h = (h, refl)
write_status Sink Disk DiskFault h = absurd h
write_status Sink Disk (BadImage fault) h = absurd h
write_status Sink Disk NoMemory h = tt
write_status Sink Disk (TooManyWorkers asked have) h = absurd h
write_status Sink Disk (TooLong measure) h = absurd h
write_status Sink Disk (TooSmall need have) h = absurd h
write_status Sink Disk (WrongHistory line) h = absurd h
write_status Sink Disk NotAccepted h = absurd h

-- no call was made, on an image that was not mounted
pub served_unmounted : (due_by : Judgement → Status) (nodes : ℕ) (phases : List (List Line)) (writing : Writing) (ends : RunEnds) (status : Status)
    → IsCaused due_by ends status → HasHistory phases [] status → HasText (text_behind writing no_tree []) ends.before ends.after status
    → IsMountedBy status [] false → ShowsEntry ends.old ends.new → Served due_by nodes phases writing ends (run_told status [] [])
served_unmounted due_by nodes phases writing ends status caused calls text not_mounted shows = record {
  caused = caused;
  mounted = false;
  mounted_is = not_mounted;
  first = no_tree;
  first_is = λ was. absurd (false_not_true was);
  legal = tt;
  calls = calls;
  text = text;
  turns_are = refl;
  images = shows;
}

-- a refused image: its status is due
module _ (nodes : ℕ) (phases : List (List Line)) (writing : Writing) (Sink : Type 0) (written : Option (List ℕ)) (old new : View)
    (shows : ShowsEntry old new) where
  abbrev due_by : Judgement → Status
  due_by judged = judged_status judged phases

  -- it comes to the disk
  judged_comes : (judged : Judgement) → ComesToDisk (due_by judged) × IsCommand (due_by judged)
  judged_comes judged = by judged.fault
    where
      workers : (asked : Option ℕ) → ComesToDisk (workers_status judged.cores asked) × IsCommand (workers_status judged.cores asked)
      workers None = (tt, tt)
      workers (Some asked) = (tt, tt)

      by : (fault : Option Fault) → ComesToDisk (mounted_status fault judged.cores phases) × IsCommand (mounted_status fault judged.cores phases)
      by None = workers (worker_without_core judged.cores phases)
      by (Some fault) = (tt, tt)

  abbrev ends : RunEnds
  ends = run_ends ⊥ Sink written written old new

  ends_refused : (fault : Fault) (status : Status) → IfTold old.content (λ image. fault_of image ≡ Some fault) → Unwritten old new
      → BadImage (fault_named fault) ≡ status → Served due_by nodes phases writing ends (run_told status [] [])
  ends_refused fault status is unwritten same =
      subst (λ (s : Status). Served due_by nodes phases writing ends (run_told s [] [])) same
      (served_unmounted due_by nodes phases writing ends (BadImage (fault_named fault))
      (record {
        judged = record { fault = Some fault; cores = (judged_of old.content).cores };
        judged_told = judged_with fault old.content is;
        status_is = refl;
        refused = λ refused. unwritten;
      }) refl refl refl shows)

  -- memory was refused before the first call
  pub served_no_call : Served due_by nodes phases writing ends (run_told NoMemory [] [])
  served_no_call =
      served_unmounted due_by nodes phases writing ends NoMemory
      (record {
        judged = judged_of old.content;
        judged_told = judged_told old.content;
        status_is = (judged_comes (judged_of old.content)).1;
        refused = λ refused. absurd refused;
      }) (none_so_far phases) refl (λ not. refl) shows

  pub served_refused : (fault : RecoverFault) → IfTold old.content (λ image. IsFaultOf image fault) → LeavesRefused old new fault
      → HasReadCause {V = Mounted} is_recover_disk_fault old.faults new.faults (Err fault)
      → Served due_by nodes phases writing ends (run_told (status_of_recovery fault) [] [])
  served_refused recover.DiskFailed is left cause =
      served_unmounted due_by nodes phases writing ends DiskFault
      (record {
        judged = judged_of old.content;
        judged_told = judged_told old.content;
        status_is = (cause, (judged_comes (judged_of old.content)).0);
        refused = λ refused. absurd refused;
      }) refl refl refl shows
  served_refused (recover.BadSuper at) is left cause = ends_refused (SuperFault at) _ is left refl
  served_refused (recover.BadJournal core slot at) is left cause = ends_refused (JournalFault (record { core = core; slot = slot; at = at })) _ is left refl
  served_refused (recover.BadImage inode rule) is left cause = ends_refused (TreeFault (record { rule = rule; inode = inode })) _ is left refl
  served_refused recover.NoMemory is left cause = served_no_call

-- a mounted image has no fault, and as many cores as there are
module _ (nodes : ℕ) (begun : Mounted) (phases : List (List Line)) (writing : Writing) (old mid : View) (was : WasMounted nodes begun old mid) where
  abbrev judged : Judgement
  judged = record { fault = None; cores = begun.layout.cores }

  judged_is : IfTold old.content (IsJudged judged)
  judged_is image told =
      let is = was.told image told in
      record {
        fault_is = sym (has_no_fault image (share_of_nodes nodes begun.layout) begun.tree is.tree);
        cores_are = ap (λ (l : Layout). l.cores) is.layout_is;
      }

  -- its tree
  first_tree : IsFirstTree nodes old begun.tree
  first_tree = record {
    sound = was.sound.sound;
    told = λ image told.
        let is = was.told image told in
        subst (λ (l : Layout). tree_of image (share_of_nodes nodes l) ≡ Some begun.tree) is.layout_is is.tree;
  }

  -- a worker has no core
  pub served_without_core : (Sink : Type 0) (written : Option (List ℕ)) (asked have : ℕ) → have ≡ begun.layout.cores
      → worker_without_core begun.layout.cores phases ≡ Some asked
      → Served (λ judged. judged_status judged phases) nodes phases writing (run_ends ⊥ Sink written written old mid)
      (run_told (TooManyWorkers asked have) [] [])
  served_without_core Sink written asked have is none =
      served_unmounted (λ judged. judged_status judged phases) nodes phases writing (run_ends ⊥ Sink written written old mid) (TooManyWorkers asked have)
      (record {
        judged = judged;
        judged_told = judged_is;
        status_is = ap (workers_status begun.layout.cores) none ∙ ap (TooManyWorkers asked) (sym is);
        refused = λ refused. absurd refused;
      }) refl refl refl was.moments

  -- memory was refused before a volume was there
  pub served_unbegun : (Sink : Type 0) (written : Option (List ℕ))
      → Served (λ judged. judged_status judged phases) nodes phases writing (run_ends ⊥ Sink written written old mid) (run_told NoMemory [] [])
  served_unbegun Sink written = served_no_call nodes phases writing Sink written old mid was.moments

  not_refused : (Sink : Type 0) (new : View) (status : Status) → IsWriteStatus Sink status → IsImageRefused status → Unwritten old new
  not_refused Sink new (BadImage fault) is refused = absurd is
  not_refused Sink new _ is refused = absurd refused

  mounted_by : (Sink : Type 0) (history : List Entry) (status : Status) → IsWriteStatus Sink status → IsMountedBy status history true
  mounted_by Sink history Done is = refl
  mounted_by Sink history WriteFault is = refl
  mounted_by Sink history NoMemory is = λ not. absurd (false_not_true (sym not))
  mounted_by Sink history _ is = absurd is

  -- a script was run
  pub served_run : (Sink : Type 0) (before after : Option (List ℕ)) (new : View) (told : RunTold)
      → worker_without_core begun.layout.cores phases ≡ None → LeavesRun nodes begun.tree old new told.history told.turns
      → IsWriteStatus Sink told.status → HasHistory phases told.history told.status
      → HasText (text_behind writing begun.tree told.history) before after told.status
      → Served (λ judged. judged_status judged phases) nodes phases writing (run_ends ⊥ Sink before after old new) told
  served_run Sink before after new told none leaves wrote calls text = record {
    caused = record {
      judged = judged;
      judged_told = judged_is;
      status_is =
          subst (λ (due : Status). HasStatus due ⊥ Sink (HasRisen old.faults new.faults) told.status) (sym (ap (workers_status begun.layout.cores) none))
          (write_status Sink (HasRisen old.faults new.faults) told.status wrote);
      refused = not_refused Sink new told.status wrote;
    };
    mounted = true;
    mounted_is = mounted_by Sink told.history told.status wrote;
    first = begun.tree;
    first_is = λ was. first_tree;
    legal = leaves.legal;
    calls = calls;
    text = text;
    turns_are = leaves.turns_are;
    images = leaves.images;
  }

-- a whole history is that of each status of writing
pub write_history : (Sink : Type 0) (phases : List (List Line)) (history : List Entry) (status : Status) → IsWriteStatus Sink status → Follows phases history
    → HasHistory phases history status
write_history Sink phases history Done h follows = follows
write_history Sink phases history (BadWords place) h follows = absurd h
write_history Sink phases history (BadScript line) h follows = absurd h
write_history Sink phases history ReadFault h follows = absurd h
write_history Sink phases history WriteFault h follows = follows
write_history Sink phases history DiskFault h follows = absurd h
write_history Sink phases history (BadImage fault) h follows = absurd h
write_history Sink phases history NoMemory h follows =
    subst (λ (p : List (List Line)). FollowsSoFar p history) (append-nil phases) (FollowsSoFar-whole phases [] history follows)
write_history Sink phases history (TooManyWorkers asked have) h follows = absurd h
write_history Sink phases history (TooLong measure) h follows = absurd h
write_history Sink phases history (TooSmall need have) h follows = absurd h
write_history Sink phases history (WrongHistory line) h follows = absurd h
write_history Sink phases history NotAccepted h follows = absurd h

pub write_reached : (Sink : Type 0) (status : Status) → IsWriteStatus Sink status → reaches_disk status ≡ true
write_reached Sink Done h = refl
write_reached Sink (BadWords place) h = absurd h
write_reached Sink (BadScript line) h = absurd h
write_reached Sink ReadFault h = absurd h
write_reached Sink WriteFault h = refl
write_reached Sink DiskFault h = absurd h
write_reached Sink (BadImage fault) h = absurd h
write_reached Sink NoMemory h = refl
write_reached Sink (TooManyWorkers asked have) h = absurd h
write_reached Sink (TooLong measure) h = absurd h
write_reached Sink (TooSmall need have) h = absurd h
write_reached Sink (WrongHistory line) h = absurd h
write_reached Sink NotAccepted h = absurd h
