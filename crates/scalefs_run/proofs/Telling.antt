-- A check and a verdict tell what is due, where nothing fails.
use Rattle.std.proofs.Common.{◌≡◌, ◌⊎◌, inl, inr, ℕ, ◌<◌, true, List, length, Option, None, refl, sym, ap, subst, ◌∙◌, arith}
use Rattle.sfs_base.proofs.BasicOptions.{some_same}
use Rattle.sfs_base.specs.Ends.{HasRisen}
use Rattle.sfs_dev.specs.Disk.{View}
use Rattle.image_laws.specs.Image.{ImageFault as Fault, fault_of}
use Rattle.image_verdict.specs.Verdicts.{IsCaused, IsDueTo}
use Rattle.image_verdict.specs.declared.judging.Verdict.{Verdict}
use Rattle.image_verdict.specs.declared.judging.Verdict.TheVariants as verdict
use Rattle.sfs_image.specs.Settled.{layout_of}
use Rattle.tree_laws.specs.Tree.{TreeState}
use Rattle.mount_begin.specs.Mounted.{share_of_nodes}
use Rattle.recovery.proofs.JudgedImage.{has_no_fault}
use Rattle.scalefs_run.specs.Checked.{ChecksOver, HasCheckCause, was_checked}
use Rattle.scalefs_run.specs.Complete.{ChecksAreComplete, TellsOfText, VerdictsAreComplete}
use Rattle.scalefs_run.specs.Image.{showing_due}
use Rattle.scalefs_run.specs.Served.{run_ends}
use Rattle.scalefs_run.specs.Verified.{status_of_verdict}
use Rattle.scalefs_run.specs.declared.outcome.Status.{Status}
use Rattle.scalefs_run.specs.declared.outcome.Status.TheVariants.{BadImage, DiskFault, Done, NoMemory, NotAccepted, ReadFault}
use Rattle.scalefs_run.specs.declared.outcome.Status.TheVariants.{TooLong, WriteFault, WrongHistory}

pub checks_are_complete : (old new : View) → ChecksAreComplete old new
checks_are_complete old new nodes ends before after status image text first checks short told tree nothing = by status checks.caused checks.first_is
  where
    Wrote : Type 0
    Wrote = HasRisen ends.sink_before ends.sink_after

    Read : Type 0
    Read = HasRisen ends.source_before ends.source_after

    faultless : checks.checked.fault ≡ None
    faultless = checks.fault_told image told ∙ has_no_fault image (share_of_nodes nodes (layout_of image)) first tree

    -- a tree that was checked over is this one, and the text is this one
    same : (status : Status) → (over : ChecksOver checks.checked.first checks.checked.text Wrote before after status)
        → checks.checked.first ≡ first → ChecksOver first text Wrote before after status
    same status over is =
        subst (λ t. ChecksOver first t Wrote before after status) checks.text_is
        (subst (λ (tree : TreeState). ChecksOver tree checks.checked.text Wrote before after status) is over)

    by : (status : Status) → HasCheckCause checks.checked (run_ends Read Wrote before after old new) status
        → (was_checked status ≡ true → Rattle.scalefs_run.specs.Served.IsFirstTree nodes old checks.checked.first) → TellsOfText first text status
    by Done caused mounted =
        let over = same Done caused.over (some_same (sym ((mounted refl).told image told) ∙ tree)) in
        (over.0, over.1)
    by (WrongHistory line) caused mounted = (same (WrongHistory line) caused.over (some_same (sym ((mounted refl).told image told) ∙ tree))).0
    by WriteFault caused mounted = absurd (nothing.sink caused.over.3)
    by NoMemory caused mounted = tt
    by ReadFault caused mounted = absurd (nothing.source caused.0)
    by DiskFault caused mounted = absurd (nothing.disk caused.0)
    by (BadImage fault) caused mounted = absurd (let never : Done ≡ BadImage fault = sym (ap showing_due faultless) ∙ caused.0 in cc)
    by (TooLong measure) caused mounted =
        let past = subst (λ (t : List ℕ). 268435456 < length t) checks.text_is caused.1 in absurd (omega (arith, past, short))
    by _ caused mounted = absurd caused

-- a verdict that is due is told by the status that is due
due_told : (due : Option Fault) (given : Verdict) → (Sink Disk : Type 0) → IsDueTo due given → IsCaused Sink Disk given → (Sink → ⊥) → (Disk → ⊥)
    → (status_of_verdict given ≡ showing_due due) ⊎ (status_of_verdict given ≡ NoMemory)
due_told due verdict.Sound Sink Disk is cause no_sink no_disk = inl (ap showing_due (sym is))
due_told due (verdict.BadSuper at) Sink Disk is cause no_sink no_disk = inl (ap showing_due (sym is))
due_told due (verdict.BadJournal core slot at) Sink Disk is cause no_sink no_disk = inl (ap showing_due (sym is))
due_told due (verdict.BadImage inode rule) Sink Disk is cause no_sink no_disk = inl (ap showing_due (sym is))
due_told due verdict.NotAccepted Sink Disk is cause no_sink no_disk = absurd is
due_told due verdict.WriteFault Sink Disk is cause no_sink no_disk = absurd (no_sink cause)
due_told due verdict.DiskFailed Sink Disk is cause no_sink no_disk = absurd (no_disk cause)
due_told due verdict.NoMemory Sink Disk is cause no_sink no_disk = inr refl

pub verdicts_are_complete : (old new : View) → VerdictsAreComplete old new
verdicts_are_complete old new ends before after status image verifies told nothing =
    subst (λ (s : Status). (s ≡ showing_due (fault_of image)) ⊎ (s ≡ NoMemory)) (sym verifies.status_is)
    (due_told (fault_of image) verifies.verdict (HasRisen ends.sink_before ends.sink_after) (HasRisen old.faults new.faults) (verifies.given.due image told)
    verifies.given.cause nothing.sink nothing.disk)
