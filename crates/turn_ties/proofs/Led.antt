-- A plan that leads to the cut which an fsync raises has the pages of touched blocks.
use Rattle.std.proofs.Common.{◌≡◌, ◌<◌, Bool, true, false, Option, Some, None, inl, inr, refl, ap, subst, ◌∙◌, arith}
use Rattle.std.proofs.Math.Nat.{max-eq_left}
use Rattle.sfs_base.proofs.BasicTruth.{true_or_false}
use Rattle.disk_change.specs.declared.files.FileChange.{FileChange}
use Rattle.commit_laws.specs.CommitOfPlan.{CommitPlan, has_inode_then}
use Rattle.cut_laws.specs.Closure as closures
use Rattle.cut_laws.specs.Cut.{cut_of}
use Rattle.flush_plan.specs.Plan.{files_written, is_written}
use Rattle.plan_laws.specs.Leads.{LeadsWith}
use Rattle.plan_laws.specs.Plans.{HasFileOf, Sources, PlansFsync}
use Rattle.plan_laws.proofs.Leads.{none_written, unwritten_is_late, written_in_time}
use Rattle.volume_laws.specs.Volume.{IsVolumeStanding}
use Rattle.flush_laws.specs.Volume.{Volume}
use Rattle.turn_ties.specs.Led.{LeadsVolume, planning_led, LedPlansAreTied}
use Rattle.turn_ties.specs.Plans.{HasPlan, ChangesOwnFile}
use Rattle.turn_ties.proofs.OwnFiles.{own_files_are_touched}

module _ (volume : Volume) (from : Sources) (stands : IsVolumeStanding volume) (planned : PlansFsync volume from)
    (led : LeadsWith volume.first volume.history volume.cut volume.inodes from planned.plans) where
  abbrev leads : LeadsVolume volume from
  leads = led.leads

  has : HasPlan volume (planning_led volume from leads)
  has = record { stands = stands; keeps = planned.keeps; raises = leads.raises; inodes_after = leads.inodes_after; plans = leads.leads }

  abbrev written : Bool
  written = is_written from.gathered planned.plans.enter from.start.0 from.below.0

  files_are : leads.commit.files ≡ files_written written from.change
  files_are = ap (λ (commit : CommitPlan). commit.files) led.commit_is

  -- the stamp of a late file stays
  stays : from.below.0 < cut_of volume.cut from.start.0 → cut_of leads.raised from.start.0 ≡ cut_of volume.cut from.start.0
  stays late = leads.raises.member from.start.0 closures.itself ∙ max-eq_left {n = cut_of volume.cut from.start.0} {m = from.below.0} (omega arith)

  own : ChangesOwnFile volume (planning_led volume from leads)
  own = by from.is_file from.change refl planned.file_is
    where
      by : (is_one : Bool) (o : Option FileChange) → from.change ≡ o → HasFileOf volume.first volume.history volume.cut from.start from.below is_one o
          → ChangesOwnFile volume (planning_led volume from leads)
      by false o e (directory, none) = ChangesOwnFile.no_file directory (files_are ∙ ap (files_written written) (e ∙ none) ∙ none_written written)
      by true None e (file, late) = ChangesOwnFile.unwritten file (files_are ∙ ap (files_written written) e ∙ none_written written) (λ _. stays late)
      by true (Some one) e (file, (held, at, changed)) = elim (true_or_false written) [
        | inl is_one ↦
            ChangesOwnFile.own_file held one (files_are ∙ (λ j. files_written (is_one j) (e j))) at changed
            (written_in_time volume from planned is_one)
        | inr none ↦
            ChangesOwnFile.unwritten file (files_are ∙ ap (λ b. files_written b from.change) none)
            (λ then. stays
            (unwritten_is_late volume from planned none (subst (λ (commit : CommitPlan). has_inode_then commit from.start.0 ≡ true) led.commit_is then)))
      ]

pub led_plans_are_tied : LedPlansAreTied
led_plans_are_tied volume from stands planned led = record {
  has = has volume from stands planned led;
  touched = own_files_are_touched volume (planning_led volume from led.leads) (has volume from stands planned led) (own volume from stands planned led);
}
