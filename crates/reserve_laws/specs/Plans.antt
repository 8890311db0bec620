-- What an fsync brings by the plan that it made of what it gathered.
use Rattle.std.specs.Prelude.{◌≤◌, List, map, length}
use Rattle.sfs_image.specs.ImageOf.{InodePart}
use Rattle.fmt_journal.specs.declared.tx.TxRecord.{TxRecord}
use Rattle.space_map.specs.Space.{GrantedNumbers}
use Rattle.tree_laws.specs.NameRow.{node_number}
use Rattle.disk_change.specs.Records.{records_written}
use Rattle.commit_laws.specs.CommitOfPlan.{CommitPlan, change_planned}
use Rattle.commit_laws.specs.PartsStand.{part_next}
use Rattle.cut_laws.specs.Closure.{HasLiveNode}
use Rattle.flush_laws.specs.Volume.{Volume}
use Rattle.space_laws.specs.Laws.{ServesAt}
use Rattle.plan_laws.specs.Plans.{Sources, IsPlanFrom, planned_flush, PlansFsync}
use Rattle.plan_laws.specs.Leads.{commit_made_of}
use Rattle.volume_laws.specs.Volume.{IsVolumeStanding}
use Rattle.book_laws.specs.Brings.{Bringing, Brings}

-- the parts that the commit of a plan with a grant gives inodes of a volume
abbrev pub parts_given : Volume → CommitPlan → GrantedNumbers → List InodePart
parts_given volume plan grant =
    map (λ (written : TxRecord). record { inode = written.inode; part = part_next volume.store volume.parts plan grant written.inode })
    (records_written (change_planned plan) grant)

-- what an fsync brings by the plan that is made of what it was planned from, with a grant
abbrev pub bringing_made : (volume : Volume) (from : Sources) → IsPlanFrom from → GrantedNumbers → Bringing
bringing_made volume from plans grant = record {
  flush = planned_flush from.start from.below;
  nodes = map node_number from.plan.nodes.items;
  plan = commit_made_of from plans;
  grant = grant;
  parts = parts_given volume (commit_made_of from plans) grant;
}

-- An fsync of a volume that stands was planned from what it gathered, came in the history or comes next, and has a grant that serves its plan.
pub record MayBring (volume : Volume) (from : Sources) (grant : GrantedNumbers) : Type 0 where
  pub stands : IsVolumeStanding volume
  pub planned : PlansFsync volume from
  pub low : from.below.0 ≤ length volume.history
  pub live : HasLiveNode volume.first volume.history (planned_flush from.start from.below)
  pub serves : ServesAt volume.layout volume.parts (commit_made_of from planned.plans) grant

-- It brings to the volume what is made of that.
abbrev pub PlansBring : Type 0
PlansBring = (volume : Volume) (from : Sources) (grant : GrantedNumbers) → (may : MayBring volume from grant)
    → Brings volume (bringing_made volume from may.planned.plans grant)
