-- An fsync of a volume whose plan leads to the cut that it raises.
use Rattle.std.specs.Prelude.{map}
use Rattle.tree_laws.specs.NameRow.{node_number}
use Rattle.plan_laws.specs.Leads.{LeadsToCut, LeadsWith}
use Rattle.plan_laws.specs.Plans.{planned_flush, Sources, PlansFsync}
use Rattle.volume_laws.specs.Volume.{IsVolumeStanding}
use Rattle.flush_laws.specs.Volume.{Volume}
use Rattle.turn_ties.specs.Plans.{Planning, HasPlan, HasTouchedPages}

-- its plan leads to the cut that it raises
abbrev pub LeadsVolume : Volume → Sources → Type 0
LeadsVolume volume from = LeadsToCut volume.first volume.history volume.cut volume.inodes (planned_flush from.start from.below) from.entries from.plan

-- what the fsync then comes to
abbrev pub planning_led : (volume : Volume) (from : Sources) → LeadsVolume volume from → Planning
planning_led volume from leads = record {
  flush = planned_flush from.start from.below;
  raised = leads.raised;
  after = leads.after;
  nodes = map node_number from.plan.nodes.items;
  entries = from.entries;
  plan = leads.commit;
}

-- An fsync of a volume has a plan whose pages are those of touched blocks.
pub record IsTied (volume : Volume) (planning : Planning) : Type 0 where
  pub has : HasPlan volume planning
  pub touched : HasTouchedPages volume planning

-- So it is of each plan that leads to the cut by the commit that is made of what it was planned from.
abbrev pub LedPlansAreTied : Type 0
LedPlansAreTied = (volume : Volume) (from : Sources) → IsVolumeStanding volume → (planned : PlansFsync volume from)
    → (led : LeadsWith volume.first volume.history volume.cut volume.inodes from planned.plans) → IsTied volume (planning_led volume from led.leads)
