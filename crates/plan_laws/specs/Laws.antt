-- The laws of the plans that fsyncs make of what they have gathered, each of which a function of the module laws proves.
use Rattle.std.specs.Prelude.{◌≡◌, ℕ, ◌≤◌, true}
use Rattle.cut_laws.specs.Closure.{HasLiveNode}
use Rattle.cut_laws.specs.Cut.{cut_of}
use Rattle.flush_laws.specs.Volume.{Volume}
use Rattle.flush_plan.specs.Plan.{is_written}
use Rattle.plan_laws.specs.Leads.{LeadsWith}
use Rattle.plan_laws.specs.Plans.{planned_flush, Sources, PlansFsync}

-- What an fsync plans of what it has gathered leads to the cut that it raises.
abbrev pub PlansLeadToCuts : Type 0
PlansLeadToCuts = (volume : Volume) (from : Sources) → (is : PlansFsync volume from)
    → LeadsWith volume.first volume.history volume.cut volume.inodes from is.plans

-- It writes of its own file where the node is alive at the fsync's stamp and no cut is above that.
abbrev pub LiveFilesAreWritten : Type 0
LiveFilesAreWritten = (volume : Volume) (from : Sources) → (is : PlansFsync volume from)
    → HasLiveNode volume.first volume.history (planned_flush from.start from.below) → ((node : ℕ) → cut_of volume.cut node ≤ from.below.0)
    → from.is_file ≡ true → is_written from.gathered is.plans.enter from.start.0 from.below.0 ≡ true
