-- That the pair of a core may be open, by what the core gathered and what it was told.
use Rattle.std.specs.Prelude.{◌≡◌, ◌≤◌, map, List, length}
use Rattle.space_map.specs.Space.{GrantedNumbers}
use Rattle.tree_laws.specs.NameRow.{node_number}
use Rattle.cut_laws.specs.Rules.{IsOneOf}
use Rattle.beside_laws.specs.Commits.{CoreCommit, commit_fsync}
use Rattle.beside_laws.specs.Progress.{Standing, KnownAtReserving, IsLater}
use Rattle.dep_closure.specs.Gathered.{look_of, IsOrderly}
use Rattle.dep_closure.specs.declared.gathered.DirectoryChanges.{DirectoryChanges}
use Rattle.dep_closure.specs.History.{IsLogOf}
use Rattle.flush_laws.specs.Volume.{Volume}
use Rattle.flush_laws.specs.Ready.{KeepsEntries}
use Rattle.flush_laws.specs.Planned.{HasOldEntries}
use Rattle.space_laws.specs.Laws.{ServesAt}
use Rattle.flush_plan.specs.Concerned.{IsConcernOf}
use Rattle.mark_laws.specs.Changed.{HasShortFiles}
use Rattle.plan_laws.specs.Plans.{Sources, HasFileOf, IsPlanFrom}
use Rattle.plan_laws.specs.Leads.{LeadsWith, commit_made_of, found_from}
use Rattle.volume_laws.specs.Volume.{IsVolumeStanding}
use Rattle.book_laws.specs.Brings.{Brings}
use Rattle.book_laws.specs.Pairs.{run_with, Pair, IsOpenBeside}
use Rattle.reserve_laws.specs.Plans.{bringing_made}

-- What a core planned its commit from: what it gathered is the commit's look, with logs of the entries that count; and what it had of the disk is what
-- memory keeps of a volume.
pub record IsGatheredFor (volume : Volume) (commit : CoreCommit) (from : Sources) : Type 0 where
  pub look : look_of from.start from.below from.gathered ≡ commit.look
  pub logs : (log : DirectoryChanges) → IsOneOf from.gathered.logs.items log → IsLogOf volume.first volume.history commit.counts log
  pub keeps : KeepsEntries volume.num volume.parts from.entries
  pub orderly : IsOrderly from.gathered
  pub concern_is : IsConcernOf from.start from.below from.gathered from.concern
  pub old_is : HasOldEntries (map node_number from.concern.nodes.items) from.entries from.old
  pub file_is : HasFileOf volume.first volume.history volume.cut from.start from.below from.is_file from.change
  pub plans : IsPlanFrom from

-- A volume beside which some commits are done, and one is known as it reserves: the volume stands, no file of its mount's tree is too long, and the
-- commit's stamp is at most the count of entries so far.
pub record MayPlan (volume : Volume) (done : List CoreCommit) (commit : CoreCommit) : Type 0 where
  pub stands : IsVolumeStanding volume
  pub short : HasShortFiles volume.first
  pub standing : Standing (run_with volume done)
  pub known : KnownAtReserving (run_with volume done) commit
  pub low : (commit_fsync commit).stamp ≤ length volume.history

-- Its plan leads to the cut that it raises from the volume's, whatever else is open; and with each grant that serves the plan it brings what is made
-- of it.
pub record LookBrings (volume : Volume) (from : Sources) (plans : IsPlanFrom from) : Type 0 where
  pub led : LeadsWith volume.first volume.history volume.cut volume.inodes from plans
  pub brings : (grant : GrantedNumbers) → ServesAt volume.layout volume.parts (commit_made_of from plans) grant
      → Brings volume (bringing_made volume from plans grant)

-- So it is of each commit that was planned so.
abbrev pub LooksBring : Type 0
LooksBring = (volume : Volume) (done : List CoreCommit) (commit : CoreCommit) (from : Sources) → MayPlan volume done commit
    → (gathered : IsGatheredFor volume commit from) → LookBrings volume from gathered.plans

-- What a core tells of its pair as it reserves: its commit was planned so, found of its nodes what it gathered of them, and is later than those that
-- are done; and the pair brings what is made of the plan.
pub record CoreTells (volume : Volume) (done : List CoreCommit) (pair : Pair) (from : Sources) : Type 0 where
  pub may : MayPlan volume done pair.commit
  pub gathered : IsGatheredFor volume pair.commit from
  pub found : pair.commit.makes.found ≡ found_from from
  pub later : IsLater done pair.commit
  pub one : pair.one ≡ bringing_made volume from gathered.plans pair.one.grant

-- the grant of a pair serves its plan
abbrev pub ServesPair : Volume → Pair → Type 0
ServesPair volume pair = ServesAt volume.layout volume.parts pair.one.plan pair.one.grant

-- Then the pair is open beside the volume, with a grant that serves.
abbrev pub CoresOpen : Type 0
CoresOpen = (volume : Volume) (done : List CoreCommit) (pair : Pair) (from : Sources) → CoreTells volume done pair from → ServesPair volume pair
    → IsOpenBeside volume done pair
