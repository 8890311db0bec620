-- What an fsync brings to the disk of a volume, while others become durable.
use Rattle.std.specs.Prelude.{◌≡◌, ℕ, Bool, true, false, List, Contains}
use Rattle.sfs_image.specs.ImageOf.{InodePart}
use Rattle.space_map.specs.Space.{GrantedNumbers}
use Rattle.disk_nodes.specs.declared.old.OldEntry.{OldEntry}
use Rattle.disk_change.specs.Directory.{is_among}
use Rattle.disk_change.specs.declared.files.FileChange.{FileChange}
use Rattle.commit_laws.specs.CommitOfPlan.{CommitPlan}
use Rattle.cut_laws.specs.Closure.{Flush}
use Rattle.cut_laws.specs.Cut.{Cut}
use Rattle.flush_laws.specs.Journal.{parts_brought}
use Rattle.flush_laws.specs.Laws.{IsStoreLeft}
use Rattle.flush_laws.specs.Planned.{IsPlannedFsync}
use Rattle.flush_laws.specs.Volume.{Volume, OneFsync, volume_left}
use Rattle.volume_laws.specs.Stores.{ComesNow}
use Rattle.turn_ties.specs.Plans.{planning_of, HasTouchedPages}

-- What an fsync brings, as it was planned: the nodes that it concerns, the plan with its grant, and the parts that it gives inodes.
pub record Bringing : Type 0 where
  pub flush : Flush
  pub nodes : List ℕ
  pub plan : CommitPlan
  pub grant : GrantedNumbers
  pub parts : List InodePart

-- the fsync of a volume that brings it: where it raises the cut to, which nodes then have an inode, and what memory keeps of the disk are those of
-- the volume
abbrev pub one_of : Bringing → Cut → (ℕ → Bool) → List OldEntry → OneFsync
one_of bringing raised after entries = record {
  flush = bringing.flush;
  raised = raised;
  after = after;
  nodes = bringing.nodes;
  entries = entries;
  plan = bringing.plan;
  grant = bringing.grant;
}

-- An fsync brings this to a volume: it is planned for it and comes now, changes only files that it concerns, has pages of the blocks that changes
-- touch, and gives inodes these parts.
pub record Brings (volume : Volume) (bringing : Bringing) : Type 0 where
  pub raised : Cut
  pub after : ℕ → Bool
  pub entries : List OldEntry
  pub planned : IsPlannedFsync volume (one_of bringing raised after entries)
  pub comes : ComesNow volume (one_of bringing raised after entries)
  pub files : (change : FileChange) → Contains bringing.plan.files change → is_among bringing.nodes change.node.0 ≡ true
  pub touched : HasTouchedPages volume (planning_of (one_of bringing raised after entries))
  pub parts : parts_brought volume (one_of bringing raised after entries) ≡ bringing.parts

-- the fsync
abbrev pub brought_by : {volume : Volume} (bringing : Bringing) → Brings volume bringing → OneFsync
brought_by bringing brings = one_of bringing brings.raised brings.after brings.entries

-- Two fsyncs share no node that they concern, and no inode and no block that they were granted.
pub record BringApart (mine theirs : Bringing) : Type 0 where
  pub nodes : (node : ℕ) → is_among mine.nodes node ≡ true → is_among theirs.nodes node ≡ false
  pub inodes : (i : ℕ) → Contains mine.grant.inodes i → Contains theirs.grant.inodes i → ⊥
  pub blocks : (block : ℕ) → Contains mine.grant.blocks block → Contains theirs.grant.blocks block → ⊥

-- Two fsyncs bring something to one volume, and share nothing; one of them leaves these blocks.
pub record EndsBeside (volume : Volume) (mine theirs : Bringing) (later : ℕ → List ℕ) : Type 0 where
  pub stays : Brings volume mine
  pub ends : Brings volume theirs
  pub apart : BringApart mine theirs
  pub left : IsStoreLeft volume (brought_by theirs ends) later

-- What an fsync brings to a volume it brings to it also once such another one is on the disk.
abbrev pub BringingsStay : Type 0
BringingsStay = (volume : Volume) (mine theirs : Bringing) (later : ℕ → List ℕ) → (beside : EndsBeside volume mine theirs later)
    → Brings (volume_left volume (brought_by theirs beside.ends) later) mine
