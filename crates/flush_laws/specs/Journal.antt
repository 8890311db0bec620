-- The commit of an fsync through a journal slot, and what a crash leaves of it.
use Rattle.std.specs.Prelude.{◌≡◌, ℕ, ◌<◌, List, map, Some, None, Result, Ok, Err}
use Rattle.sfs_dev.specs.Disk.{View, images}
use Rattle.sfs_dev.specs.Run.{CountsOn, Advances}
use Rattle.sfs_dev.specs.Steps.{IfTold}
use Rattle.sfs_image.specs.ImageOf.{InodePart}
use Rattle.sfs_image.specs.Inode.{inode_bytes}
use Rattle.sfs_image.specs.Part.{Part, inode_in}
use Rattle.sfs_image.specs.Settled.{slot_count}
use Rattle.tree_laws.specs.Tree.{TreeState}
use Rattle.fmt_journal.specs.declared.tx.TxRecord.{TxRecord}
use Rattle.journal_one.specs.Job.{Job}
use Rattle.journal_one.specs.Packed.{record_entry}
use Rattle.commit_one.specs.Carried.{Carries, TakesCalls, durable_at, device_calls}
use Rattle.commit_one.specs.Change.{IsChangeOf, parts_after, IsBefore, IsByItsSlot, IsAfter}
use Rattle.image_laws.specs.Image.{IsReadAsTree}
use Rattle.space_map.specs.Space.{GrantedNumbers}
use Rattle.disk_change.specs.Records.{records_written}
use Rattle.commit_laws.specs.CommitOfPlan.{CommitPlan, change_planned}
use Rattle.commit_laws.specs.PartsMade.{blocks_planned}
use Rattle.commit_laws.specs.PartsStand.{part_next}
use Rattle.crash_laws.specs.Wrote.{Wrote}
use Rattle.flush_laws.specs.Planned.{IsPlannedFsync}
use Rattle.flush_laws.specs.Volume.{Volume, OneFsync, tree_held, tree_raised, parts_left}

-- A job writes what a plan's commit writes: its records and its fresh blocks.
pub record WritesPlan (plan : CommitPlan) (grant : GrantedNumbers) (job : Job) : Type 0 where
  pub slot : job.place.slot < slot_count job.place.layout
  pub entries : job.entries ≡ map record_entry (records_written (change_planned plan) grant)
  pub fresh : job.fresh ≡ blocks_planned plan grant

-- each record of the disk is spelled as its inode is
abbrev pub AreSpelled : ℕ → (ℕ → Part) → Type 0
AreSpelled count parts = (i : ℕ) → i < count → inode_bytes (inode_in (parts i)) ≡ (parts i).raw

-- the parts that an fsync's commit gives: those of its records
abbrev pub parts_brought : Volume → OneFsync → List InodePart
parts_brought volume one =
    map (λ (written : TxRecord). record { inode = written.inode; part = parts_left volume one written.inode }) (records_written (change_planned one.plan) one.grant)

-- the records of a volume's disk are spelled as their inodes are
abbrev pub IsSpelled : Volume → Type 0
IsSpelled volume = AreSpelled volume.layout.inodes volume.parts

-- A planned fsync has a job that writes its plan, through a slot of the volume's disk.
pub record HasJob (volume : Volume) (one : OneFsync) (job : Job) : Type 0 where
  pub planned : IsPlannedFsync volume one
  pub spelled : IsSpelled volume
  pub layout : job.place.layout ≡ volume.layout
  pub writes : WritesPlan one.plan one.grant job

-- What a job's commit is: it changes the parts to those after it, and an image is read as the tree at the cut before it, and by its slot or behind it as
-- the tree at the raised cut.
pub record ShowsCommit (share : ℕ) (old new : TreeState) (job : Job) (parts next : ℕ → Part) (given : List InodePart) : Type 0 where
  pub change : IsChangeOf job parts given
  pub after : (i : ℕ) → i < job.place.layout.inodes → parts_after job parts given i ≡ next i
  pub before_shows : (image : List ℕ) → IsBefore job parts image → IsReadAsTree image share old
  pub slot_shows : (image : List ℕ) → IsByItsSlot job parts given image → IsReadAsTree image share new
  pub after_shows : (image : List ℕ) → IsAfter job parts given image → IsReadAsTree image share new
  pub spelled : AreSpelled job.place.layout.inodes next

abbrev pub JobsShowCommits : Type 0
JobsShowCommits = (volume : Volume) (one : OneFsync) (job : Job) (share : ℕ) → HasJob volume one job
    → ShowsCommit share (tree_held volume) (tree_raised volume one) job volume.parts (parts_left volume one) (parts_brought volume one)

-- What the device calls of a job's commit owe, where nobody else writes the disk meanwhile: at first each image is as before; time goes on, as long as
-- the count of calls has not come to its last value; what a read gives is always left by a crash; and the commit is carried.
pub record CarriesCommit {V E : Type 0} (job : Job) (parts : ℕ → Part) (given : List InodePart) (old now : View) (result : Result V E) : Type 0 where
  pub content : List ℕ
  pub tells : old.content ≡ Some content
  pub counts : CountsOn now
  pub goes : Advances old now
  pub takes : TakesCalls (device_calls job) old now result
  pub carried : Carries job parts given old now result
  pub leaves_content : IfTold now.content (images now)

-- Then a crash at each moment leaves the old tree or the new one, and from the durable moment on the new one; and after Ok the disk holds it.
abbrev pub CarriedCommitsWrite : View → View → Type 0
CarriedCommitsWrite old now =
    (share : ℕ) (before next_tree : TreeState) (job : Job) (parts next : ℕ → Part) (given : List InodePart)
    → ShowsCommit share before next_tree job parts next given
    → CarriesCommit {V = ℕ} {E = ℕ} job parts given old now (Ok 0) → Wrote share before next_tree old now (Some (durable_at old.now job))

-- And where one failed, it leaves the one or the other.
abbrev pub DoubtfulCommitsWrite : View → View → Type 0
DoubtfulCommitsWrite old now =
    (share : ℕ) (before next_tree : TreeState) (job : Job) (parts next : ℕ → Part) (given : List InodePart)
    → ShowsCommit share before next_tree job parts next given
    → CarriesCommit {V = ℕ} {E = ℕ} job parts given old now (Err 0) → Wrote share before next_tree old now None
