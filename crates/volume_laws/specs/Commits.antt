-- What the commit of an fsync makes of a volume.
use Rattle.std.specs.Prelude.{◌≡◌, ℕ, ◌<◌, All, [], Some, Ok}
use Rattle.sfs_dev.specs.Disk.{View, images}
use Rattle.sfs_dev.specs.Steps.{IfTold}
use Rattle.sfs_image.specs.ImageOf.{IsImageOf}
use Rattle.sfs_image.specs.Journal.{Entry as JournalEntry}
use Rattle.sfs_image.specs.Part.{Part}
use Rattle.fmt_journal.specs.declared.tx.Tx.{Tx}
use Rattle.journal_one.specs.Job.{Place, Job, LiesInData}
use Rattle.journal_one.specs.Known.{EachLeft}
use Rattle.journal_one.specs.Packed.{contents_of}
use Rattle.commit_one.specs.Carried.{Carries}
use Rattle.commit_one.specs.Change.{nothing_open, job_for}
use Rattle.disk_change.specs.Records.{records_written}
use Rattle.disk_change.specs.Written.{IsTransactionOf}
use Rattle.commit_laws.specs.CommitOfPlan.{change_planned}
use Rattle.crash_laws.specs.Wrote.{Wrote}
use Rattle.flush_laws.specs.Journal.{AreSpelled, ShowsCommit, HasJob, IsSpelled, parts_brought}
use Rattle.flush_laws.specs.Volume.{Volume, OneFsync, tree_held, tree_raised, parts_left}
use Rattle.flush_laws.specs.Planned.{IsPlannedFsync}

-- each image of a disk, where it tells what a read gives, stands for the parts of a volume with no journal slot open
abbrev pub HoldsParts : Volume → (ℕ → Part) → View → Type 0
HoldsParts volume parts disk = EachLeft disk (IsImageOf volume.layout nothing_open parts)

-- After an Ok of its commit each image stands for the parts that the fsync leaves.
abbrev pub OkCommitsGoOn : View → View → Type 0
OkCommitsGoOn old now = (volume : Volume) (one : OneFsync) (job : Job) → HasJob volume one job
    → Carries {V = ℕ} {E = ℕ} job volume.parts (parts_brought volume one) old now (Ok 0)
    → HoldsParts volume (parts_left volume one) now

-- A planned fsync has nothing to write: none of its records differs from what the disk has, and each image stands for the parts.
pub record HasNothingToWrite (volume : Volume) (one : OneFsync) (disk : View) : Type 0 where
  pub planned : IsPlannedFsync volume one
  pub spelled : IsSpelled volume
  pub none : records_written (change_planned one.plan) one.grant ≡ []
  pub holds : HoldsParts volume volume.parts disk
  pub leaves : IfTold disk.content (images disk)

-- Then it leaves the parts as they are, the disk holds them, and it is durable at once.
pub record IsWrittenAlready (volume : Volume) (one : OneFsync) (disk : View) : Type 0 where
  pub same : (i : ℕ) → i < volume.layout.inodes → parts_left volume one i ≡ volume.parts i
  pub spelled : AreSpelled volume.layout.inodes (parts_left volume one)
  pub holds : HoldsParts volume (parts_left volume one) disk
  pub wrote : IfTold disk.content (λ _. (share : ℕ) → Wrote share (tree_held volume) (tree_raised volume one) disk disk (Some disk.now))

abbrev pub EmptyCommitsWrite : View → Type 0
EmptyCommitsWrite disk = (volume : Volume) (one : OneFsync) → HasNothingToWrite volume one disk → IsWrittenAlready volume one disk

-- A transaction was built of a planned fsync, for the first slot of the volume's disk.
pub record WasBuilt (volume : Volume) (one : OneFsync) (tx : Tx) (place : Place) : Type 0 where
  pub planned : IsPlannedFsync volume one
  pub spelled : IsSpelled volume
  pub built : IsTransactionOf (change_planned one.plan) one.grant tx
  pub layout : place.layout ≡ volume.layout
  pub slot : place.slot ≡ 0

-- A transaction can be committed: its job is that of the fsync, its records are of inodes of the disk, and its fresh blocks lie in the data
-- area; it changes the parts to those that the fsync leaves, which are spelled too, and shows the tree before and the tree after.
pub record CanCommit (volume : Volume) (one : OneFsync) (tx : Tx) (place : Place) (stamp : ℕ) : Type 0 where
  pub job : HasJob volume one (job_for place (contents_of tx) stamp)
  pub below : All (λ (entry : JournalEntry). entry.inode < place.layout.inodes) (contents_of tx).entries
  pub in_data : All (LiesInData place.layout) (contents_of tx).fresh
  pub spelled : AreSpelled volume.layout.inodes (parts_left volume one)
  pub shows : (share : ℕ)
      → ShowsCommit share (tree_held volume) (tree_raised volume one) (job_for place (contents_of tx) stamp) volume.parts (parts_left volume one)
      (parts_brought volume one)

abbrev pub BuiltJobsWritePlans : Type 0
BuiltJobsWritePlans = (volume : Volume) (one : OneFsync) (tx : Tx) (place : Place) (stamp : ℕ) → WasBuilt volume one tx place
    → CanCommit volume one tx place stamp
