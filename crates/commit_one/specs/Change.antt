-- What a commit makes of the parts that an image stands for.
use Rattle.std.specs.Prelude.{◌≡◌, ◌≢◌, ℕ, ◌<◌, All, List, map, length, slice_index_or, Option, None, Some}
use Rattle.sfs_image.specs.ImageOf.{InodePart, Transaction, TurnsInto, PointsToData, with_opened, with_slot, IsImageOf}
use Rattle.sfs_image.specs.Journal.{Entry}
use Rattle.sfs_image.specs.Part.{Part, pointer_at}
use Rattle.journal_one.specs.Job.{Place, Job, no_block, HaveOwnBlocks}
use Rattle.journal_one.specs.Packed.{Contents}

-- no slot is open
abbrev pub nothing_open : ℕ → Option Transaction
nothing_open k = None

-- an inode and the record of its part
abbrev pub entry_of_part : InodePart → Entry
entry_of_part own = record { inode = own.inode; bytes = own.part.raw }

-- the transaction of a commit that gives these parts
abbrev pub transaction_of : Job → List InodePart → Transaction
transaction_of job new = record { stamp = job.stamp; parts = new }

-- the slot of a commit is open with it, and no other slot
abbrev pub opened_by : Job → List InodePart → ℕ → Option Transaction
opened_by job new = with_slot nothing_open job.place.slot (Some (transaction_of job new))

-- the parts once a commit has given some inodes these
abbrev pub parts_after : Job → (ℕ → Part) → List InodePart → ℕ → Part
parts_after job parts new = with_opened job.place.layout (opened_by job new) parts

-- An image before the commit: it stands for the old parts, with no slot open.
abbrev pub IsBefore : Job → (ℕ → Part) → List ℕ → Type 0
IsBefore job parts image = IsImageOf job.place.layout nothing_open parts image

-- An image in which the commit counts by its slot.
abbrev pub IsByItsSlot : Job → (ℕ → Part) → List InodePart → List ℕ → Type 0
IsByItsSlot job parts new image = IsImageOf job.place.layout (opened_by job new) parts image

-- An image after the commit: it stands for the new parts, with no slot open.
abbrev pub IsAfter : Job → (ℕ → Part) → List InodePart → List ℕ → Type 0
IsAfter job parts new image = IsImageOf job.place.layout nothing_open (parts_after job parts new) image

-- no fresh block is one that a part points to
abbrev pub AreFree : Job → (ℕ → Part) → Type 0
AreFree job parts =
    (i place k : ℕ) → i < job.place.layout.inodes → k < length job.fresh → pointer_at (parts i) place ≢ 0
    → (slice_index_or job.fresh k no_block).block ≢ pointer_at (parts i) place

-- A commit's records are those of these parts, into each of which its fresh blocks turn the old part of the inode; they point to data;
-- and no fresh block is written twice, or is one that an old part points to.
pub record IsChangeOf (job : Job) (parts : ℕ → Part) (new : List InodePart) : Type 0 where
  pub records : map entry_of_part new ≡ job.entries
  pub turns : All (λ (own : InodePart). TurnsInto job.fresh (parts own.inode) own.part) new
  pub pointers : All (λ (own : InodePart). PointsToData job.place.layout own.part) new
  pub own : HaveOwnBlocks job.fresh
  pub free : AreFree job parts

-- the commit of a transaction through a slot, under a commit stamp
abbrev pub job_for : Place → Contents → ℕ → Job
job_for place contents stamp = record { place = place; stamp = stamp; entries = contents.entries; fresh = contents.fresh }
