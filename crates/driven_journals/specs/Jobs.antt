-- What a job may write on a disk.
use Rattle.std.specs.Prelude.{◌<◌, ◌≤◌, ℕ}
use Rattle.sfs_image.specs.Super.{IsLayout, Layout, data_start}
use Rattle.driven_journals.specs.declared.job.Job.{Job}

-- A job and the block that was granted for it lie on a disk of this layout.
pub record IsWithin (layout : Layout) (job : Job) (block : ℕ) : Type 0 where
  pub valid : IsLayout layout.blocks layout
  pub low : data_start layout ≤ block
  pub high : block < layout.blocks
  pub order : job.inode < job.shared
  pub below : job.shared < layout.inodes
