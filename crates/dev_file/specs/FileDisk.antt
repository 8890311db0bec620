-- A disk over a file of the operating system as contracts see it.
use Rattle.std.specs.Prelude.{ℕ, None}
use Rattle.sfs_dev.specs.Disk.{View}
use Rattle.dev_file.specs.declared.file_disk.FileDisk.{FileDisk}

-- how many blocks it has, whatever the file's length: 1 GiB
abbrev pub FILE_DISK_BLOCKS : ℕ
FILE_DISK_BLOCKS = 262144

-- it tells its size and its two counts, and nothing of what it holds: a crash may leave any image
abbrev pub file_view : FileDisk → View
file_view disk = record { size = FILE_DISK_BLOCKS; content = None; now = disk.now; faults = disk.faults; crash_images = λ _ _. Unit {0} }
