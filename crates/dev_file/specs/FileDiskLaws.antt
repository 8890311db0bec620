-- A disk over a file keeps the laws of a disk.
use Rattle.std.proofs.Common.{◌≡◌, ◌*◌, ℕ, List, length, Some}
use Rattle.sfs_dev.specs.Disk.{images}
use Rattle.dev_file.specs.declared.file_disk.FileDisk.{FileDisk}
use Rattle.dev_file.specs.FileDisk.{file_view}

-- it tells no content, so none is of another size
pub file_whole : (disk : FileDisk) (content : List ℕ) → (file_view disk).content ≡ Some content → length content ≡ 4096 * (file_view disk).size
file_whole disk content told = cc

-- nor is there one that is no image
pub file_left : (disk : FileDisk) (content : List ℕ) → (file_view disk).content ≡ Some content → images (file_view disk) content
file_left disk content told = tt
