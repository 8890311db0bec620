-- A disk that changes keeps the laws of a disk.
use Rattle.std.proofs.Common.{◌≡◌, ◌*◌, ℕ, List, length, Some}
use Rattle.sfs_dev.specs.Disk.{images}
use Rattle.test_odd_ends.specs.declared.changing.Changing.{Changing}
use Rattle.test_odd_ends.specs.Changing.{changing_view}

-- it tells no content, so none is of another size
pub changing_whole : (disk : Changing) (content : List ℕ) → (changing_view disk).content ≡ Some content → length content ≡ 4096 * (changing_view disk).size
changing_whole disk content told = cc

-- nor is there one that is no image
pub changing_left : (disk : Changing) (content : List ℕ) → (changing_view disk).content ≡ Some content → images (changing_view disk) content
changing_left disk content told = tt
