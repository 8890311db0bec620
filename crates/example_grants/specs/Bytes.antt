-- An image in bytes, with which the disk may begin.
use Rattle.std.specs.Prelude.{◌++◌, ℕ, List}
use Rattle.sfs_image.specs.Bytes.{zeros}
use Rattle.sfs_image.specs.Inode.{inode_bytes}
use Rattle.sfs_image.specs.SlotBlock.{slots_bytes}
use Rattle.sfs_image.specs.Super.{super_bytes}
use Rattle.example_grants.specs.Disk.{IsFilesImage}
use Rattle.example_grants.specs.Image.{FIFTEEN_BLOCKS, ROOT_RECORD, EMPTY_FILE, TWO_ROWS}

-- the superblock, two shut slots, the table with three records, a free block, the root's block, and two free blocks
unfoldable pub FILES_IMAGE : List ℕ
FILES_IMAGE =
    super_bytes FIFTEEN_BLOCKS
    ++ (zeros 32768
    ++ (inode_bytes ROOT_RECORD
    ++ (inode_bytes EMPTY_FILE ++ (inode_bytes EMPTY_FILE ++ (zeros 10752 ++ (slots_bytes TWO_ROWS ++ zeros 8192))))))

-- There is an image that stands for the two files.
abbrev pub FilesImageStands : Type 0
FilesImageStands = IsFilesImage FILES_IMAGE
